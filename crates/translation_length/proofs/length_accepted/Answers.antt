-- `translation_length::length_accepted` meets its contract: the length that was counted, or 8.
use mathlib.Core.Path.{refl}
use native.Mathlib.Omega.{arith}
use Rattle.definitions.specs.Output.{written_of}
use Rattle.definitions.specs.Translate.{translation_answer}
use Rattle.call_labels.proofs.CallLabels.{none_passed}
use Rattle.translation_length.proofs.WordCounts.{some_bytes, refused_answer, last_byte_decides}
use Rattle.translation_length.proofs.length_accepted.Goals as goal

pub label_nodes-requires : goal.label_nodes-requires
label_nodes-requires c = none_passed c.requires c.class_nodes.ensures

pub overflow_sub-length : goal.overflow_sub-length
overflow_sub-length c = omega (arith, some_bytes _ c.args.room c.requires.sheet.accepted c.count_bytes-length.ensures)

pub returns-in_err-require : goal.returns-in_err-require
unfolding translation_answer
returns-in_err-require c =
    let error = c.in_err-require in
    let refusal = last_byte_decides _ _ c.requires.sheet.accepted c.count_bytes-length.ensures error.ensures in
    refused_answer _ c.from_residual.result error.field-0.0 c.from_residual.ensures.1 refusal

pub returns : goal.returns
unfolding translation_answer written_of
returns c =
    let accepted = last_byte_decides _ c.args.room c.requires.sheet.accepted c.count_bytes-length.ensures c.in_ok-require.ensures in
    rw (← accepted, c.count_bytes-length.ensures) refl
