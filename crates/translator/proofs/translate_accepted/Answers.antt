-- `translator::translate_accepted` meets its contract: an output that is too short, or the translation written.
use Rattle.call_labels.proofs.CallLabels.{none_passed}
use Rattle.translation_length.proofs.WordCounts.{room_decides}
use Rattle.translator.proofs.Promises.{refused_output, output_written}
use Rattle.translator.proofs.translate_accepted.Goals as goal

pub label_nodes-requires : goal.label_nodes-requires
label_nodes-requires c =
    none_passed c.requires c.class_nodes.ensures

pub returns-in_err-require : goal.returns-in_err-require
returns-in_err-require c =
    let error = c.in_err-require in
    let refusal = room_decides _ _ c.requires.sheet.accepted (rw c.fits.ensures at error.ensures) in
    refused_output c.from_residual.result error.field-0.0 c.from_residual.ensures.1 refusal

pub returns : goal.returns
returns c =
    output_written _ c.requires.sheet.accepted c.fits.ensures c.in_ok-require.ensures c.write-length.ensures
