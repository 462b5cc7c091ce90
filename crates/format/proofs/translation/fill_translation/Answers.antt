-- `format::translation::fill_translation` meets its contract: a refused shape, or the verdict on the references.
use Rattle.format.proofs.Readings.{opened, translation_refused, translation_read}
use mathlib.Core.Path.{refl}
use Rattle.laws.proofs.Refusals.{passed_on}
use Rattle.format.proofs.translation.fill_translation.Goals as goal

pub returns-in_err-file_shape : goal.returns-in_err-file_shape
returns-in_err-file_shape c =
    let refusal = c.in_err-file_shape in
    rw (passed_on c.from_residual.result refusal.field-0.0 c.from_residual.ensures.1) (translation_refused refusal.ensures refl)

pub run_ends-requires : goal.run_ends-requires
run_ends-requires c =
    let pre = c.requires in
    (opened c.in_ok-file_shape.ensures refl, pre.ends_length)

pub references-requires : goal.references-requires
references-requires c =
    opened c.in_ok-file_shape.ensures refl

pub returns : goal.returns
returns c =
    let run_ends = c.run_ends in
    translation_read (opened c.in_ok-file_shape.ensures refl) run_ends.ensures c.references.ensures
