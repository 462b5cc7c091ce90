-- `format::sheet::fill_sheet` meets its contract: a refused shape, or the verdict of the checks after it.
use Rattle.format.proofs.Readings.{opened, sheet_refused, sheet_read}
use mathlib.Core.Path.{refl}
use Rattle.laws.proofs.Refusals.{passed_on}
use Rattle.format.proofs.sheet.fill_sheet.Goals as goal

pub returns-in_err-file_shape : goal.returns-in_err-file_shape
returns-in_err-file_shape c =
    let refusal = c.in_err-file_shape in
    rw (passed_on c.from_residual.result refusal.field-0.0 c.from_residual.ensures.1) (sheet_refused refusal.ensures refl)

pub run_ends-requires : goal.run_ends-requires
run_ends-requires c =
    let pre = c.requires in
    (opened c.in_ok-file_shape.ensures refl, pre.tables.ends_length)

pub run_owners-requires : goal.run_owners-requires
run_owners-requires c =
    let pre = c.requires in
    let run_ends = c.run_ends in
    ((opened c.in_ok-file_shape.ensures refl).accepted, run_ends.ensures, pre.owners_length)

pub checks-requires : goal.checks-requires
checks-requires c =
    let run_ends = c.run_ends in
    let run_owners = c.run_owners in
    (opened c.in_ok-file_shape.ensures refl, run_ends.ensures, run_owners.ensures)

pub returns : goal.returns
returns c =
    let run_ends = c.run_ends in
    let run_owners = c.run_owners in
    sheet_read (opened c.in_ok-file_shape.ensures refl) run_ends.ensures run_owners.ensures c.checks.ensures
