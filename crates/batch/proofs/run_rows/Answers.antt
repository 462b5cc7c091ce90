-- `batch::run_rows` meets its contract: the refusals in their order, or the runs in turn.
use mathlib.Core.Path.{refl}
use Rattle.run.proofs.Answering.{readable_by}
use Rattle.batch.proofs.Refusals.{rows_fit, file_refused, checks_refused, rows_ran}
use Rattle.batch.proofs.run_rows.Goals as goal

pub returns-in_err-read_file : goal.returns-in_err-read_file
returns-in_err-read_file c =
    let file = c.in_err-read_file in
    (file_refused c.from_residual.result file.field-0.0 c.from_residual.ensures.1 file.ensures, refl)

pub returns-in_err-check_rows : goal.returns-in_err-check_rows
returns-in_err-check_rows c =
    let checks = c.in_err-check_rows in
    let passed = c.from_residual-in_err-check_rows in
    (checks_refused c.in_ok-read_file.ensures.verdict passed.result checks.field-0.0 passed.ensures.1 checks.ensures, refl)

pub run_each-requires : goal.run_each-requires
run_each-requires c = (readable_by c.in_ok-read_file.ensures, rows_fit _ _ _ c.in_ok-check_rows.ensures)

pub returns : goal.returns
returns c = (rows_ran c.in_ok-read_file.ensures.verdict c.in_ok-check_rows.ensures c.run_each.ensures.0, c.run_each.ensures.1)
