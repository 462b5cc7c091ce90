-- `hirer::read_for_hirer` meets its contract: the refusals in their order, or the table.
use Rattle.std.proofs.Common.{◌∙◌}
use Rattle.laws.proofs.Refusals.{passed_on}
use Rattle.run.proofs.Answering.{readable_by}
use Rattle.hirer.proofs.Refusals.{file_refused, readings_checked}
use Rattle.hirer.proofs.read_for_hirer.Goals as goal

pub returns-in_err-read_file : goal.returns-in_err-read_file
returns-in_err-read_file c =
    let file = c.in_err-read_file in
    file_refused _ _ (passed_on c.from_residual.result file.field-0.0 c.from_residual.ensures.1) file.ensures

pub check_readings-open-requires : goal.check_readings-open-requires
check_readings-open-requires c = readable_by c.in_ok-read_file.ensures

pub returns : goal.returns
returns c =
    readings_checked _ _ (readable_by c.in_ok-read_file.ensures) (c.from-width.ensures ∙ c.readings.ensures) _ _
    c.check_readings-open.ensures c.require-counted.ensures c.and.ensures
