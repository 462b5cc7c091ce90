-- `batch::checks::check_rows` meets its contract: the three tests in their order.
use Rattle.std.proofs.Common.{◌∙◌}
use Rattle.batch.proofs.Refusals.{checked}
use Rattle.batch.proofs.checks.check_rows.Goals as goal

pub returns : goal.returns
returns c =
    checked _ _ _ _ _ _ _ _ _ _ (c.from-width.ensures ∙ c.readings.ensures) c.rows_allowed.ensures
    c.require-counted.ensures c.require-within.ensures c.require-roomy.ensures c.and.ensures c.and-2.ensures
