-- `batch::rows::row_of` meets its contract: the row lies inside the list.
use Rattle.batch.proofs.InTurn.{row_is}
use Rattle.std.proofs.Common.{◌∙◌}
use Rattle.batch.proofs.rows.row_of.Goals as goal

pub returns : goal.returns
returns c = row_is _ _ c.args.row (c.from-width.ensures ∙ c.readings.ensures)
