-- `cells::cell::callee_at` meets its contract.
use Rattle.cells.proofs.Entries.{callee_by}
use Rattle.cells.proofs.cell.callee_at.Goals as goal

pub returns : goal.returns
returns c = callee_by _ c.from.ensures c.index.ensures c.word.ensures
