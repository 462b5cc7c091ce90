-- `file_runs::owner_after` meets its contract.
use Rattle.file_runs.proofs.RunTables.{owner_next, owner_same}
use Rattle.file_runs.proofs.owner_after.Goals as goal

pub returns-then-from-k : goal.returns-then-from-k
returns-then-from-k c = owner_next _ _ _ _ c.from.ensures c.if-from-k.true

pub returns-else-from-k : goal.returns-else-from-k
returns-else-from-k c = owner_same _ c.from.ensures c.if-from-k.false
