-- `sheet_rules::seen::once` meets its contract.
use Rattle.sheet_rules.proofs.SeenTables.{once_first, once_more}
use Rattle.sheet_rules.proofs.seen.once.Goals as goal

pub returns-then-n-lt1 : goal.returns-then-n-lt1
returns-then-n-lt1 c = search once_first

pub returns-else-n-lt1 : goal.returns-else-n-lt1
returns-else-n-lt1 c = search once_more
