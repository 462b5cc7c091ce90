-- `run::memory::recall` meets its contract.
use mathlib.Core.Path.{refl}
use Rattle.run.proofs.Remembered.{recalled_own, recalled_none}
use Rattle.run.proofs.memory.recall.Goals as goal

pub returns-then-own : goal.returns-then-own
returns-then-own c = (recalled_own c.if-own.true c.entry_at.ensures, refl)

pub returns-else-own : goal.returns-else-own
returns-else-own c = (recalled_none _ c.if-own.false, refl)
