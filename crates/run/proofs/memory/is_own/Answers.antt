-- `run::memory::is_own` meets its contract.
use mathlib.Core.Path.{refl}
use Rattle.run.proofs.memory.is_own.Goals as goal

pub returns : goal.returns
returns c = (rw c.callee_at.ensures refl, refl)
