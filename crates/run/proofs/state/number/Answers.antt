-- `run::state::number` meets its contract.
use Rattle.run.specs.States.{ending_of, value_of}
use mir.ValLaws.{to_z-of_z}
use mir.Syntax.{w32}
use mathlib.Core.Path.{refl}
use Rattle.run.proofs.state.number.Goals as goal

pub returns : goal.returns
unfolding ending_of value_of
returns c = rw (to_z-of_z w32 _ c.ranges.z) refl
