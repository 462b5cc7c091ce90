-- `run::state::constructor` meets its contract.
use Rattle.run.specs.States.{ending_of, value_of}
use mathlib.Core.Path.{refl}
use Rattle.run.proofs.state.constructor.Goals as goal

pub returns : goal.returns
unfolding ending_of value_of
returns c = refl
