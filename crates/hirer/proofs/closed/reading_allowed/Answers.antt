-- `hirer::closed::reading_allowed` meets its contract.
use mathlib.Core.Path.{refl}
use Rattle.definitions.specs.Hirer.{reading_allowed}
use Rattle.hirer.proofs.closed.reading_allowed.Goals as goal

pub returns : goal.returns
unfolding reading_allowed
returns c = refl
