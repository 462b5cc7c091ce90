-- `definitions::refusals::require` meets its contract.
use mathlib.Core.Path.{refl}
use Rattle.definitions.specs.Verdicts.{require}
use Rattle.definitions.proofs.refusals.require.Goals as goal

pub returns-then-test : goal.returns-then-test
unfolding require
returns-then-test c = rw c.if-test.true refl

pub returns : goal.returns
unfolding require
returns c = rw c.if-test.false refl
