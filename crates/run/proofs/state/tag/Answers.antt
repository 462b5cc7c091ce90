-- `run::state::tag` meets its contract.
use mathlib.Core.Path.{ap, ◌∙◌}
use lib.IntN.{ℤ}
use mir.Syntax.{w32}
use mir.ValLaws.{to_z-of_z}
use Rattle.definitions.specs.Rule.{value, integer}
use borrow.Author.Rules.{rules}
use Rattle.run.proofs.state.tag.Goals as goal

pub returns : goal.returns
returns c =
    c.number.ensures ∙ ap (λ (z : ℤ). value (integer z)) (to_z-of_z w32 _ (record { sfits = search rules }) ∙ c.from.ensures)
