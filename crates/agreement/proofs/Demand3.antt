-- Demand 3, the sentences about the rule: it agrees with call by name, whatever the accepted sheet and the readings, at allowances
-- that are any whole numbers.
use mathlib.Core.Path.{◌≡◌}
use mathlib.Core.Logic.{◌↔◌}
use Prim.Native.Nat.{ℕ, ◌≤◌}
use mathlib.Core.List.{List}
use mathlib.Core.Bool.{true}
use lib.IntN.{ℤ}
use Rattle.definitions.specs.Outcomes.{Outcome}
use Rattle.definitions.specs.Checks.{sheet_verdict}
use Rattle.definitions.specs.Translate.{translation}
use Rattle.agreement.specs.Meaning.{OwnAnswer}
use Rattle.definitions.specs.Verdict.{Accepted}
use Rattle.agreement.specs.Answers.{rule_outcome, RuleGives}
use Rattle.definitions.specs.Numbers.{is_answer}
use Rattle.laws.proofs.Classes.{answer_no_stop}
use Rattle.agreement.proofs.Allowances.{rule_stays}
use Rattle.agreement.proofs.Shared.{rule_gives_own, own_rule_gives}

module _ (b : List ℕ) (rs : List ℤ) (accepted : sheet_verdict b ≡ Accepted) where
  -- "The evaluation rule taken without ceilings gives a number, constructor or run fault at some allowances exactly when it is
  -- the sheet's own, ..
  pub rule_gives_exactly_own : (a : Outcome) → (RuleGives (translation b) rs a × (is_answer a.outcome ≡ true)) ↔ OwnAnswer b rs a
  rule_gives_exactly_own a = (λ g. rule_gives_own b accepted rs g.0 g.1, own_rule_gives b accepted rs)

  -- .. and then at all allowances each at least as large."
  pub rule_gives_from_there : (steps nesting cells_allowed steps' nesting' cells_allowed' : ℕ)
      → is_answer (rule_outcome (translation b) rs steps nesting cells_allowed).outcome ≡ true
      → steps ≤ steps' → nesting ≤ nesting' → cells_allowed ≤ cells_allowed'
      → rule_outcome (translation b) rs steps' nesting' cells_allowed' ≡ rule_outcome (translation b) rs steps nesting cells_allowed
  rule_gives_from_there steps nesting cells_allowed steps' nesting' cells_allowed' h p q r =
      rule_stays (translation b) rs steps nesting cells_allowed steps' nesting' cells_allowed' p q r (answer_no_stop _ h)
