-- The rule on a sheet's translation, in which equal calls share a label, agrees with call by name: it has the outcomes that it has with
-- a label for each call.
use mathlib.Core.Path.{◌≡◌, sym, ◌∙◌}
use Prim.Native.Nat.{ℕ}
use mathlib.Core.List.{List}
use mathlib.Core.Bool.{true, false}
use native.Mathlib.Omega.{arith}
use lib.IntN.{ℤ}
use Rattle.definitions.specs.Numbers.{is_stop, is_answer}
use Rattle.definitions.specs.Outcomes.{Outcome}
use Rattle.definitions.specs.Checks.{sheet_verdict}
use Rattle.definitions.specs.Translate.{translation, unshared_translation}
use Rattle.definitions.specs.Verdict.{Accepted}
use Rattle.laws.proofs.Classes.{answer_no_stop}
use Rattle.shared_runs.proofs.Shared.{outcome_kept}
use Rattle.agreement.specs.Meaning.{OwnAnswer}
use Rattle.agreement.specs.Answers.{rule_outcome, RuleGives}
use Rattle.agreement.proofs.Allowances
use Rattle.agreement.proofs.Allowances.{Reaches}
use Rattle.agreement.proofs.Outcomes.{own_answer_law}

module _ (b : List ℕ) (accepted : sheet_verdict b ≡ Accepted) (rs : List ℤ) where
  -- the rule's outcome is kept when equal calls share a label
  kept : (steps nesting cells_allowed : ℕ)
      → rule_outcome (unshared_translation b) rs steps nesting cells_allowed ≡ rule_outcome (translation b) rs steps nesting cells_allowed
  unfolding rule_outcome
  kept steps nesting cells_allowed = outcome_kept b accepted rs steps nesting cells_allowed

  -- an outcome that is no stop is the sheet's own
  pub rule_sound : (steps nesting cells_allowed : ℕ) → is_stop (rule_outcome (translation b) rs steps nesting cells_allowed).outcome ≡ false
      → OwnAnswer b rs (rule_outcome (translation b) rs steps nesting cells_allowed)
  rule_sound steps nesting cells_allowed h =
      let e = kept steps nesting cells_allowed in
      rw e at (Allowances.rule_sound b accepted rs steps nesting cells_allowed (rw e h))

  -- the sheet's own outcome is reached, and had from there on
  pub rule_complete : {a : Outcome} → OwnAnswer b rs a → Reaches (translation b) rs a
  rule_complete o =
      let r = Allowances.rule_complete b accepted rs o in
      record {
        steps = r.steps;
        nesting = r.nesting;
        cells_allowed = r.cells_allowed;
        gives = λ steps nesting cells_allowed p q x. sym (kept steps nesting cells_allowed) ∙ r.gives steps nesting cells_allowed p q x;
      }

  -- the rule gives an answer at some allowances exactly when it is the sheet's own
  pub rule_gives_own : {a : Outcome} → RuleGives (translation b) rs a → is_answer a.outcome ≡ true → OwnAnswer b rs a
  rule_gives_own g h =
      let e = g.gives in
      rw e at (rule_sound g.steps g.nesting g.cells_allowed (answer_no_stop _ (rw e h)))

  pub own_rule_gives : {a : Outcome} → OwnAnswer b rs a → RuleGives (translation b) rs a × (is_answer a.outcome ≡ true)
  own_rule_gives o =
      let r = rule_complete o in (
        record {
          steps = r.steps;
          nesting = r.nesting;
          cells_allowed = r.cells_allowed;
          gives = r.gives r.steps r.nesting r.cells_allowed (omega arith) (omega arith) (omega arith);
        },
        own_answer_law o,
      )
