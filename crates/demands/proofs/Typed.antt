-- What the calls give for a typed sheet, and for the sheet with its types removed.
use mathlib.Core.Path.{◌≡◌, refl, ◌∙◌}
use Prim.Native.Nat.{ℕ, ◌+◌}
use mathlib.Core.List.{List}
use mathlib.Core.Bool.{true}
use lib.IntN.{ℤ}
use lib.ListN.{length}
use Rattle.definitions.specs.Numbers.{ill_typed, is_fault, is_answer}
use Rattle.definitions.specs.Ranges.{within}
use Rattle.definitions.specs.Layouts.{is_typed, nodes, first_node}
use Rattle.definitions.specs.Types.{type_right, typing, types}
use Rattle.definitions.specs.Checks.{checks_to_six, sheet_verdict}
use Rattle.definitions.specs.Translate.{translation_refusal, translation_answer}
use Rattle.definitions.specs.TypesRemoved.{types_removed}
use Rattle.definitions.specs.Verdict.{Accepted, Refused}
use Rattle.laws.proofs.Verdicts.{then_accepted, require_true, require_false, first_all, first_refused}
use Rattle.agreement.specs.Meaning.{OwnAnswer}
use Rattle.agreement.specs.Answers.{answer_outcome}
use Rattle.typed_sheets.specs.TypeErrors.{NoTypeError}
use Rattle.typed_sheets.proofs.Own.{own_sound}
use Rattle.typed_sheets.proofs.Removed.{removed_accepted, removed_translation}
use Rattle.answer.specs.declared.Answer.{Answer}
use Rattle.answer.specs.Answers.{answer_of}
use Rattle.join.specs.Promise.{join_answer, Joins}
use Rattle.demands.specs.TypedSheets.{FirstIllTyped}
use Rattle.demands.proofs.Refusals.{joining_numbered}
use Rattle.demands.proofs.Own.{after_own}
use Rattle.demands.proofs.OwnInC.{OwnOutcome}

-- 14 and 15 are answers, so that an outcome is neither where an answer is neither
pub no_type_error : (n : ℕ) → (is_answer n ≡ true → NoTypeError n) → NoTypeError n
unfolding is_answer is_fault within
no_type_error n h = record { no_number_wanted = λ e. (h (rw e refl)).no_number_wanted e; no_constructor_wanted = λ e. (h (rw e refl)).no_constructor_wanted e }

module _ (sheet : List ℕ) (rs : List ℤ) (accepted : sheet_verdict sheet ≡ Accepted) (typed : is_typed sheet ≡ true) where
  -- an outcome that is the sheet's own wherever it is an answer
  pub outcome_sound : (n : ℕ) → (is_answer n ≡ true → OwnOutcome sheet rs n) → NoTypeError n
  outcome_sound n h = no_type_error n (λ i. let o = h i in rw (← o.is) (own_sound sheet rs accepted typed o.answer o.own))

  pub answer_sound : (r : Answer) → (is_answer (answer_of r).outcome ≡ true → OwnAnswer sheet rs (answer_outcome (answer_of r))) → NoTypeError (answer_of r).outcome
  unfolding answer_outcome
  answer_sound r h = outcome_sound (answer_of r).outcome (λ i. record { answer = answer_outcome (answer_of r); own = h i; is = refl })

-- the answer of the joined call
pub joined_own : (sheet out : List ℕ) (rs : List ℤ) (steps nesting cells_allowed : ℕ) (before : List ℕ) (r : Answer) (out' after : List ℕ)
    → sheet_verdict sheet ≡ Accepted → Joins sheet out rs steps nesting cells_allowed before r out' after
    → is_answer (answer_of r).outcome ≡ true → OwnAnswer sheet rs (answer_outcome (answer_of r))
unfolding join_answer
joined_own sheet out rs steps nesting cells_allowed before r out' after accepted joins i =
    rw joins.answer
    (after_own sheet accepted rs steps nesting cells_allowed _ (joining_numbered sheet (length out) rs nesting cells_allowed (length before)) (rw joins.answer at i))

-- the reader's answer on a sheet that breaks a rule of types
module _ (sheet : List ℕ) (typed : is_typed sheet ≡ true) (passed : checks_to_six sheet ≡ Accepted) (k : ℕ) (first : FirstIllTyped sheet k) where
  types_refused : types sheet ≡ Refused ill_typed (first_node sheet + k)
  unfolding types typing
  types_refused =
      let before = first_all k (typing sheet) (λ j h. require_true (type_right sheet j) ill_typed (first_node sheet + j) (first.before j h)) in
      let here = require_false (type_right sheet k) ill_typed (first_node sheet + k) first.breaks in
      rw typed (first_refused k (nodes sheet) (typing sheet) ill_typed (first_node sheet + k) first.below before here)

  pub first_ill_typed : sheet_verdict sheet ≡ Refused ill_typed (first_node sheet + k)
  unfolding sheet_verdict
  first_ill_typed = then_accepted _ _ passed ∙ types_refused

-- translating the sheet with its types removed
module _ (sheet : List ℕ) (accepted : sheet_verdict sheet ≡ Accepted) (typed : is_typed sheet ≡ true) (room : ℕ) where
  pub same_refusal : translation_refusal (types_removed sheet) room ≡ translation_refusal sheet room
  unfolding translation_refusal
  same_refusal = rw (removed_accepted sheet accepted typed, accepted, removed_translation sheet accepted typed) refl

  pub same_answer : translation_answer (types_removed sheet) room ≡ translation_answer sheet room
  unfolding translation_answer
  same_answer = rw (same_refusal, removed_translation sheet accepted typed) refl
