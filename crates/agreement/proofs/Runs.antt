-- Runs of an accepted sheet's translation: what they are refused for, that they have the rule's answer otherwise, and that this
-- is a stop or the sheet's own.
use mathlib.Core.Path.{◌≡◌, refl, sym, ap, ◌∙◌}
use Prim.Native.Nat.{ℕ}
use mathlib.Core.List.{List}
use mathlib.Core.Bool.{Bool, true, false, true≢false}
use lib.IntN.{ℤ}
use lib.ListN.{length}
use borrow.Author.Tests.{eq-eqb}
use Rattle.definitions.specs.Numbers.{bad_allowance, is_refusal, is_stop, is_answer}
use Rattle.definitions.specs.Ranges.{within}
use Rattle.definitions.specs.Verdicts.{◌and_then◌, require}
use Rattle.definitions.specs.Layouts.{readings}
use Rattle.definitions.specs.Checks.{sheet_verdict}
use Rattle.definitions.specs.Outcomes.{Outcome}
use Rattle.definitions.specs.Trees.{equal_trees}
use Rattle.definitions.specs.Translate.{translation}
use Rattle.definitions.specs.Run.{Answer, ending_outcome, answer_at, reached_answer, rule_answer, allowances_fit, refusal, run_verdict, answer_after, run_answer}
use Rattle.agreement.specs.Meaning.{OwnAnswer}
use Rattle.definitions.specs.Verdict.{Verdict, Accepted, Refused}
use Rattle.readback.proofs.Records.{translation_readings}
use Rattle.readback.proofs.Accepted.{translation_accepted_law}
use Rattle.agreement.specs.Answers.{rule_outcome, answer_outcome, sheet_run, Unanswered, is_refused, is_stopped, RunEnds, without_answer, with_own}
use Rattle.laws.proofs.Classes.{refusal_no_answer, answer_no_stop}
use Rattle.agreement.proofs.Shared.{rule_sound}

-- a run that is not refused has the rule's answer at its own allowances, and a run that is refused has the refusal
pub run_rule : (t : List ℕ) (rs : List ℤ) (steps nesting cells_allowed lent : ℕ) → run_verdict t rs nesting cells_allowed lent ≡ Accepted
    → run_answer t rs steps nesting cells_allowed lent ≡ rule_answer t rs steps nesting cells_allowed
unfolding run_answer answer_after
run_rule t rs steps nesting cells_allowed lent v = rw v refl

pub run_refusal : (t : List ℕ) (rs : List ℤ) (steps nesting cells_allowed lent : ℕ) {n p : ℕ} → run_verdict t rs nesting cells_allowed lent ≡ Refused n p
    → run_answer t rs steps nesting cells_allowed lent ≡ refusal n p
unfolding run_answer answer_after
run_refusal t rs steps nesting cells_allowed lent v = rw v refl

-- the outcome and value of the rule's answer
rule_answer_law : (t : List ℕ) (rs : List ℤ) (steps nesting cells_allowed : ℕ)
    → answer_outcome (rule_answer t rs steps nesting cells_allowed) ≡ rule_outcome t rs steps nesting cells_allowed
unfolding answer_outcome rule_answer reached_answer answer_at rule_outcome ending_outcome
rule_answer_law t rs steps nesting cells_allowed = refl

outcome_of_law : (a : Answer) → (answer_outcome a).outcome ≡ a.outcome
unfolding answer_outcome
outcome_of_law a = refl

-- of a sheet that is accepted, with as many readings as it asks for, a run is refused for its allowances only
pub run_verdict_law : (b : List ℕ) → sheet_verdict b ≡ Accepted → (rs : List ℤ) → length rs ≡ readings b → (nesting cells_allowed lent : ℕ)
    → run_verdict (translation b) rs nesting cells_allowed lent
    ≡ require (allowances_fit nesting cells_allowed lent) bad_allowance 0
unfolding run_verdict require ◌and_then◌ translation
run_verdict_law b accepted rs asked nesting cells_allowed lent =
    rw (translation_accepted_law (equal_trees b) b accepted, translation_readings (equal_trees b) b accepted, eq-eqb (length rs) (readings b) asked) refl

refused_for : (t : Bool) {n p : ℕ} → require t bad_allowance 0 ≡ Refused n p → n ≡ bad_allowance
unfolding require
refused_for true e = cc
refused_for false e = cc

module _ (b : List ℕ) (accepted : sheet_verdict b ≡ Accepted) (rs : List ℤ) (steps nesting cells_allowed : ℕ) (before : List ℕ) where
  -- the outcome and value of a run that is not refused are the rule's
  rule_ends : run_verdict (translation b) rs nesting cells_allowed (length before) ≡ Accepted
      → answer_outcome (sheet_run b rs steps nesting cells_allowed before) ≡ rule_outcome (translation b) rs steps nesting cells_allowed
  unfolding sheet_run
  rule_ends v =
      ap answer_outcome (run_rule (translation b) rs steps nesting cells_allowed (length before) v)
      ∙ rule_answer_law (translation b) rs steps nesting cells_allowed

  run_ends_by : (v : Verdict) → run_verdict (translation b) rs nesting cells_allowed (length before) ≡ v
      → (x : Bool) → is_stop (sheet_run b rs steps nesting cells_allowed before).outcome ≡ x
      → RunEnds b rs steps nesting cells_allowed before
  unfolding sheet_run
  run_ends_by (Refused n p) v x h = without_answer (is_refused v (run_refusal (translation b) rs steps nesting cells_allowed (length before) v))
  run_ends_by Accepted v true h = without_answer (is_stopped v h)
  run_ends_by Accepted v false h =
      let e = rule_ends v in
      let a = sheet_run b rs steps nesting cells_allowed before in
      let q : is_stop (rule_outcome (translation b) rs steps nesting cells_allowed).outcome ≡ false =
      ap (λ (o : Outcome). is_stop o.outcome) (sym e) ∙ ap is_stop (outcome_of_law a) ∙ h in
      with_own v (rw e (rule_sound b accepted rs steps nesting cells_allowed q))

  -- a run is refused or stopped, or has the sheet's own outcome and value
  pub run_ends : RunEnds b rs steps nesting cells_allowed before
  run_ends = run_ends_by (run_verdict (translation b) rs nesting cells_allowed (length before)) refl (is_stop (sheet_run b rs steps nesting cells_allowed before).outcome) refl

  -- a number, constructor or run fault is the sheet's own
  own_by : length rs ≡ readings b → is_answer (sheet_run b rs steps nesting cells_allowed before).outcome ≡ true → RunEnds b rs steps nesting cells_allowed before
      → OwnAnswer b rs (answer_outcome (sheet_run b rs steps nesting cells_allowed before))
  unfolding refusal is_refusal within
  own_by asked h (without_answer (is_refused v e)) =
      let n = refused_for (allowances_fit nesting cells_allowed (length before)) (sym (run_verdict_law b accepted rs asked nesting cells_allowed (length before)) ∙ v) in
      absurd (true≢false (sym h ∙ rw (e, n) (refusal_no_answer bad_allowance refl)))
  own_by asked h (without_answer (is_stopped v s)) =
      absurd (true≢false (sym s ∙ answer_no_stop (sheet_run b rs steps nesting cells_allowed before).outcome h))
  own_by asked h (with_own v o) = o

  pub run_own_answer : length rs ≡ readings b → is_answer (sheet_run b rs steps nesting cells_allowed before).outcome ≡ true
      → OwnAnswer b rs (answer_outcome (sheet_run b rs steps nesting cells_allowed before))
  run_own_answer asked h = own_by asked h run_ends

  -- where the sheet has no answer of its own, it is stopped or refused
  unanswered_by : ((a : Outcome) → ¬ OwnAnswer b rs a) → RunEnds b rs steps nesting cells_allowed before → Unanswered b rs steps nesting cells_allowed before
  unanswered_by none (without_answer u) = u
  unanswered_by none (with_own v o) = absurd (none _ o)

  pub run_unanswered : ((a : Outcome) → ¬ OwnAnswer b rs a) → Unanswered b rs steps nesting cells_allowed before
  run_unanswered none = unanswered_by none run_ends
