-- A run that ends with a number, a constructor or a run fault is not refused, so it has the rule's answer at its own allowances: its
-- steps beside those of the rule without remembering, and its cells.
use mathlib.Core.Path.{◌≡◌, refl, sym, ap, ◌∙◌}
use Prim.Native.Nat.{ℕ, ◌-◌, ◌≤◌}
use mathlib.Core.List.{List}
use mathlib.Core.Bool.{true, false, true≢false}
use lib.IntN.{ℤ}
use lib.ListN.{length}
use Rattle.definitions.specs.Numbers.{is_stop, is_answer}
use Rattle.definitions.specs.PlainCells.{plain_evaluation}
use Rattle.definitions.specs.Run as Run
use Rattle.definitions.specs.Run.{answer_at, reached_answer, rule_end, rule_answer, refusal, answer_after, run_answer}
use Rattle.definitions.specs.Verdict.{Verdict, Accepted, Refused}
use Rattle.laws.proofs.Classes.{refusal_no_answer, answer_no_stop}
use Rattle.agreement.specs.Answers.{rule_outcome, plain_outcome, PlainGives, answer_outcome}
use Rattle.agreement.proofs.Allowances.{plain_gives_same, rule_no_more_steps}
use Rattle.run.specs.Promise.{Runs}
use Rattle.answer.specs.declared.Answer.{Answer}
use Rattle.answer.specs.Answers.{answer_of}
use Rattle.demands.proofs.Refusals.{NumberedIn, running_numbered}

ended_by : (b : List ℕ) (rs : List ℤ) (steps nesting cells_allowed : ℕ) (v : Verdict) → NumberedIn v
    → is_answer (answer_after v (rule_answer b rs steps nesting cells_allowed)).outcome ≡ true
    → answer_after v (rule_answer b rs steps nesting cells_allowed) ≡ rule_answer b rs steps nesting cells_allowed
unfolding answer_after refusal
ended_by b rs steps nesting cells_allowed Accepted k h = refl
ended_by b rs steps nesting cells_allowed (Refused n p) k h = absurd (true≢false (sym h ∙ refusal_no_answer n k))

module _ (b : List ℕ) (rs : List ℤ) (steps nesting cells_allowed : ℕ) (before : List ℕ) (r : Answer) (after : List ℕ)
    (run : Runs b rs steps nesting cells_allowed before r after) (ended : is_answer (answer_of r).outcome ≡ true) where
  pub ended_rule : answer_of r ≡ rule_answer b rs steps nesting cells_allowed
  unfolding run_answer
  ended_rule =
      run.answer
      ∙ ended_by b rs steps nesting cells_allowed _ (running_numbered b rs nesting cells_allowed (length before)) (rw run.answer at ended)

  pub ended_cells : (answer_of r).cells ≡ length (rule_end b rs steps nesting cells_allowed).state.store.cells
  unfolding rule_answer reached_answer answer_at
  ended_cells = ap (λ (a : Run.Answer). a.cells) ended_rule

  ended_outcome : answer_outcome (answer_of r) ≡ rule_outcome b rs steps nesting cells_allowed
  unfolding answer_outcome rule_outcome rule_answer reached_answer answer_at
  ended_outcome = ap answer_outcome ended_rule

  no_stop : is_stop (answer_outcome (answer_of r)).outcome ≡ false
  unfolding answer_outcome
  no_stop = answer_no_stop (answer_of r).outcome ended

  -- the rule without remembering has its outcome at some allowances, and takes no fewer steps
  pub ended_plain : PlainGives b rs (answer_outcome (answer_of r))
  ended_plain =
      (plain_gives_same b rs no_stop).0 (record { steps = steps; nesting = nesting; cells_allowed = cells_allowed; gives = sym ended_outcome })

  pub ended_steps : (steps' nesting' cells_allowed' : ℕ) → plain_outcome b rs steps' nesting' cells_allowed' ≡ answer_outcome (answer_of r)
      → (answer_of r).steps ≤ steps' - (plain_evaluation b rs steps' nesting' cells_allowed').state.left
  unfolding rule_answer reached_answer answer_at
  ended_steps steps' nesting' cells_allowed' e =
      rw (ap (λ (a : Run.Answer). a.steps) ended_rule)
      (rule_no_more_steps b rs steps nesting cells_allowed steps' nesting' cells_allowed' (rw ended_outcome at no_stop) (rw e no_stop))
