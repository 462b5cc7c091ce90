-- What the rule and a run answer, as demand 3 speaks of it: an answer is a number, a constructor or a run fault; a stop is
-- none.
use Rattle.std.specs.Prelude.{◌≡◌, ℕ, List, true, ℤ, length}
use Rattle.definitions.specs.Numbers.{is_stop}
use Rattle.definitions.specs.Outcomes.{Outcome}
use Rattle.definitions.specs.Translate.{translation}
use Rattle.definitions.specs.PlainCells.{plain_evaluation}
use Rattle.definitions.specs.Run.{Answer, ending_outcome, rule_end, refusal, run_verdict, run_answer}
use Rattle.cell_rules.specs.Gives.{Gives}
use Rattle.agreement.specs.Meaning.{OwnAnswer}
use Rattle.definitions.specs.Verdict.{Accepted, Refused}

-- the outcome and value of the evaluation rule at a step, a nesting and a cell allowance, taken without ceilings
unfoldable pub rule_outcome : List ℕ → List ℤ → ℕ → ℕ → ℕ → Outcome
rule_outcome t rs steps nesting cells_allowed = ending_outcome t (rule_end t rs steps nesting cells_allowed).ending

-- the same of the rule without remembering
unfoldable pub plain_outcome : List ℕ → List ℤ → ℕ → ℕ → ℕ → Outcome
plain_outcome t rs steps nesting cells_allowed = ending_outcome t (plain_evaluation t rs steps nesting cells_allowed).ending

-- each gives this outcome and value at some allowances
abbrev pub RuleGives : List ℕ → List ℤ → Outcome → Type 0
RuleGives t rs a = Gives (rule_outcome t rs) a

abbrev pub PlainGives : List ℕ → List ℤ → Outcome → Type 0
PlainGives t rs a = Gives (plain_outcome t rs) a

-- the outcome and value of a run's answer
unfoldable pub answer_outcome : Answer → Outcome
answer_outcome a = record { outcome = a.outcome; value = a.value }

-- the answer of a run of a sheet's translation, over lent cells that held these bytes before
unfoldable pub sheet_run : List ℕ → List ℤ → ℕ → ℕ → ℕ → List ℕ → Answer
sheet_run b rs steps nesting cells_allowed before = run_answer (translation b) rs steps nesting cells_allowed (length before)

-- a run that is refused or stopped
pub data Unanswered (b : List ℕ) (rs : List ℤ) (steps nesting cells_allowed : ℕ) (before : List ℕ) : Type 0 where
  is_refused : {n p : ℕ}
      → run_verdict (translation b) rs nesting cells_allowed (length before) ≡ Refused n p
      → sheet_run b rs steps nesting cells_allowed before ≡ refusal n p
      → Unanswered b rs steps nesting cells_allowed before
  is_stopped : run_verdict (translation b) rs nesting cells_allowed (length before) ≡ Accepted
      → is_stop (sheet_run b rs steps nesting cells_allowed before).outcome ≡ true
      → Unanswered b rs steps nesting cells_allowed before

-- how a run ends: refused or stopped, or with the sheet's own outcome and value
pub data RunEnds (b : List ℕ) (rs : List ℤ) (steps nesting cells_allowed : ℕ) (before : List ℕ) : Type 0 where
  without_answer : Unanswered b rs steps nesting cells_allowed before → RunEnds b rs steps nesting cells_allowed before
  with_own : run_verdict (translation b) rs nesting cells_allowed (length before) ≡ Accepted
      → OwnAnswer b rs (answer_outcome (sheet_run b rs steps nesting cells_allowed before))
      → RunEnds b rs steps nesting cells_allowed before
