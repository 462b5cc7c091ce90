-- What the hirer's run promises (document 02, request 5): the answer, and the lent cells at exit.
use Rattle.std.specs.Prelude.{◌≡◌, ℕ, List, ℤ, length}
use Rattle.definitions.specs.Hirer.{hirer_verdict, hirer_answer, hirer_cells}
use Rattle.definitions.specs.Verdict.{Accepted}
use Rattle.answer.specs.declared.Answer.{Answer}
use Rattle.answer.specs.Answers.{answer_of}
use Rattle.run.specs.Promise.{Runs}

pub record RunsForHirer (b : List ℕ) (set : ℕ) (rs : List ℤ) (steps nesting cells_allowed : ℕ) (before : List ℕ) (r : Answer) (after : List ℕ) : Type 0 where
  pub answer : answer_of r ≡ hirer_answer b set rs steps nesting cells_allowed (length before)
  pub cells : after ≡ hirer_cells b set rs steps nesting cells_allowed before
  -- "Else the hirer's run is the owner's"
  pub owners : hirer_verdict b set ≡ Accepted → Runs b rs steps nesting cells_allowed before r after
