-- A trial of a sheet: the sheet, a run's inputs, and what is expected of its acceptance, its translation, the run and its own
-- answer.
use Rattle.std.specs.Prelude.{◌≡◌, ℕ, List, ◌++◌, ℤ, length, drop}
use Rattle.std.proofs.Math.Option.{Option, none, some}
use Rattle.definitions.specs.Checks.{sheet_verdict, translation_verdict}
use Rattle.definitions.specs.Outcomes.{Outcome}
use Rattle.agreement.specs.Meaning.{OwnAnswer}
use Rattle.definitions.specs.Translate.{translation}
use Rattle.definitions.specs.Run.{Answer, run_answer, run_cells}
use Rattle.definitions.specs.Verdict.{Accepted}

pub record Trial : Type 0 where
  pub sheet : List ℕ
  pub readings : List ℤ
  -- the three allowances
  pub steps : ℕ
  pub nesting : ℕ
  pub cells : ℕ
  -- the lent cell bytes before the run
  pub before : List ℕ
  -- the run's answer
  pub answer : Answer
  -- the bytes of the cells that the run makes
  pub made : List ℕ
  -- the sheet's own answer, where it has one
  pub own : Option Outcome

-- a sheet has this answer of its own, or has none
abbrev pub Own : List ℕ → List ℤ → Option Outcome → Type 0
Own b rs (some a) = OwnAnswer b rs a
Own b rs none = (a : Outcome) → ¬ OwnAnswer b rs a

-- what a trial expects holds of the definitions, from the sheet's bytes through its translation to the run and the cells
pub record Holds (t : Trial) : Type 0 where
  pub sheet_accepted : sheet_verdict t.sheet ≡ Accepted
  pub translation_accepted : translation_verdict (translation t.sheet) ≡ Accepted
  pub run_answers :
      run_answer (translation t.sheet) t.readings t.steps t.nesting t.cells (length t.before) ≡ t.answer
  pub cells_made :
      run_cells (translation t.sheet) t.readings t.steps t.nesting t.cells t.before
      ≡ t.made ++ drop (length t.made) t.before
  pub own_answer : Own t.sheet t.readings t.own
