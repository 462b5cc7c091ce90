-- What request 12 of document 02 says of the values of a range, of the runs with them, and of a search.
use Rattle.std.specs.Prelude.{◌≡◌, ℕ, suc, ◌≤◌, ◌<◌, List, true, ℤ, length, set, ◌≤ℤ◌, ◌<ℤ◌}
use Rattle.std.specs.Int.{w32}
use Rattle.std.proofs.Common.{SFits}
use Rattle.definitions.specs.Sizes.{most_values}
use Rattle.definitions.specs.Numbers.{no_value, is_refusal}
use Rattle.definitions.specs.Layouts.{readings}
use Rattle.definitions.specs.Outcomes.{number_outcome}
use Rattle.definitions.specs.Run.{allowances_fit}
use Rattle.definitions.specs.ReadingSearch.{Query, value_at, value_count}
use Rattle.definitions.specs.Searched.{Searched, Found, NoValue, Refused}
use Rattle.agreement.specs.Answers.{answer_outcome}
use Rattle.answer.specs.declared.Answer.{Answer}
use Rattle.answer.specs.Answers.{answer_of}
use Rattle.run.specs.Promise.{Runs}
use Rattle.zifnora_c.specs.Codes.{code_number}

-- a search ends with a value, with none, or with a numbered refusal and its place, and then the lent cells are untouched
pub data SearchMet (r : Searched) (untouched : Type 0) : Type 0 where
  finds : (z : ℤ) → r ≡ Found z → SearchMet r untouched
  finds_none : r ≡ NoValue → SearchMet r untouched
  refuses : (n p : ℕ) → r ≡ Refused n p → is_refusal n ≡ true → untouched → SearchMet r untouched

-- a caller in C tells these apart by the number that the code has
pub data SearchMetInC (code : ℕ) (untouched : Type 0) : Type 0 where
  finds : code_number code ≡ 0 → SearchMetInC code untouched
  finds_none : code_number code ≡ no_value → SearchMetInC code untouched
  refuses : is_refusal (code_number code) ≡ true → untouched → SearchMetInC code untouched

-- a value of the range
pub record InRange (q : Query) (y : ℤ) : Type 0 where
  pub from : q.lowest ≤ℤ y
  pub to : y ≤ℤ q.highest

-- "with which the run, at the given allowances, ends in that number": whoever runs the translation with value y for that reading, in whatever
-- cells the allowances fit
pub record GivesWanted (b : List ℕ) (rs : List ℤ) (q : Query) (steps nesting cells_allowed : ℕ) (y : ℤ) : Type 0 where
  pub ends : (before : List ℕ) → allowances_fit nesting cells_allowed (length before) ≡ true → (r : Answer) (after : List ℕ)
      → Runs b (set rs q.position y) steps nesting cells_allowed before r after → answer_outcome (answer_of r) ≡ number_outcome q.wanted

-- and does not, in any cells
pub record GivesOther (b : List ℕ) (rs : List ℤ) (q : Query) (steps nesting cells_allowed : ℕ) (y : ℤ) : Type 0 where
  pub ends_not : (before : List ℕ) (r : Answer) (after : List ℕ)
      → Runs b (set rs q.position y) steps nesting cells_allowed before r after → ¬ (answer_outcome (answer_of r) ≡ number_outcome q.wanted)

-- "the smallest value"
pub record Smallest (b : List ℕ) (rs : List ℤ) (q : Query) (steps nesting cells_allowed : ℕ) (z : ℤ) : Type 0 where
  pub inside : InRange q z
  pub gives : GivesWanted b rs q steps nesting cells_allowed z
  pub least : (y : ℤ) → InRange q y → y <ℤ z → GivesOther b rs q steps nesting cells_allowed y

-- "23 (bad range: lowest above highest, more than 1,024 values, or position not below I)"
pub data BadRange (b : List ℕ) (q : Query) : Type 0 where
  above : q.highest <ℤ q.lowest → BadRange b q
  many : most_values < value_count q.lowest q.highest → BadRange b q
  nowhere : readings b ≤ q.position → BadRange b q

-- the first n runs of the range, each by `run::run` in the cells that the one before it left
pub record InTurn (b : List ℕ) (rs : List ℤ) (q : Query) (steps nesting cells_allowed n : ℕ) (before : List ℕ) (answers : ℕ → Answer) (cells : ℕ → List ℕ) : Type 0 where
  pub first : cells 0 ≡ before
  pub each : (i : ℕ) → i < n → Runs b (set rs q.position (value_at q.lowest i)) steps nesting cells_allowed (cells i) (answers i) (cells (suc i))

-- the ends of a range that a caller in C gives are signed 32-bit numbers
pub record SignedRange (q : Query) : Type 0 where
  pub lowest : SFits w32 q.lowest
  pub highest : SFits w32 q.highest
