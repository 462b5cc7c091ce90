-- What the search for a reading's value promises (document 02, request 12): the answer, and the lent cells at exit.
use Rattle.std.specs.Prelude.{◌≡◌, ℕ, List, ℤ, length, eqb}
use Rattle.definitions.specs.Numbers.{bad_readings, bad_allowance, bad_range}
use Rattle.definitions.specs.Verdicts.{◌and_then◌, require}
use Rattle.definitions.specs.Layouts.{readings}
use Rattle.definitions.specs.Run.{allowances_fit}
use Rattle.definitions.specs.ReadingSearch.{Query, range_fits, search_answer, search_cells}
use Rattle.definitions.specs.Verdict.{Verdict}
use Rattle.definitions.specs.Searched.{Searched}

-- what an accepted file is refused for, for so many readings given and cell bytes lent
unfoldable pub search_checks : List ℕ → ℕ → ℕ → ℤ → ℤ → ℕ → ℕ → ℕ → Verdict
search_checks b given position lowest highest nesting cells_allowed lent =
    require (eqb given (readings b)) bad_readings 0
    and_then require (allowances_fit nesting cells_allowed lent) bad_allowance 0
    and_then require (range_fits b position lowest highest) bad_range 0

pub record FindsReading (b : List ℕ) (rs : List ℤ) (q : Query) (steps nesting cells_allowed : ℕ) (before : List ℕ) (r : Searched) (after : List ℕ) : Type 0 where
  pub answer : r ≡ search_answer b rs q steps nesting cells_allowed (length before)
  pub cells : after ≡ search_cells b rs q steps nesting cells_allowed before
