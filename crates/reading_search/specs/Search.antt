-- The runs of a search of an accepted file: what they ask for, and what they leave.
use Rattle.std.specs.Prelude.{◌≡◌, ℕ, ◌≤◌, ◌<◌, List, Bool, true, ℤ, length, set}
use Rattle.definitions.specs.Sizes.{most_values}
use Rattle.definitions.specs.Layouts.{readings}
use Rattle.definitions.specs.Run.{allowances_fit, rule_end, rule_cells}
use Rattle.definitions.specs.RunsInTurn.{cells_in_turn}
use Rattle.definitions.specs.ReadingSearch.{Query, value_count, readings_tried, ends_in, first_finding, searched_by, runs_made}
use Rattle.definitions.specs.Searched.{Searched}
use Rattle.run.specs.NodeTable.{readings_held, Readable}

-- a reading that may be tried in a table, with allowances that fit the lent cells
pub record Triable (b tab : List ℕ) (position nesting cells_allowed : ℕ) (before : List ℕ) : Type 0 where
  pub readable : Readable b tab
  pub there : position < readings b
  pub fit : allowances_fit nesting cells_allowed (length before) ≡ true

-- the run with value z for the reading, on the readings that the table held before
pub record Tried (b tab : List ℕ) (position : ℕ) (z wanted : ℤ) (steps nesting cells_allowed : ℕ) (before : List ℕ) (r : Bool) (tab' after : List ℕ) : Type 0 where
  pub readable : Readable b tab'
  pub held : readings_held b tab' ≡ set (readings_held b tab) position z
  pub found : r ≡ ends_in wanted (rule_end b (set (readings_held b tab) position z) steps nesting cells_allowed).ending
  pub cells : after ≡ rule_cells b (set (readings_held b tab) position z) steps nesting cells_allowed before

-- readings, a range and allowances for which a search of an accepted file is not refused; `lent` is how many cell bytes are lent
pub record SearchFits (b : List ℕ) (rs : List ℤ) (q : Query) (nesting cells_allowed lent : ℕ) : Type 0 where
  pub given : length rs ≡ readings b
  pub there : q.position < readings b
  pub few : value_count q.lowest q.highest ≤ most_values
  pub fit : allowances_fit nesting cells_allowed lent ≡ true

-- the search of an accepted file that is not refused
pub record Searches (b : List ℕ) (rs : List ℤ) (q : Query) (steps nesting cells_allowed : ℕ) (before : List ℕ) (r : Searched) (after : List ℕ) : Type 0 where
  pub answer : r ≡ searched_by q (first_finding b rs q steps nesting cells_allowed)
  pub cells : after ≡ cells_in_turn b (readings_tried rs q) steps nesting cells_allowed (runs_made q (first_finding b rs q steps nesting cells_allowed)) before
