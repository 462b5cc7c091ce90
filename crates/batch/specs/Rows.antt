-- The runs of an accepted file on rows of readings: what they ask for, and what they leave.
use Rattle.std.specs.Prelude.{◌≡◌, ℕ, ◌+◌, ◌*◌, ◌≤◌, List, ◌++◌, ℤ, length, take, drop}
use Rattle.definitions.specs.Sizes.{answer_size}
use Rattle.definitions.specs.Layouts.{readings}
use Rattle.definitions.specs.Run.{Answer, run_answer, run_cells}
use Rattle.definitions.specs.AnswerRecord.{answer_bytes}
use Rattle.definitions.specs.RunsInTurn.{row_of, cells_in_turn, records_in_turn}

-- a row whose readings are in the list, and that has room for its record
pub record RowFits (b : List ℕ) (rs : List ℤ) (room row : ℕ) : Type 0 where
  pub given : row * readings b + readings b ≤ length rs
  pub roomy : row * answer_size + answer_size ≤ room

-- as many readings as the rows ask for, and room for their records
pub record RowsFit (b : List ℕ) (rs : List ℤ) (room rows : ℕ) : Type 0 where
  pub given : length rs ≡ rows * readings b
  pub roomy : rows * answer_size ≤ room

-- the lent records with an answer's in a row's place
unfoldable pub record_put : List ℕ → ℕ → Answer → List ℕ
record_put room row a = take (row * answer_size) room ++ answer_bytes a ++ drop (row * answer_size + answer_size) room

-- one row was run
pub record RanRow (b : List ℕ) (row : ℕ) (rs : List ℤ) (steps nesting cells_allowed : ℕ) (before room after room' : List ℕ) : Type 0 where
  pub cells : after ≡ run_cells b (row_of b rs row) steps nesting cells_allowed before
  pub written : room' ≡ record_put room row (run_answer b (row_of b rs row) steps nesting cells_allowed (length before))

-- the records of the first n rows, then what was there
unfoldable pub records_over : List ℕ → ℕ → List ℤ → ℕ → ℕ → ℕ → List ℕ → List ℕ → List ℕ
records_over b n rs steps nesting cells_allowed before room =
    records_in_turn b (row_of b rs) steps nesting cells_allowed n before ++ drop (n * answer_size) room

-- the first n rows were run
pub record RanRows (b : List ℕ) (n : ℕ) (rs : List ℤ) (steps nesting cells_allowed : ℕ) (before room after room' : List ℕ) : Type 0 where
  pub cells : after ≡ cells_in_turn b (row_of b rs) steps nesting cells_allowed n before
  pub written : room' ≡ records_over b n rs steps nesting cells_allowed before room
