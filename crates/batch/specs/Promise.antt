-- What running a translation on several rows of readings promises (document 02, request 1): the answer, and both lent buffers at
-- exit.
use Rattle.std.specs.Prelude.{◌≡◌, ℕ, ◌*◌, List, ◌&&◌, ℤ, length, leb, eqb}
use Rattle.definitions.specs.Sizes.{most_rows, answer_size}
use Rattle.definitions.specs.Numbers.{short_output, bad_readings, bad_allowance}
use Rattle.definitions.specs.Verdicts.{◌and_then◌, require}
use Rattle.definitions.specs.Output.{written_of, output_of}
use Rattle.definitions.specs.Layouts.{readings}
use Rattle.definitions.specs.Checks.{translation_verdict}
use Rattle.definitions.specs.Run.{allowances_fit, bytes_after}
use Rattle.definitions.specs.RunsInTurn.{row_of, cells_in_turn, records_in_turn}
use Rattle.definitions.specs.Verdict.{Verdict}
use Rattle.definitions.specs.Written.{Written}

-- "More than 16 rows is 10, a reading list that isn't rows times I is 9, a short record buffer is 8, in the order 9, 10, 8 .."; `given`
-- is the number of readings, `lent` the length of the lent cells, `room` that of the lent records
unfoldable pub rows_checks : List ℕ → ℕ → ℕ → ℕ → ℕ → ℕ → ℕ → Verdict
rows_checks b rows given nesting cells_allowed lent room =
    require (eqb given (rows * readings b)) bad_readings 0
    and_then require (leb rows most_rows && allowances_fit nesting cells_allowed lent) bad_allowance 0
    and_then require (leb (rows * answer_size) room) short_output 0

-- ".. after the file's own checks"
unfoldable pub rows_verdict : List ℕ → ℕ → List ℤ → ℕ → ℕ → ℕ → ℕ → Verdict
rows_verdict b rows rs nesting cells_allowed lent room =
    translation_verdict b and_then rows_checks b rows (length rs) nesting cells_allowed lent room

-- what the lent cells and the lent records hold at exit: "A refused batch runs no row"
unfoldable pub rows_cells : List ℕ → ℕ → List ℤ → ℕ → ℕ → ℕ → List ℕ → ℕ → List ℕ
rows_cells b rows rs steps nesting cells_allowed before room =
    bytes_after (rows_verdict b rows rs nesting cells_allowed (length before) room) before (cells_in_turn b (row_of b rs) steps nesting cells_allowed rows before)

unfoldable pub rows_records : List ℕ → ℕ → List ℤ → ℕ → ℕ → ℕ → List ℕ → List ℕ → List ℕ
rows_records b rows rs steps nesting cells_allowed before room =
    output_of (rows_verdict b rows rs nesting cells_allowed (length before) (length room)) (records_in_turn b (row_of b rs) steps nesting cells_allowed rows before) room

pub record RunsRows (b : List ℕ) (rows : ℕ) (rs : List ℤ) (steps nesting cells_allowed : ℕ) (before room : List ℕ) (r : Written) (after room' : List ℕ) : Type 0 where
  pub answer : r ≡ written_of (rows_verdict b rows rs nesting cells_allowed (length before) (length room)) (rows * answer_size)
  pub cells : after ≡ rows_cells b rows rs steps nesting cells_allowed before (length room)
  pub records : room' ≡ rows_records b rows rs steps nesting cells_allowed before room
