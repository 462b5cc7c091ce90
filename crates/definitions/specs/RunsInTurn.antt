-- Runs in turn (document 02, request 1): "The records and the cell bytes are what the single runs leave when done in turn in the
-- same buffer." Run i has the readings `row i`, and the cells as the runs before it left them.
use Rattle.std.specs.Prelude.{ℕ, zero, suc, ◌*◌, List, ℤ, length, take, drop}
use Rattle.definitions.specs.Lists.{joined}
use Rattle.definitions.specs.Layouts.{readings}
use Rattle.definitions.specs.Run.{Answer, run_answer, run_cells}
use Rattle.definitions.specs.AnswerRecord.{answer_bytes}

-- "reading rows, each of I readings", one after the other: row i
unfoldable pub row_of : List ℕ → List ℤ → ℕ → List ℤ
row_of b rs i = take (readings b) (drop (i * readings b) rs)

-- the lent cells after the first n runs
unfoldable pub cells_in_turn : List ℕ → (ℕ → List ℤ) → ℕ → ℕ → ℕ → ℕ → List ℕ → List ℕ
cells_in_turn b row steps nesting cells zero before = before
cells_in_turn b row steps nesting cells (suc n) before =
    run_cells b (row n) steps nesting cells (cells_in_turn b row steps nesting cells n before)

-- the answer of run i
unfoldable pub answer_in_turn : List ℕ → (ℕ → List ℤ) → ℕ → ℕ → ℕ → ℕ → List ℕ → Answer
answer_in_turn b row steps nesting cells i before =
    run_answer b (row i) steps nesting cells (length (cells_in_turn b row steps nesting cells i before))

-- the records of the first n runs: "one answer record per row"
unfoldable pub records_in_turn : List ℕ → (ℕ → List ℤ) → ℕ → ℕ → ℕ → ℕ → List ℕ → List ℕ
records_in_turn b row steps nesting cells n before =
    joined n (λ i. answer_bytes (answer_in_turn b row steps nesting cells i before))
