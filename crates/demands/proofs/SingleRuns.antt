-- Single runs done in turn in one buffer leave what the definition of runs in turn says.
use mathlib.Core.Path.{◌≡◌, refl, ◌∙◌}
use Prim.Native.Nat.{ℕ, suc, ◌*◌, ◌≤◌, ◌<◌}
use mathlib.Core.List.{List, ◌++◌}
use native.Mathlib.Omega.{arith}
use lib.IntN.{ℤ}
use lib.ListN.{length, drop}
use Rattle.definitions.specs.Sizes.{answer_size}
use Rattle.definitions.specs.Lists.{joined}
use Rattle.definitions.specs.Output.{output_of}
use Rattle.definitions.specs.Run.{bytes_after}
use Rattle.definitions.specs.AnswerRecord.{answer_bytes}
use Rattle.definitions.specs.RunsInTurn.{row_of, cells_in_turn, answer_in_turn, records_in_turn}
use Rattle.definitions.specs.Verdict.{Accepted}
use Rattle.laws.proofs.Joined.{joined_same}
use Rattle.answer.specs.declared.Answer.{Answer}
use Rattle.answer.specs.Answers.{answer_of}
use Rattle.run.specs.Promise.{Runs}
use Rattle.batch.specs.Promise.{rows_verdict, rows_cells, rows_records}
use Rattle.batch.proofs.InTurn.{records_length}
use Rattle.runs_in_turn.proofs.InTurn.{single_cells}

module _ (b : List ℕ) (rows : ℕ) (rs : List ℤ) (steps nesting cells_allowed : ℕ) (before room : List ℕ) (answers : ℕ → Answer) (cells : ℕ → List ℕ)
    (first : cells 0 ≡ before) (runs : (i : ℕ) → i < rows → Runs b (row_of b rs i) steps nesting cells_allowed (cells i) (answers i) (cells (suc i))) where
  cells_in_turn_law : (n : ℕ) → n ≤ rows → cells n ≡ cells_in_turn b (row_of b rs) steps nesting cells_allowed n before
  cells_in_turn_law n h = single_cells b (row_of b rs) steps nesting cells_allowed before cells first n (λ i l. (runs i (omega (arith, l, h))).cells)

  answer_in_turn_law : (i : ℕ) → i < rows → answer_of (answers i) ≡ answer_in_turn b (row_of b rs) steps nesting cells_allowed i before
  unfolding answer_in_turn
  answer_in_turn_law i h = (runs i h).answer ∙ rw (cells_in_turn_law i (omega arith)) refl

  records_in_turn_law : records_in_turn b (row_of b rs) steps nesting cells_allowed rows before ≡ joined rows (λ i. answer_bytes (answer_of (answers i)))
  unfolding records_in_turn
  records_in_turn_law = joined_same _ _ rows (λ i h. rw (answer_in_turn_law i h) refl)

  module _ (accepted : rows_verdict b rows rs nesting cells_allowed (length before) (length room) ≡ Accepted) where
    pub cells_of_runs : rows_cells b rows rs steps nesting cells_allowed before (length room) ≡ cells rows
    unfolding rows_cells bytes_after
    cells_of_runs = rw (accepted, cells_in_turn_law rows (omega arith)) refl

    pub records_of_runs : rows_records b rows rs steps nesting cells_allowed before room ≡ joined rows (λ i. answer_bytes (answer_of (answers i))) ++ drop (rows * answer_size) room
    unfolding rows_records output_of
    records_of_runs = rw (accepted, records_length b rs steps nesting cells_allowed before rows, records_in_turn_law) refl
