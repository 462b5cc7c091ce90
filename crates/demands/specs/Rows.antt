-- What request 1 of document 02 says of the rows of a batch, whose records stand one after the other.
use Rattle.std.specs.Prelude.{◌≡◌, ℕ, suc, ◌*◌, ◌<◌, List, true, ◌||◌, ℤ, take, drop}
use Rattle.definitions.specs.Sizes.{answer_size}
use Rattle.definitions.specs.Numbers.{is_answer, is_stop}
use Rattle.definitions.specs.Outcomes.{Outcome}
use Rattle.definitions.specs.Run.{rule_answer, rule_cells}
use Rattle.definitions.specs.AnswerRecord.{answer_bytes, recorded}
use Rattle.definitions.specs.RunsInTurn.{row_of, cells_in_turn}
use Rattle.definitions.specs.Written.{Written}
use Rattle.demands.specs.Demands.{WritingMet}
use Rattle.demands.specs.InC.{WritingMetInC}

-- what a caller reads of row i
abbrev pub row_recorded : List ℕ → ℕ → Outcome
row_recorded room' i = recorded (drop (i * answer_size) room')

-- every row has the record of an answer or a stop
pub record AllEnded (rows : ℕ) (room' : List ℕ) : Type 0 where
  pub ends : (i : ℕ) → i < rows → (is_answer (row_recorded room' i).outcome || is_stop (row_recorded room' i).outcome) ≡ true

-- a batch ends with the length of all records, or with a numbered refusal, and then the lent buffers are untouched
abbrev pub RowsMet : ℕ → Written → List ℕ → Type 0 → Type 0
RowsMet rows r room' untouched = WritingMet r (rows * answer_size) (AllEnded rows room') untouched

-- the same for a caller in C
abbrev pub RowsMetInC : ℕ → ℕ → List ℕ → Type 0 → Type 0
RowsMetInC rows code room' untouched = WritingMetInC code (rows * answer_size) (AllEnded rows room') untouched

-- row i is exactly the rule: its record is that of the rule's answer (outcome, value, steps, node, context, number of cells), and the cells that it
-- leaves are the rule's over those that the rows before it left
pub record RowExact (b : List ℕ) (rs : List ℤ) (steps nesting cells_allowed : ℕ) (before room' : List ℕ) (i : ℕ) : Type 0 where
  pub written : take answer_size (drop (i * answer_size) room') ≡ answer_bytes (rule_answer b (row_of b rs i) steps nesting cells_allowed)
  pub cells : cells_in_turn b (row_of b rs) steps nesting cells_allowed (suc i) before
      ≡ rule_cells b (row_of b rs i) steps nesting cells_allowed (cells_in_turn b (row_of b rs) steps nesting cells_allowed i before)
