-- The rows of a batch that is not refused: each is a run that is not refused, and its record stands in its place.
use mathlib.Core.Path.{◌≡◌, refl, sym, ◌∙◌}
use Prim.Native.Nat.{ℕ, suc, ◌*◌, ◌<◌}
use mathlib.Core.List.{List, ◌++◌, append_assoc}
use native.Mathlib.Omega.{arith}
use native.Mathlib.Nat.{le_of_eq}
use lib.IntN.{ℤ}
use lib.ListN.{length, drop, length-drop}
use lib.Seq.{length-take-le, take-append_seam, drop-append_seam}
use Rattle.definitions.specs.Sizes.{answer_size}
use Rattle.definitions.specs.Lists.{joined}
use Rattle.definitions.specs.Layouts.{readings}
use Rattle.definitions.specs.Output.{output_of}
use Rattle.definitions.specs.Checks.{translation_verdict}
use Rattle.definitions.specs.Run.{rule_answer, rule_cells}
use Rattle.definitions.specs.AnswerRecord.{answer_bytes}
use Rattle.definitions.specs.RunsInTurn.{row_of, cells_in_turn, answer_in_turn, records_in_turn}
use Rattle.definitions.specs.Verdict.{Accepted}
use Rattle.laws.proofs.Verdicts.{both_accepted}
use Rattle.laws.proofs.Joined.{joined_split}
use Rattle.runs_in_turn.proofs.InTurn.{turn_answer, turn_cells}
use Rattle.answer.proofs.Records.{answer_length}
use Rattle.batch.specs.Promise.{rows_verdict, rows_records}
use Rattle.batch.proofs.InTurn.{next_below, records_length}
use Rattle.batch.proofs.Refusals.{ChecksHold, checks_hold}
use Rattle.demands.specs.Rows.{RowExact}

-- a part of a list, and what stands after it
part_in_place : {l : List ℕ} (past front part rest : List ℕ) → l ≡ front ++ part ++ rest → drop (length front) (l ++ past) ≡ part ++ (rest ++ past)
part_in_place past front part rest e =
    rw (e, append_assoc (front ++ part) rest past, append_assoc front part (rest ++ past)) (drop-append_seam front (part ++ (rest ++ past)))

module _ (b : List ℕ) (rows : ℕ) (rs : List ℤ) (steps nesting cells_allowed : ℕ) (before room : List ℕ)
    (accepted : rows_verdict b rows rs nesting cells_allowed (length before) (length room) ≡ Accepted) where
  -- what the acceptance says
  file_accepted : translation_verdict b ≡ Accepted
  unfolding rows_verdict
  file_accepted = (both_accepted _ _ accepted).0

  pub checks : ChecksHold b rows (length rs) nesting cells_allowed (length before) (length room)
  unfolding rows_verdict
  checks = checks_hold b rows (length rs) nesting cells_allowed (length before) (length room) (both_accepted (translation_verdict b) _ accepted).1

  -- each row is a run that is not refused
  module _ (i : ℕ) (h : i < rows) where
    row_length : length (row_of b rs i) ≡ readings b
    unfolding row_of
    row_length =
        let inside = next_below (readings b) i rows (length rs) h (le_of_eq (sym checks.readings_given)) in
        length-take-le (readings b) (drop (i * readings b) rs) (omega (arith, length-drop (i * readings b) rs, inside))

    row_answer : answer_in_turn b (row_of b rs) steps nesting cells_allowed i before ≡ rule_answer b (row_of b rs i) steps nesting cells_allowed
    row_answer = turn_answer b (row_of b rs) steps nesting cells_allowed before file_accepted checks.allowances_fit_law i row_length

    row_cells : cells_in_turn b (row_of b rs) steps nesting cells_allowed (suc i) before
        ≡ rule_cells b (row_of b rs i) steps nesting cells_allowed (cells_in_turn b (row_of b rs) steps nesting cells_allowed i before)
    row_cells = turn_cells b (row_of b rs) steps nesting cells_allowed before file_accepted checks.allowances_fit_law i row_length

    -- the record in the row's place
    pub record InPlace (room' : List ℕ) : Type 0 where
      pub rest : List ℕ
      pub is : drop (i * answer_size) room' ≡ answer_bytes (rule_answer b (row_of b rs i) steps nesting cells_allowed) ++ rest

    module _ (room' : List ℕ) (written : room' ≡ rows_records b rows rs steps nesting cells_allowed before room) where
      pub in_place : InPlace room'
      unfolding rows_records output_of records_in_turn
      in_place =
          let part : ℕ → List ℕ = λ j. answer_bytes (answer_in_turn b (row_of b rs) steps nesting cells_allowed j before) in
          let past = drop (length (joined rows part)) room in
          let s = joined_split part rows i h in
          let all : room' ≡ joined rows part ++ past = written ∙ rw accepted refl in
          let size : length (joined i part) ≡ i * answer_size = records_length b rs steps nesting cells_allowed before i in
          let from : drop (length (joined i part)) room' ≡ part i ++ (s.rest ++ past) = rw all (part_in_place past (joined i part) (part i) s.rest s.is) in
          record { rest = s.rest ++ past; is = rw (← size, ← row_answer) from }

      pub row_exact : RowExact b rs steps nesting cells_allowed before room' i
      row_exact =
          let a = answer_bytes (rule_answer b (row_of b rs i) steps nesting cells_allowed) in
          let s = in_place in
          record { written = rw s.is (rw (answer_length (rule_answer b (row_of b rs i) steps nesting cells_allowed)) at (take-append_seam a s.rest)); cells = row_cells }
