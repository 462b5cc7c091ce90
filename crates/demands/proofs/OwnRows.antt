-- Demand 3 for the rows of a batch: what stands in a row's record is the sheet's own on that row's readings, or a stop.
use mathlib.Core.Path.{◌≡◌, refl, subst}
use Prim.Native.Nat.{ℕ, zero, suc, ◌+◌, ◌*◌, ◌<◌}
use mathlib.Core.List.{List, [], ◌∷◌}
use mathlib.Core.Bool.{true}
use lib.IntN.{ℤ, pos}
use lib.ListN.{length, get_or, take, drop}
use lib.Seq.{get_or-drop}
use mir.Syntax.{w32}
use mir.Val.{SFits}
use Rattle.definitions.specs.Sizes.{answer_size}
use Rattle.definitions.specs.Numbers.{is_answer, is_stop}
use Rattle.definitions.specs.Layouts.{readings}
use Rattle.definitions.specs.Outcomes.{Outcome}
use Rattle.definitions.specs.Checks.{sheet_verdict}
use Rattle.definitions.specs.Trees.{equal_trees}
use Rattle.definitions.specs.Translate.{translation}
use Rattle.definitions.specs.Run.{answer_after}
use Rattle.definitions.specs.RunsInTurn.{row_of}
use Rattle.definitions.specs.AnswerRecord.{recorded}
use Rattle.definitions.specs.Verdict.{Accepted}
use Rattle.readback.proofs.Records.{translation_readings}
use Rattle.agreement.specs.Meaning.{OwnAnswer}
use Rattle.definitions.specs.Written.{Length}
use Rattle.translator.specs.Promise.{Translates}
use Rattle.batch.specs.Promise.{rows_verdict, rows_records, RunsRows}
use Rattle.zifnora_c.specs.Codes.{code_number, code_value}
use Rattle.zifnora_c.specs.Promise.{TranslatesC, RunsRowsC}
use Rattle.demands.specs.InC as InC
use Rattle.demands.specs.InC.{SignedReadings, StoppedOrRefusedInC}
use Rattle.demands.specs.Rows.{row_recorded}
use Rattle.demands.proofs.Refusals.{batch_numbered}
use Rattle.demands.proofs.Handing.{handed, not_refused_by}
use Rattle.demands.proofs.HandingInC.{handed_in_C, not_refused_in_C}
use Rattle.demands.proofs.Values.{zero_fits}
use Rattle.demands.proofs.OwnInC.{OwnOutcome, FaithfulInC, faithful_recorded}
use Rattle.demands.proofs.RunningRows.{in_place}
use Rattle.demands.proofs.MeetingRows.{rule_met}

-- a row of signed 32-bit numbers
taken_fits : (n : ℕ) (rs : List ℤ) → ((i : ℕ) → SFits w32 (get_or rs i (pos 0))) → (i : ℕ) → SFits w32 (get_or (take n rs) i (pos 0))
taken_fits zero rs h i = zero_fits
taken_fits (suc n) [] h i = h i
taken_fits (suc n) (z ∷ rs) h zero = h zero
taken_fits (suc n) (z ∷ rs) h (suc i) = taken_fits n rs (λ j. h (suc j)) i

pub row_signed : (b : List ℕ) (rs : List ℤ) (i : ℕ) → SignedReadings rs → SignedReadings (row_of b rs i)
unfolding row_of
row_signed b rs i signed =
    record { fit = taken_fits (readings b) (drop (i * readings b) rs) (λ j. rw (get_or-drop (i * readings b) rs j (pos 0)) (signed.fit (i * readings b + j))) }

stopped : {room' : List ℕ} → StoppedOrRefusedInC room' ⊥ → is_stop (recorded room').outcome ≡ true
stopped (InC.StoppedOrRefusedInC.stops h) = h
stopped (InC.StoppedOrRefusedInC.refuses h u) = absurd u

-- demand 3 of row i
pub record FaithfulRow (sheet : List ℕ) (rs : List ℤ) (room' : List ℕ) (i : ℕ) : Type 0 where
  pub own : SignedReadings rs → is_answer (row_recorded room' i).outcome ≡ true → OwnAnswer sheet (row_of sheet rs i) (row_recorded room' i)
  pub outcome : is_answer (row_recorded room' i).outcome ≡ true → OwnOutcome sheet (row_of sheet rs i) (row_recorded room' i).outcome
  pub none : ((a : Outcome) → ¬ OwnAnswer sheet (row_of sheet rs i) a) → is_stop (row_recorded room' i).outcome ≡ true

module _ (sheet : List ℕ) (accepted : sheet_verdict sheet ≡ Accepted) (rows : ℕ) (rs : List ℤ) (steps nesting cells_allowed : ℕ) (before room room' : List ℕ)
    (running : rows_verdict (translation sheet) rows rs nesting cells_allowed (length before) (length room) ≡ Accepted)
    (records : room' ≡ rows_records (translation sheet) rows rs steps nesting cells_allowed before room) (i : ℕ) (h : i < rows) where
  same_row : row_of (translation sheet) rs i ≡ row_of sheet rs i
  unfolding row_of translation
  same_row = rw (translation_readings (equal_trees sheet) sheet accepted) refl

  faithful : FaithfulInC sheet (row_of (translation sheet) rs i) (drop (i * answer_size) room') ⊥
  unfolding answer_after
  faithful =
      let row = row_of (translation sheet) rs i in
      let s = in_place (translation sheet) rows rs steps nesting cells_allowed before room running i h room' records in
      faithful_recorded sheet accepted row steps nesting cells_allowed Accepted tt ⊥ (rule_met (translation sheet) row steps nesting cells_allowed) (drop (i * answer_size) room') s.rest s.is

  row_faithful : FaithfulRow sheet rs room' i
  row_faithful =
      let f = subst (λ (row : List ℤ). FaithfulInC sheet row (drop (i * answer_size) room') ⊥) same_row faithful in
      record { own = λ signed. f.own (row_signed sheet rs i signed); outcome = f.outcome; none = λ none. stopped (f.none none) }

-- rows of a batch that wrote its records, run on the bytes that the translator wrote, unchanged
pub batch_faithful : (sheet out : List ℕ) (n : ℕ) (out' : List ℕ) → Translates sheet out (Length n) out'
    → (rows : ℕ) (rs : List ℤ) (steps nesting cells_allowed : ℕ) (before room : List ℕ) (m : ℕ) (after room' : List ℕ)
    → RunsRows (take n out') rows rs steps nesting cells_allowed before room (Length m) after room' → (i : ℕ) → i < rows → FaithfulRow sheet rs room' i
batch_faithful sheet out n out' translated rows rs steps nesting cells_allowed before room m after room' batch i h =
    let t = handed sheet out n out' translated in
    let runs = rw t.is at batch in
    row_faithful sheet t.accepted rows rs steps nesting cells_allowed before room room' (not_refused_by _ _ runs.answer) runs.records i h

pub batch_faithful_in_C : (sheet out : List ℕ) (code : ℕ) (out' : List ℕ) → TranslatesC sheet out code out' → code_number code ≡ 0
    → (rows : ℕ) (rs : List ℤ) (steps nesting cells_allowed : ℕ) (before room : List ℕ) (code' : ℕ) (after room' : List ℕ)
    → RunsRowsC (take (code_value code) out') rows rs steps nesting cells_allowed before room code' after room' → code_number code' ≡ 0
    → (i : ℕ) → i < rows → FaithfulRow sheet rs room' i
batch_faithful_in_C sheet out code out' translated not_refused rows rs steps nesting cells_allowed before room code' after room' batch written i h =
    let t = handed_in_C sheet out code out' translated not_refused in
    let runs = rw t.is at batch in
    let running = not_refused_in_C _ _ (batch_numbered _ rows rs nesting cells_allowed (length before) (length room)) runs.answer written in
    row_faithful sheet t.accepted rows rs steps nesting cells_allowed before room room' running runs.records i h
