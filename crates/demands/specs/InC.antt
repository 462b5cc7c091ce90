-- What the demands say to a caller in C, who sees a code and the bytes of the answer's record.
use Rattle.std.specs.Prelude.{◌≡◌, ℕ, List, true, ℤ, pos, length, get_or, take, drop}
use Rattle.std.specs.Int.{w32}
use Rattle.std.proofs.Common.{SFits}
use Rattle.definitions.specs.Numbers.{short_output, is_refusal, is_stop, is_answer}
use Rattle.definitions.specs.Translate.{translation}
use Rattle.definitions.specs.AnswerRecord.{recorded}
use Rattle.zifnora_c.specs.Codes.{code_number, code_value}
use Rattle.demands.specs.Demands.{Handed}

-- "Readings are signed 32-bit numbers."
pub record SignedReadings (rs : List ℤ) : Type 0 where
  pub fit : (i : ℕ) → SFits w32 (get_or rs i (pos 0))

-- records of answers with the same outcome, value, steps and number of cells: all bytes but those of node and context
pub record SameRecords (room room' : List ℕ) : Type 0 where
  pub front : take 14 room ≡ take 14 room'
  pub cells : take 2 (drop 18 room) ≡ take 2 (drop 18 room')

-- a call that writes, other than a run's record, ends with number 0 and the length of what it wrote, here n, or with the number of a refusal
pub data WritingMetInC (code n : ℕ) (done untouched : Type 0) : Type 0 where
  writes : code_number code ≡ 0 → code_value code ≡ n → done → WritingMetInC code n done untouched
  refuses : is_refusal (code_number code) ≡ true → untouched → WritingMetInC code n done untouched

-- translating ends with the translation's length and the translation, or with a refusal that leaves the output as it was
abbrev pub TranslatingMetInC : List ℕ → List ℕ → ℕ → List ℕ → Type 0
TranslatingMetInC sheet out code out' = WritingMetInC code (length (translation sheet)) (Handed sheet (code_value code) out') (out' ≡ out)

-- a run ends with code 0 and a record, of an answer, a stop or a refusal that leaves the lent buffers untouched; or with 8 where the
-- record has no room, and then nothing is written
pub data MetInC (code : ℕ) (room room' : List ℕ) (untouched : Type 0) : Type 0 where
  answers : code ≡ 0 → is_answer (recorded room').outcome ≡ true → MetInC code room room' untouched
  stops : code ≡ 0 → is_stop (recorded room').outcome ≡ true → MetInC code room room' untouched
  refuses : code ≡ 0 → is_refusal (recorded room').outcome ≡ true → untouched → MetInC code room room' untouched
  no_room : code_number code ≡ short_output → room' ≡ room → untouched → MetInC code room room' untouched

-- a record without an answer
pub data StoppedOrRefusedInC (room' : List ℕ) (untouched : Type 0) : Type 0 where
  stops : is_stop (recorded room').outcome ≡ true → StoppedOrRefusedInC room' untouched
  refuses : is_refusal (recorded room').outcome ≡ true → untouched → StoppedOrRefusedInC room' untouched
