-- What a caller in C reads: the number and the value of a code, the outcome and the value of a record.
use mathlib.Core.Path.{◌≡◌, refl, ap, ◌∙◌}
use Prim.Native.Nat.{ℕ, ◌<◌}
use mathlib.Core.List.{List, ◌++◌}
use native.Mathlib.Omega.{arith}
use mir.Syntax.{w32}
use mir.Val.{SFits, to_z}
use Rattle.definitions.specs.Bytes.{word, word32, signed, word_bytes, words32, bytes_of}
use Rattle.definitions.specs.Operators.{residue, reduced}
use Rattle.definitions.specs.Outcomes.{Outcome}
use Rattle.definitions.specs.Run.{Answer}
use Rattle.definitions.specs.AnswerRecord.{answer_words, answer_bytes, recorded}
use Rattle.operators.proofs.Residues.{residue_below, reduced_held}
use Rattle.agreement.specs.Answers.{answer_outcome}
use Rattle.shared_runs.specs.SameRuns.{SameAnswers}
use Rattle.zifnora_c.specs.Codes.{code, code_number, code_value}
use Rattle.demands.specs.InC.{SameRecords}

pub number_of_code : (n v : ℕ) → code_number (code n v) ≡ n
unfolding code_number code
number_of_code n v = omega arith

pub value_of_code : (n v : ℕ) → v < 4294967296 → code_value (code n v) ≡ v
unfolding code_value code
value_of_code n v h = omega arith

pub outcome_read : (a : Answer) (rest : List ℕ) → a.outcome < 65536 → (recorded (answer_bytes a ++ rest)).outcome ≡ a.outcome
unfolding recorded answer_bytes answer_words bytes_of word_bytes words32 word
outcome_read a rest h = omega arith

value_bits : (a : Answer) (rest : List ℕ) → word32 (answer_bytes a ++ rest) 6 ≡ residue w32 a.value
unfolding answer_bytes answer_words bytes_of word_bytes words32 word word32
value_bits a rest = let h = residue_below w32 a.value in omega arith

pub value_read : (a : Answer) (rest : List ℕ) → SFits w32 a.value → (recorded (answer_bytes a ++ rest)).value ≡ a.value
unfolding recorded signed reduced
value_read a rest h = ap (to_z w32) (value_bits a rest) ∙ reduced_held w32 a.value h

same_outcome : {x y : Outcome} → x.outcome ≡ y.outcome → x.value ≡ y.value → x ≡ y
same_outcome {x} {y} p q = rw (p, q) refl

pub answer_read : (a : Answer) (rest : List ℕ) → a.outcome < 65536 → SFits w32 a.value → recorded (answer_bytes a ++ rest) ≡ answer_outcome a
unfolding answer_outcome
answer_read a rest h f = same_outcome (outcome_read a rest h) (value_read a rest f)

-- records of answers that have the same outcome, value, steps and number of cells
pub same_records : (a b : Answer) (rest rest' : List ℕ) → SameAnswers a b → SameRecords (answer_bytes a ++ rest) (answer_bytes b ++ rest')
unfolding answer_bytes answer_words bytes_of word_bytes words32
same_records a b rest rest' s = record { front = rw (s.outcome, s.value, s.steps) refl; cells = rw s.cells refl }
