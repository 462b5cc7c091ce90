-- What the functions below the public call promise.
use Rattle.std.specs.Prelude.{◌≡◌, ℕ, ℤ, ◌+◌, ◌≤◌, List, length}
use Rattle.std.proofs.lemmas.List.Edits.{sets}
use Rattle.answer.specs.Answers.{outcome_of, value_of, answer_of}
use Rattle.answer.specs.declared.Answer.{Answer}
use Rattle.answer.specs.declared.Outcome.{Outcome}
use Rattle.report.specs.declared.line_writer.LineWriter.{LineWriter}
use Rattle.report.specs.declared.shown.Shown.{Shown}
use Rattle.report.specs.declared.shown.Signed.{Signed}
use Rattle.report.specs.Decimals.{signed, integer}
use Rattle.report.specs.Lines.{line}
use Rattle.report.specs.Promise.{line_bytes}

-- bytes were written at a place: where they fit, the place after them and the output at exit; and its length, which stays
pub record WroteBytes (out : List ℕ) (at : ℕ) (bytes : List ℕ) (next : ℕ) (out' : List ℕ) : Type 0 where
  pub place : at + length bytes ≤ length out → next ≡ at + length bytes
  pub output : at + length bytes ≤ length out → out' ≡ sets out at bytes
  pub kept : length out' ≡ length out

-- the same with a line that is being written
abbrev pub Appends : LineWriter → List ℕ → LineWriter → Type 0
Appends before bytes after = WroteBytes before.space before.length bytes after.length after.space

-- a number by its sign and its size
abbrev pub IsSigned : ℤ → Signed → Type 0
IsSigned z s = signed s.negative s.size ≡ integer z

-- what is shown of an outcome: its number, and its value
pub record ShownOf (o : Outcome) (s : Shown) : Type 0 where
  pub number : s.number ≡ outcome_of o
  pub value : IsSigned (value_of o) s.value

-- the line of an answer was written, and it is not longer than the space
pub record PutsLine (a : Answer) (before after : LineWriter) : Type 0 where
  pub wrote : Appends before (line (answer_of a)) after
  pub short : length (line (answer_of a)) ≤ line_bytes
