-- What the call that writes a line promises.
use Rattle.std.specs.Prelude.{◌≡◌, ℕ, ◌≤◌, List, ◌++◌, length, drop}
use Rattle.answer.specs.Answers.{answer_of}
use Rattle.answer.specs.declared.Answer.{Answer}
use Rattle.report.specs.Lines.{line}

-- how many bytes the space for a line has
abbrev pub line_bytes : ℕ
line_bytes = 64

-- the answer is the line's length; the space at exit is the line, then what was there
pub record WritesLine (a : Answer) (out : List ℕ) (r : ℕ) (out' : List ℕ) : Type 0 where
  pub answer : r ≡ length (line (answer_of a))
  pub output : out' ≡ line (answer_of a) ++ drop (length (line (answer_of a))) out
  pub short : r ≤ line_bytes
