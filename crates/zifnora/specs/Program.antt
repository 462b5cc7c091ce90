-- What the program answers to a sheet (document 01: it "runs it without readings (1,000 steps, nesting 100, 100 cells)").
use Rattle.std.specs.Prelude.{◌≡◌, ℕ, ◌*◌, List, [], ◌++◌, length, drop}
use Rattle.definitions.specs.Sizes.{translation_bytes, cell_size}
use Rattle.definitions.specs.Run.{Answer}
use Rattle.join.specs.Promise.{join_answer}
use Rattle.report.specs.Lines.{line}

-- the answer, with a buffer for the longest translation and one for the cells
unfoldable pub program_answer : List ℕ → Answer
program_answer sheet = join_answer sheet translation_bytes [] 1000 100 100 (cell_size * 100)

-- the result is the length of the answer's line; the space at exit is the line, then what was there
pub record ShowsAnswer (sheet out : List ℕ) (r : ℕ) (out' : List ℕ) : Type 0 where
  pub answer : r ≡ length (line (program_answer sheet))
  pub output : out' ≡ line (program_answer sheet) ++ drop (length (line (program_answer sheet))) out
