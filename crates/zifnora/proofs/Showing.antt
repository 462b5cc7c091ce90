-- The line of the joined call's answer is the program's, and it stands at the front of its space.
use mathlib.Core.Path.{◌≡◌, refl, sym, ap, ◌∙◌}
use Prim.Native.Nat.{ℕ, ◌*◌, ◌≤◌}
use mathlib.Core.List.{List, [], ◌++◌}
use native.Mathlib.Omega.{arith}
use lib.IntN.{ℤ}
use lib.ListN.{length, take, drop, length-append}
use lib.Seq.{take_at}
use Rattle.definitions.specs.Sizes.{translation_bytes, cell_size}
use Rattle.definitions.specs.Run as Run
use Rattle.answer.specs.declared.Answer.{Answer}
use Rattle.answer.specs.Answers.{answer_of}
use Rattle.join.specs.Promise.{Joins}
use Rattle.report.specs.Lines.{line}
use Rattle.report.specs.Promise.{WritesLine}
use Rattle.zifnora.specs.Program.{program_answer, ShowsAnswer}

module _ {sheet buffer : List ℕ} {rs : List ℤ} {cells : List ℕ} {r : Answer} {buffer' cells' : List ℕ} (out : List ℕ) (n : ℕ) (out' : List ℕ) where
  program_answer_law : Joins sheet buffer rs 1000 100 100 cells r buffer' cells'
      → length buffer ≡ translation_bytes → rs ≡ [] → length cells ≡ cell_size * 100 → answer_of r ≡ program_answer sheet
  unfolding program_answer
  program_answer_law j b e c = j.answer ∙ rw (b, e, c) refl

  pub answer_shown : Joins sheet buffer rs 1000 100 100 cells r buffer' cells' → WritesLine r out n out'
      → length buffer ≡ translation_bytes → rs ≡ [] → length cells ≡ cell_size * 100 → ShowsAnswer sheet out n out'
  answer_shown j w b e c =
      let a : answer_of r ≡ program_answer sheet = program_answer_law j b e c in
      record {
        answer = w.answer ∙ ap (λ (x : Run.Answer). length (line x)) a;
        output = w.output ∙ ap (λ (x : Run.Answer). line x ++ drop (length (line x)) out) a;
      }

-- the bytes that are printed
module _ {sheet out : List ℕ} {n : ℕ} {out' : List ℕ} (s : ShowsAnswer sheet out n out') where
  pub line_within : n ≤ length out'
  line_within = rw (s.output, length-append) (omega (arith, s.answer))

  pub line_front : take n out' ≡ line (program_answer sheet)
  line_front = rw s.output (take_at (line (program_answer sheet)) (drop (length (line (program_answer sheet))) out) n (sym s.answer))

  pub line_counted : n ≡ length (take n out')
  line_counted = s.answer ∙ sym (ap length line_front)
