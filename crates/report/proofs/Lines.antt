-- Laws of lines: how long they are at most, and which bytes of a line are which answer's.
use mathlib.Core.Path.{◌≡◌, refl, ◌∙◌}
use Prim.Native.Nat.{ℕ, ◌+◌, ◌≤◌, ◌<◌}
use mathlib.Core.Bool.{Bool, true, false}
use mathlib.Core.List.{List}
use native.Mathlib.Omega.{arith}
use lib.IntN.{pos}
use lib.ListN.{length, length-append}
use borrow.Author.Tests.{ne_eqb}
use Rattle.definitions.specs.Numbers.{is_number, is_constructor, is_refusal}
use Rattle.answer.specs.Answers.{answer_of}
use Rattle.answer.specs.declared.Answer.{Answer}
use Rattle.laws.proofs.Stores.{over_front}
use Rattle.report.specs.declared.line_writer.LineWriter.{LineWriter}
use Rattle.report.specs.declared.shown.Shown.{Shown}
use Rattle.report.specs.Decimals.{decimal, signed, integer}
use Rattle.report.specs.Lines.{number_word, constructor_word, end_word, refused_word, steps_word, cells_word, place_word, line_end}
use Rattle.report.specs.Lines.{counts, counted_line, refusal_line, line_of, line}
use Rattle.report.specs.Promise.{WritesLine, line_bytes}
use Rattle.report.specs.Writing.{Appends, ShownOf, PutsLine}
use Rattle.report.proofs.Digits.{decimal_length}

signed_length : (negative : Bool) (size : ℕ) → size < 18446744073709551616 → length (signed negative size) ≤ 21
unfolding signed
signed_length true size h = omega (arith, decimal_length 19 size (omega arith))
signed_length false size h = omega (arith, decimal_length 19 size (omega arith))

counts_length : (steps cells : ℕ) → steps < 4294967296 → cells < 65536 → length (counts steps cells) ≤ 30
unfolding counts steps_word cells_word line_end
counts_length steps cells h k =
    simp length-append (omega (arith, decimal_length 9 steps (omega arith), decimal_length 4 cells (omega arith)))

-- what is shown of an answer, in numbers that fit their types
pub record FitsTypes (a : Answer) (s : Shown) : Type 0 where
  pub number : s.number < 65536
  pub size : s.value.size < 18446744073709551616
  pub steps : a.steps < 4294967296
  pub cells : a.cells < 65536

module _ (a : Answer) (s : Shown) (b : FitsTypes a s) where
  counted_length : (word shown : List ℕ) → length word ≤ 12 → length shown ≤ 21 → length (counted_line word shown a.steps a.cells) ≤ line_bytes
  unfolding counted_line
  counted_length word shown h k = simp length-append (omega (arith, counts_length a.steps a.cells b.steps b.cells))

  refusal_length : length (refusal_line s.number (signed s.value.negative s.value.size)) ≤ line_bytes
  unfolding refusal_line refused_word place_word line_end
  refusal_length =
      simp length-append
      (omega (arith, decimal_length 4 s.number (omega (arith, b.number)), signed_length s.value.negative s.value.size b.size))

-- the line of each outcome's number
as_shown : (a : Answer) (s : Shown) → ShownOf a.outcome s → line_of s.number (signed s.value.negative s.value.size) a.steps a.cells ≡ line (answer_of a)
unfolding line answer_of
as_shown a s e = rw (e.number, e.value) refl

module _ {a : Answer} {s : Shown} {v w : LineWriter} (e : ShownOf a.outcome s) (b : FitsTypes a s) where
  puts_as : (bytes : List ℕ) → bytes ≡ line (answer_of a) → length bytes ≤ line_bytes → Appends v bytes w → PutsLine a v w
  puts_as bytes f h k = record { wrote = rw f at k; short = rw f at h }

  pub puts_number : s.number ≡ is_number → Appends v (counted_line number_word (signed s.value.negative s.value.size) a.steps a.cells) w
      → PutsLine a v w
  unfolding line_of number_word
  puts_number h =
      puts_as _ (rw h at (as_shown a s e))
      (counted_length a s b number_word (signed s.value.negative s.value.size) (omega arith) (signed_length s.value.negative s.value.size b.size))

  pub puts_constructor : s.number ≡ is_constructor → Appends v (counted_line constructor_word (signed s.value.negative s.value.size) a.steps a.cells) w
      → PutsLine a v w
  unfolding line_of constructor_word
  puts_constructor h =
      puts_as _ (rw h at (as_shown a s e))
      (counted_length a s b constructor_word (signed s.value.negative s.value.size) (omega arith)
      (signed_length s.value.negative s.value.size b.size))

  pub puts_refusal : (s.number ≡ is_number → ⊥) → (s.number ≡ is_constructor → ⊥) → is_refusal s.number ≡ true
      → Appends v (refusal_line s.number (signed s.value.negative s.value.size)) w
      → PutsLine a v w
  unfolding line_of
  puts_refusal h i j = puts_as _ (rw (ne_eqb s.number is_number h, ne_eqb s.number is_constructor i, j) at (as_shown a s e)) (refusal_length a s b)

  pub puts_end : (s.number ≡ is_number → ⊥) → (s.number ≡ is_constructor → ⊥) → is_refusal s.number ≡ false
      → Appends v (counted_line end_word (integer (pos s.number)) a.steps a.cells) w
      → PutsLine a v w
  unfolding line_of end_word signed integer
  puts_end h i j =
      puts_as _ (rw (ne_eqb s.number is_number h, ne_eqb s.number is_constructor i, j) at (as_shown a s e))
      (counted_length a s b end_word (decimal s.number) (omega arith) (omega (arith, decimal_length 4 s.number (omega (arith, b.number)))))

-- the space has room for every line
pub line_written : {a : Answer} {out : List ℕ} {w : LineWriter} → line_bytes ≤ length out → PutsLine a (record { space = out; length = 0 }) w
    → WritesLine a out w.length w.space
line_written {a} {out} {w} k p =
    let h : length (line (answer_of a)) ≤ line_bytes = p.short in
    let f : 0 + length (line (answer_of a)) ≤ length out = omega arith in
    let i : length (line (answer_of a)) ≤ length out = omega arith in
    let n : w.length ≡ length (line (answer_of a)) = omega (arith, p.wrote.place f) in
    record {
      answer = n;
      output = p.wrote.output f ∙ over_front (line (answer_of a)) out (length (line (answer_of a))) refl i;
      short = omega arith;
    }
