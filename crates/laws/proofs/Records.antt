-- Laws of records: what `whole`, `next` and `record_at` are where a test went one way or the other.
use mathlib.Core.Path.{◌≡◌, refl, sym, ◌∙◌}
use Prim.Native.Nat.{ℕ, ◌+◌, ◌*◌, ◌-◌, ◌/◌, ◌≤◌, ◌<◌}
use mathlib.Core.List.{List, []}
use mathlib.Core.Bool.{Bool, true, false, and-eq-true_iff, and-false}
use native.Mathlib.Omega.{arith}
use native.Mathlib.Numerals.{add-one}
use native.Mathlib.Nat.{sub-eq-zero_of_le, le_of_lt, add-sub_cancel_left}
use lib.ListN.{length, take, drop, length-take, length-drop}
use lib.Dec.{leb}
use borrow.Author.Tests.{le-leb, lt-leb, leb-true, leb-false}
use Rattle.definitions.specs.Bytes.{word}
use Rattle.definitions.specs.Records.{whole, next, start_of, record_at, field, field_count}
use Rattle.laws.proofs.Bytes.{word_past, word_part}

-- a record that is whole: its length field, and its last byte
pub record WholeAt (b : List ℕ) (at : ℕ) : Type 0 where
  pub least : 4 ≤ word b at
  pub inside : at + word b at ≤ length b

pub whole_is : (b : List ℕ) (at : ℕ) → whole b at ≡ true → WholeAt b at
unfolding whole
whole_is b at e =
    let k = (and-eq-true_iff (leb 4 (word b at)) (leb (at + word b at) (length b))).0 e in
    record { least = leb-true 4 (word b at) k.0; inside = leb-true (at + word b at) (length b) k.1 }

pub is_whole : (b : List ℕ) (at : ℕ) → WholeAt b at → whole b at ≡ true
unfolding whole
is_whole b at w = rw (le-leb 4 (word b at) w.least, le-leb (at + word b at) (length b) w.inside) refl

-- the three ways of the test
pub whole_short : (b : List ℕ) (at n : ℕ) → n ≡ word b at → n < 4 → false ≡ whole b at
unfolding whole
whole_short b at n e h = rw (lt-leb 4 (word b at) (rw e at h)) refl

pub whole_past : (b : List ℕ) (at n : ℕ) → n ≡ word b at → length b < at + n → false ≡ whole b at
unfolding whole
whole_past b at n e h = rw (lt-leb (at + word b at) (length b) (rw e at h), and-false) refl

pub whole_fits : (b : List ℕ) (at n : ℕ) → n ≡ word b at → 4 ≤ n → at ≤ length b → leb n (length b - at) ≡ whole b at
unfolding whole
whole_fits b at n e h q = rw (← e, le-leb 4 n h) (fits_either (leb n (length b - at)) refl)
  where
    fits_either : (t : Bool) → leb n (length b - at) ≡ t → leb n (length b - at) ≡ leb (at + n) (length b)
    fits_either true p = rw (p, le-leb (at + n) (length b) (omega (arith, leb-true n (length b - at) p))) refl
    fits_either false p = rw (p, lt-leb (at + n) (length b) (omega (arith, leb-false n (length b - at) p))) refl

-- the next place and the record, by what the test answered; `n` is the length field that was read
pub whole_inside : (b : List ℕ) (at n : ℕ) (t : Bool) → t ≡ whole b at → t ≡ true → n ≡ word b at → at + n ≤ length b
whole_inside b at n t e f q = rw q (whole_is b at (sym e ∙ f)).inside

pub next_whole : (b : List ℕ) (at n : ℕ) (t : Bool) → t ≡ whole b at → t ≡ true → n ≡ word b at → at + n ≡ next b at
unfolding next
next_whole b at n t e f q = rw (← e, f, q) refl

pub next_none : (b : List ℕ) (at : ℕ) (t : Bool) → t ≡ whole b at → t ≡ false → at ≡ next b at
unfolding next
next_none b at t e f = rw (← e, f) refl

pub record_whole : (b : List ℕ) (at : ℕ) → whole b at ≡ true → take (word b at) (drop at b) ≡ record_at b at
unfolding record_at
record_whole b at e = rw e refl

pub record_none : (b : List ℕ) (at : ℕ) (t : Bool) → t ≡ whole b at → t ≡ false → [] ≡ record_at b at
unfolding record_at
record_none b at t e f = rw (← e, f) refl

pub record_part : (b : List ℕ) (at n : ℕ) (t : Bool) → t ≡ whole b at → t ≡ true → n ≡ word b at → take (at + n - at) (drop at b) ≡ record_at b at
record_part b at n t e f q = rw (add-sub_cancel_left, q) (record_whole b at (sym e ∙ f))

-- a whole record is as long as its length field says, and its fields are the file's
pub record_length_law : (b : List ℕ) (at : ℕ) → whole b at ≡ true → length (record_at b at) ≡ word b at
record_length_law b at e =
    let w = whole_is b at e in
    rw (← record_whole b at e, length-take, length-drop) (omega (arith, w.inside))

pub record_word : (b : List ℕ) (at j : ℕ) → whole b at ≡ true → j + 1 < word b at → word (record_at b at) j ≡ word b (at + j)
record_word b at j e h = rw (← record_whole b at e) (word_part b (word b at) at j h)

-- the walk begins at 0, and goes on
pub start_zero : (b : List ℕ) → 0 ≡ start_of b 0
unfolding start_of
start_zero b = refl

pub start_next : (b : List ℕ) (r at : ℕ) → at ≡ start_of b r → next b at ≡ start_of b (r + 1)
unfolding start_of
start_next b r at e = rw (add-one, e) refl

-- fields
pub field_is : (rec : List ℕ) (j n : ℕ) → n ≡ word rec (4 + 2 * j) → n ≡ field rec j
field_is rec j n e = e

pub field_past : (rec : List ℕ) (j : ℕ) → length rec / 2 ≤ j → 0 ≡ field rec j
field_past rec j h = word_past rec (4 + 2 * j) (omega arith)

pub field_room : (rec : List ℕ) (j : ℕ) → j < field_count rec → 4 + 2 * j + 1 < length rec
unfolding field_count
field_room rec j h = omega arith

pub fields_none : (rec : List ℕ) → length rec < 4 → 0 ≡ field_count rec
unfolding field_count
fields_none rec h = rw (sub-eq-zero_of_le (le_of_lt h)) refl
