-- Two files that start with the same bytes have the same records there.
use mathlib.Core.Path.{◌≡◌, refl, sym, ◌∙◌}
use Prim.Native.Nat.{ℕ, zero, suc, ◌+◌, ◌≤◌, ◌<◌}
use mathlib.Core.List.{List, ◌++◌}
use mathlib.Core.Bool.{true}
use native.Mathlib.Omega.{arith}
use lib.ListN.{length, get_or, take, drop, length-append, length-drop, take-append-drop, get_or-append}
use lib.Seq.{length-take-le, take-append-le, drop-append-le, get_or-take}
use Rattle.definitions.specs.Bytes.{word}
use Rattle.definitions.specs.Records.{whole, next, start_of, record_at, record_of}
use Rattle.laws.proofs.Records.{whole_is, is_whole, next_whole, record_whole}

-- a part of what comes first
part_first : (s x : List ℕ) (at w : ℕ) → at + w ≤ length s → take w (drop at (s ++ x)) ≡ take w (drop at s)
part_first s x at w h =
    rw (drop-append-le at s x (omega (arith, h))) (take-append-le w (drop at s) x (omega (arith, h, length-drop at s)))

-- a file that starts with the first n bytes of file b
module _ (b x : List ℕ) (n : ℕ) (inside : n ≤ length b) where
  abbrev c : List ℕ
  c = take n b ++ x

  pub start_length : length (take n b) ≡ n
  start_length = length-take-le n b inside

  same_byte : (j : ℕ) → j < n → get_or c j 0 ≡ get_or b j 0
  same_byte j h = get_or-append (take n b) x 0 j (rw start_length h) ∙ get_or-take n b j 0 h

  pub same_word : (j : ℕ) → j + 1 < n → word c j ≡ word b j
  unfolding word
  same_word j h = rw (same_byte j (omega (arith, h)), same_byte (j + 1) h) refl

  -- a record that ends by then
  module _ (at : ℕ) (e : whole b at ≡ true) (h : at + word b at ≤ n) where
    length_same : word c at ≡ word b at
    length_same = same_word at (omega (arith, h, (whole_is b at e).least))

    same_whole : whole c at ≡ true
    same_whole =
        is_whole c at
        (record {
          least = rw length_same (whole_is b at e).least;
          inside = rw length_same (omega (arith, h, length-append (take n b) x, start_length));
        })

    same_next : next c at ≡ next b at
    same_next =
        sym (next_whole c at (word b at) true (sym same_whole) refl (sym length_same)) ∙ next_whole b at (word b at) true (sym e) refl refl

    same_part : take (word b at) (drop at c) ≡ take (word b at) (drop at b)
    same_part =
        let l : at + word b at ≤ length (take n b) = rw start_length h in
        let z : take (word b at) (drop at (take n b ++ drop n b)) ≡ take (word b at) (drop at (take n b))
        = part_first (take n b) (drop n b) at (word b at) l in
        part_first (take n b) x at (word b at) l ∙ sym (rw (take-append-drop n b) at z)

    same_record_at : record_at c at ≡ record_at b at
    same_record_at = sym (record_whole c at same_whole) ∙ rw length_same (same_part ∙ record_whole b at e)

  -- the first m records
  module _ (m : ℕ) (wholes : (r : ℕ) → r < m → whole b (start_of b r) ≡ true)
      (ends : (r : ℕ) → r < m → start_of b r + word b (start_of b r) ≤ n) where
    pub same_start : (r : ℕ) → r ≤ m → start_of c r ≡ start_of b r
    unfolding start_of
    same_start zero h = refl
    same_start (suc r) h = rw (same_start r (omega (arith, h))) (same_next (start_of b r) (wholes r h) (ends r h))

    pub same_record : (r : ℕ) → r < m → record_of c r ≡ record_of b r
    unfolding record_of
    same_record r h = rw (same_start r (omega (arith, h))) (same_record_at (start_of b r) (wholes r h) (ends r h))
