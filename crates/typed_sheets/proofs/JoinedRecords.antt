-- Records joined into one file: where each starts, that each is whole and is what was joined, and that none is past them.
use mathlib.Core.Path.{◌≡◌, refl, sym, ◌∙◌}
use Prim.Native.Nat.{ℕ, zero, suc, ◌+◌, ◌-◌, ◌≤◌, ◌<◌}
use mathlib.Core.List.{List, [], ◌++◌, append_assoc}
use mathlib.Core.Bool.{true, false}
use native.Mathlib.Omega.{arith}
use native.Mathlib.Nat.{zero-add, suc-add}
use lib.ListN.{length, length-append}
use lib.Seq.{take_at, drop_at}
use Rattle.definitions.specs.Bytes.{word}
use Rattle.definitions.specs.Records.{whole, next, start_of, record_at, record_of}
use Rattle.definitions.specs.Lists.{joined}
use Rattle.laws.proofs.Bytes.{word_part, word_past}
use Rattle.laws.proofs.Records.{is_whole, whole_short, next_whole, next_none, record_whole, record_none}
use Rattle.laws.proofs.Joined.{joined_split}

-- bytes that are one whole record
pub record WholeRecord (p : List ℕ) : Type 0 where
  pub least : 4 ≤ length p
  pub says : word p 0 ≡ length p

-- a record among other bytes
module _ (p q s : List ℕ) (g : WholeRecord q) where
  abbrev among : List ℕ
  among = p ++ (q ++ s)

  length_read : word among (length p) ≡ length q
  length_read =
      let z : length p + 0 ≡ length p = omega arith in
      let e : word q 0 ≡ word among (length p) = rw (drop_at p (q ++ s) (length p) refl, take_at q s (length q) refl, z)
      at (word_part among (length q) (length p) 0 (omega (arith, g.least))) in
      sym e ∙ g.says

  among_whole : whole among (length p) ≡ true
  among_whole =
      is_whole among (length p)
      (record {
        least = rw length_read g.least;
        inside = rw (length_read, length-append p (q ++ s), length-append q s) (omega arith);
      })

  among_next : next among (length p) ≡ length p + length q
  among_next = sym (next_whole among (length p) (length q) true (sym among_whole) refl (sym length_read))

  among_record : record_at among (length p) ≡ q
  among_record =
      sym (record_whole among (length p) among_whole)
      ∙ rw (length_read, drop_at p (q ++ s) (length p) refl) (take_at q s (length q) refl)

-- the records of 0, 1, .. n - 1
module _ (n : ℕ) (part : ℕ → List ℕ) (wholes : (i : ℕ) → i < n → WholeRecord (part i)) where
  -- the file, split at record r
  record Split (r : ℕ) : Type 0 where
    rest : List ℕ
    is : joined n part ≡ joined r part ++ (part r ++ rest)

  split : (r : ℕ) → r < n → Split r
  split r h =
      let s = joined_split part n r h in
      record { rest = s.rest; is = s.is ∙ append_assoc (joined r part) (part r) s.rest }

  pub joined_start : (r : ℕ) → r ≤ n → start_of (joined n part) r ≡ length (joined r part)
  unfolding start_of joined
  joined_start zero h = refl
  joined_start (suc r) h =
      let s = split r h in
      rw (joined_start r (omega arith), s.is, length-append (joined r part) (part r)) (among_next (joined r part) (part r) s.rest (wholes r h))

  pub joined_whole : (r : ℕ) → r < n → whole (joined n part) (start_of (joined n part) r) ≡ true
  joined_whole r h =
      let s = split r h in
      rw (joined_start r (omega arith), s.is) (among_whole (joined r part) (part r) s.rest (wholes r h))

  pub joined_record : (r : ℕ) → r < n → record_of (joined n part) r ≡ part r
  unfolding record_of
  joined_record r h =
      let s = split r h in
      rw (joined_start r (omega arith), s.is) (among_record (joined r part) (part r) s.rest (wholes r h))

  -- past them
  no_whole : false ≡ whole (joined n part) (length (joined n part))
  no_whole = whole_short (joined n part) (length (joined n part)) 0 (word_past (joined n part) (length (joined n part)) (omega arith)) (omega arith)

  start_past : (k : ℕ) → start_of (joined n part) (k + n) ≡ length (joined n part)
  unfolding start_of
  start_past zero = rw zero-add (joined_start n (omega arith))
  start_past (suc k) = rw (suc-add, start_past k) (sym (next_none (joined n part) (length (joined n part)) false no_whole refl))

  pub joined_past : (r : ℕ) → n ≤ r → record_of (joined n part) r ≡ []
  unfolding record_of
  joined_past r h =
      let k : r - n + n ≡ r = omega arith in
      rw (← k, start_past (r - n)) (sym (record_none (joined n part) (length (joined n part)) false no_whole refl))
