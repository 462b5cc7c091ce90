-- Laws of roots: what is entered after them does not matter, one more, and the last one.
use mathlib.Core.Path.{◌≡◌, refl, sym, ◌∙◌}
use Prim.Native.Nat.{ℕ, suc, ◌+◌, ◌-◌, ◌≤◌, ◌<◌}
use mathlib.Core.List.{List, [], ◌++◌}
use native.Mathlib.Omega.{arith}
use lib.ListN.{length, set}
use lib.Seq.{get_or-set_same, get_or-set_other}
use Rattle.definitions.specs.Records.{kind_of}
use Rattle.definitions.specs.Layouts.{nodes, node_record}
use Rattle.definitions.specs.Translate.{record_words}
use Rattle.definitions.specs.CanonicalSheet.{fields_of, size_of, field_words, tree_words}
use Rattle.canonical_writer.specs.Sizes.{tree_size}
use Rattle.canonical_writer.specs.Order.{entry_at, first_number, numbered_words, Roots, none, more, Numbered}

-- the record of a node that comes after those in its fields
numbered_after : (b : List ℕ) (s k : ℕ) → record_words (kind_of (node_record b k)) (field_words s (fields_of b k)) ≡ numbered_words b (s + size_of (fields_of b k)) k
unfolding numbered_words
numbered_after b s k =
    let e : s + size_of (fields_of b k) - size_of (fields_of b k) ≡ s = omega arith in
    rw e refl

module _ {b : List ℕ} where
  pub roots_kept : {order other : List ℕ} {n : ℕ} {words : List ℕ} → ((i : ℕ) → i < n → entry_at other i ≡ entry_at order i) → Roots b order n words
      → Roots b other n words
  roots_kept same (none e w) = none e w
  roots_kept same (more {s} k r h e a w) =
      more k (roots_kept (λ i l. same i (omega (arith, e, l))) r) h e (same (s + size_of (fields_of b k)) (omega (arith, e)) ∙ a) w

  -- the root of one tree more, entered at the last place
  module _ {order : List ℕ} {s : ℕ} {before : List ℕ} (r : Roots b order s before) {k n m : ℕ} (h : k < nodes b) (e : n ≡ s + tree_size b k) (f : suc m ≡ n)
      (g : n ≤ length order) where
    kept : Roots b (set order m k) s before
    kept = roots_kept (λ i l. get_or-set_other order m i k 0 (λ q. omega (arith, q, e, f, l))) r

    there : entry_at (set order m k) (s + size_of (fields_of b k)) ≡ k
    there =
        let q : s + size_of (fields_of b k) ≡ m = omega (arith, e, f) in
        rw q (get_or-set_same order m k 0 (omega (arith, f, g)))

    pub roots_more : {words : List ℕ} → words ≡ before ++ tree_words s (fields_of b k) ++ record_words (kind_of (node_record b k)) (field_words s (fields_of b k))
        → Roots b (set order m k) n words
    roots_more w = more k kept h e there (w ∙ rw numbered_after refl)

  pub no_roots : {order : List ℕ} → Roots b order 0 []
  no_roots = none refl refl

  pub roots_none : {order : List ℕ} {n : ℕ} {words : List ℕ} → Roots b order n words → n ≡ 0 → words ≡ []
  roots_none (none e w) z = w
  roots_none (more k r h e a w) z = absurd (omega (arith, e, z))

-- the last tree, whose root is node k and gets number q, and the roots before it
pub record LastRoot (b order : List ℕ) (q k : ℕ) (words : List ℕ) : Type 0 where
  pub before : List ℕ
  pub roots : Roots b order (first_number b q k) before
  pub numbered : Numbered b q k
  pub is : words ≡ before ++ tree_words (first_number b q k) (fields_of b k) ++ numbered_words b q k

last_by : {b order before words : List ℕ} {q s k : ℕ} (m : ℕ) → m ≡ k → Roots b order s before → m < nodes b → q ≡ s + size_of (fields_of b m)
    → words ≡ before ++ tree_words s (fields_of b m) ++ numbered_words b q m → LastRoot b order q k words
last_by {b} {before = before} {q = q} {s = s} {k = k} m g r h e w =
    let z : q ≡ s + size_of (fields_of b k) = rw g at e in
    let f : first_number b q k ≡ s = omega (arith, z) in
    record {
      before = before;
      roots = rw f r;
      numbered = record { below = rw g at h; room = omega (arith, z) };
      is = rw f (rw g at w);
    }

pub last_root : {b order : List ℕ} {q k n : ℕ} {words : List ℕ} → Roots b order n words → n ≡ q + 1 → k ≡ entry_at order q → LastRoot b order q k words
last_root (none e w) f g = absurd (omega (arith, e, f))
last_root {b} {q = q} (more {s} m r h e a w) f g =
    let p : s + size_of (fields_of b m) ≡ q = omega (arith, e, f) in
    last_by m (sym (g ∙ rw p at a)) r h (sym p) (rw p at w)
