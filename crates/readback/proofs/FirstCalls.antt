-- Laws of the first calls that share a label: the first is a call at or before the other, and where the labelling is symmetric and
-- transitive, calls have one label exactly if they have one first call, whose arguments the formals list in the label's place.
use mathlib.Core.Path.{◌≡◌, refl, ◌∙◌}
use Prim.Native.Nat.{ℕ, ◌+◌, ◌≤◌, ◌<◌}
use mathlib.Core.List.{List}
use mathlib.Core.Option.{some}
use mathlib.Core.Bool.{true, ◌&&◌, and-eq-true_iff}
use native.Mathlib.Omega.{arith}
use native.Mathlib.Decide.{ℕ_discrete, dec_lt}
use lib.ListN.{get_elem?}
use borrow.Author.Tests.{eq-eqb}
use Rattle.definitions.specs.Records.{field}
use Rattle.definitions.specs.Layouts.{nodes, node_record}
use Rattle.definitions.specs.Labels.{Labelling, calls, first_call, is_first, label_of, actuals}
use Rattle.laws.proofs.FirstPassing.{First, first_pass}
use Rattle.accepted.proofs.Counts.{count_term}
use Rattle.readback.proofs.Picked.{picked_element}

module _ (same : Labelling) (b : List ℕ) (f : ℕ) where
  -- node m is a call of f that shares the label of node k
  pub record Shares (k m : ℕ) : Type 0 where
    pub is_call : calls b f m ≡ true
    pub is_same : same m k ≡ true

  -- the first call that shares the label of node k is node k, or an earlier one
  pub data FirstOf (k : ℕ) : ℕ → Type 0 where
    itself : FirstOf k k
    earlier : {m : ℕ} → m < k → Shares k m → FirstOf k m

  first_found : (k : ℕ) → First k (λ m. calls b f m && same m k) (first_call same b f k)
  unfolding first_call
  first_found k = first_pass k (λ m. calls b f m && same m k)

  pub first_limit : (k : ℕ) → first_call same b f k ≤ k
  first_limit k = (first_found k).limit

  pub first_least : (k m : ℕ) → m < k → Shares k m → first_call same b f k ≤ m
  first_least k m h e = (first_found k).least m h (rw (e.is_call, e.is_same) refl)

  first_shares : (k : ℕ) → first_call same b f k < k → Shares k (first_call same b f k)
  first_shares k h =
      let m = first_call same b f k in
      let p = (and-eq-true_iff (calls b f m) (same m k)).0 ((first_found k).passes h) in
      record { is_call = p.0; is_same = p.1 }

  pub first_of : (k : ℕ) → FirstOf k (first_call same b f k)
  first_of k =
      elim (dec_lt (first_call same b f k) k) [
        | yes h ↦ earlier h (first_shares k h)
        | no h ↦ let e : first_call same b f k ≡ k = omega (arith, first_limit k, h) in rw e itself
      ]

  called_first : {k m : ℕ} → calls b f k ≡ true → FirstOf k m → calls b f m ≡ true
  called_first c itself = c
  called_first c (earlier h e) = e.is_call

  pub first_calls : (k : ℕ) → calls b f k ≡ true → calls b f (first_call same b f k) ≡ true
  first_calls k c = called_first c (first_of k)

module _ (same : Labelling) (swap : (m k : ℕ) → same m k ≡ true → same k m ≡ true)
    (onward : (m k n : ℕ) → same m k ≡ true → same k n ≡ true → same m n ≡ true) (b : List ℕ) (f : ℕ) where
  -- two calls that are the same have one first call
  no_later : (k m n : ℕ) → FirstOf same b f k n → calls b f k ≡ true → same k m ≡ true → n < first_call same b f m → ⊥
  no_later k m n itself c e h =
      omega (arith, h, first_least same b f m k (omega (arith, h, first_limit same b f m)) (record { is_call = c; is_same = e }))
  no_later k m n (earlier l x) c e h =
      omega (arith, h, first_least same b f m n (omega (arith, h, first_limit same b f m)) (record { is_call = x.is_call; is_same = onward n k m x.is_same e }))

  pub first_same : (k m : ℕ) → calls b f k ≡ true → calls b f m ≡ true → same k m ≡ true → first_call same b f k ≡ first_call same b f m
  first_same k m c d e =
      let x = first_call same b f k in
      let y = first_call same b f m in
      elim (ℕ_discrete x y) [
        | yes p ↦ p
        | no p ↦ elim (dec_lt x y) [
          | yes q ↦ absurd (no_later k m x (first_of same b f k) c e q)
          | no q ↦ absurd (no_later m k y (first_of same b f m) d (swap k m e) (omega (arith, p, q)))
        ]
      ]

  pub label_same : (k m : ℕ) → calls b f k ≡ true → calls b f m ≡ true → same k m ≡ true → label_of same b f k ≡ label_of same b f m
  unfolding label_of
  label_same k m c d e = rw (first_same k m c d e) refl

  -- the first call of a call is listed
  first_again : (k n : ℕ) → calls b f k ≡ true → FirstOf same b f k n → first_call same b f k ≡ n → first_call same b f n ≡ n
  first_again k n c itself e = e
  first_again k n c (earlier h x) e = first_same n k x.is_call c x.is_same ∙ e

  pub first_listed : (k : ℕ) → calls b f k ≡ true → is_first same b f (first_call same b f k) ≡ true
  unfolding is_first
  first_listed k c =
      rw (first_calls same b f k c, eq-eqb (first_call same b f (first_call same b f k)) (first_call same b f k) (first_again k _ c (first_of same b f k) refl)) refl

  -- its argument stands in the label's place
  pub listed_argument : (k i : ℕ) → k < nodes b → calls b f k ≡ true
      → get_elem? (actuals same b f i) (label_of same b f k) ≡ some (field (node_record b (first_call same b f k)) (1 + i))
  unfolding actuals label_of
  listed_argument k i h c =
      picked_element (is_first same b f) (λ m. field (node_record b m) (1 + i)) (nodes b) (first_call same b f k)
      (omega (arith, h, first_limit same b f k)) (first_listed k c)

  -- calls with one label have one first call
  pub label_apart : (k m : ℕ) → calls b f k ≡ true → calls b f m ≡ true → label_of same b f k ≡ label_of same b f m
      → first_call same b f k ≡ first_call same b f m
  unfolding label_of
  label_apart k m c d l =
      let x = first_call same b f k in
      let y = first_call same b f m in
      elim (ℕ_discrete x y) [
        | yes p ↦ p
        | no p ↦ elim (dec_lt x y) [
          | yes q ↦ absurd (omega (arith, l, count_term x y (is_first same b f) q (first_listed k c)))
          | no q ↦ absurd (omega (arith, l, count_term y x (is_first same b f) (omega (arith, p, q)) (first_listed m d)))
        ]
      ]

  same_first : (k n : ℕ) → same k k ≡ true → FirstOf same b f k n → same n k ≡ true
  same_first k n r itself = r
  same_first k n r (earlier h e) = e.is_same

  -- so they are the same
  pub label_shared : (k m : ℕ) → calls b f k ≡ true → calls b f m ≡ true → same k k ≡ true → same m m ≡ true
      → label_of same b f k ≡ label_of same b f m → same k m ≡ true
  label_shared k m c d r s l =
      let p = same_first k (first_call same b f k) r (first_of same b f k) in
      let q = same_first m (first_call same b f m) s (first_of same b f m) in
      let e = label_apart k m c d l in
      onward k (first_call same b f m) m (swap (first_call same b f m) k (rw e at p)) q
