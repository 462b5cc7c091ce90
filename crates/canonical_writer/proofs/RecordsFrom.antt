-- The records of the nodes from a number on, by a table of order: one more before them, and the same by a table that agrees from there on.
use mathlib.Core.Path.{◌≡◌, refl, sym, ap, ◌∙◌}
use Prim.Native.Nat.{ℕ, zero, suc, ◌+◌, ◌-◌, ◌≤◌, ◌<◌}
use mathlib.Core.List.{List, ◌++◌, append_assoc, append-nil}
use native.Mathlib.Omega.{arith}
use native.Mathlib.Nat.{add-zero}
use Rattle.definitions.specs.Lists.{joined}
use Rattle.definitions.specs.Layouts.{nodes}
use Rattle.laws.proofs.Joined.{joined_same}
use Rattle.canonical_writer.specs.Order.{entry_at, numbered_words}

-- the first of n + 1 parts, and the others
joined_first : {A : Type 0} (part : ℕ → List A) (n : ℕ) → joined (suc n) part ≡ part 0 ++ joined n (λ i. part (suc i))
unfolding joined
joined_first part zero = sym (append-nil (part 0))
joined_first part (suc n) = rw (joined_first part n) (append_assoc (part 0) (joined n (λ i. part (suc i))) (part (suc n)))

-- the records of the nodes from number q on
abbrev pub records_from : List ℕ → List ℕ → ℕ → List ℕ
records_from b order q = joined (nodes b - q) (λ i. numbered_words b (q + i) (entry_at order (q + i)))

records_more : (b order : List ℕ) (q : ℕ) → q < nodes b → records_from b order q ≡ numbered_words b q (entry_at order q) ++ records_from b order (q + 1)
records_more b order q h =
    let part : ℕ → List ℕ = λ i. numbered_words b (q + i) (entry_at order (q + i)) in
    let n : nodes b - q ≡ suc (nodes b - (q + 1)) = omega (arith, h) in
    let same : joined (nodes b - (q + 1)) (λ i. part (suc i)) ≡ records_from b order (q + 1)
    = joined_same (λ i. part (suc i)) (λ i. numbered_words b (q + 1 + i) (entry_at order (q + 1 + i))) (nodes b - (q + 1))
    (λ i l. let e : q + suc i ≡ q + 1 + i = omega arith in rw e refl) in
    ap (λ (m : ℕ). joined m part) n ∙ joined_first part (nodes b - (q + 1)) ∙ rw (add-zero, same) refl

pub records_kept : (b order other : List ℕ) (q : ℕ) → ((i : ℕ) → q ≤ i → entry_at other i ≡ entry_at order i) → records_from b order q ≡ records_from b other q
records_kept b order other q same =
    joined_same (λ i. numbered_words b (q + i) (entry_at order (q + i))) (λ i. numbered_words b (q + i) (entry_at other (q + i))) (nodes b - q)
    (λ i l. rw (same (q + i) (omega arith)) refl)

-- all records, where those before number q are known and node k gets number q
pub records_before : (b order before tree : List ℕ) {all words : List ℕ} {q k : ℕ} → q < nodes b → k ≡ entry_at order q → all ≡ words ++ records_from b order (q + 1)
    → words ≡ before ++ tree ++ numbered_words b q k → all ≡ before ++ tree ++ records_from b order q
records_before b order before tree {q = q} {k = k} h e f g =
    let r : records_from b order q ≡ numbered_words b q k ++ records_from b order (q + 1) = records_more b order q h ∙ rw e refl in
    f ∙ rw (g, r) (append_assoc (before ++ tree) (numbered_words b q k) (records_from b order (q + 1)))
