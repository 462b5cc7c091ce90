-- The fields that name nodes hold the children, in order: a sum over the ones is the sum over the others, and each child stands in one.
use mathlib.Core.Path.{◌≡◌, refl}
use Prim.Native.Nat.{ℕ, zero, suc, ◌+◌, ◌*◌, ◌-◌, ◌/◌, ◌%◌, ◌<◌}
use mathlib.Core.List.{List}
use mathlib.Core.Bool.{Bool, true, false, cond}
use native.Mathlib.Omega.{arith}
use native.Mathlib.Decide.{ℕ_discrete}
use lib.Dec.{leb, eqb}
use borrow.Author.Tests.{le-leb, eq-eqb, ne_eqb}
use Rattle.definitions.specs.Records.{kind_of, field, field_count}
use Rattle.definitions.specs.Lists.{sum_of}
use Rattle.definitions.specs.References.{every_other, from_first, from_second, child_count, child_field, children, child}
use Rattle.definitions.specs.Trees.{names_node}
use Rattle.accepted.proofs.Sums.{SomeBelow}
use Rattle.canonical_sheets.proofs.Sums.{sum_zero}

-- a sum over those of the first n fields of a record that name nodes
abbrev pub over_nodes : List ℕ → (ℕ → ℕ) → ℕ → ℕ
over_nodes rec at n = sum_of n (λ i. cond (names_node (kind_of rec) i) (at (field rec i)) 0)

module _ (at : ℕ → ℕ) where
  -- every other field
  others : (n : ℕ) → sum_of n (λ i. cond (eqb (i % 2) 0) (at i) 0) ≡ sum_of ((n + 1) / 2) (λ j. at (2 * j))
  unfolding sum_of
  others zero = refl
  others (suc n) =
      elim (ℕ_discrete (n % 2) 0) [
        | yes e ↦
            let h : (suc n + 1) / 2 ≡ suc ((n + 1) / 2) = omega (arith, e) in
            let d : 2 * ((n + 1) / 2) ≡ n = omega (arith, e) in
            rw (eq-eqb (n % 2) 0 e, h, d, others n) refl
        | no e ↦
            let h : (suc n + 1) / 2 ≡ (n + 1) / 2 = omega (arith, e) in
            rw (ne_eqb (n % 2) 0 e, h, others n) (omega arith)
      ]

  -- all but the first
  laters : (n : ℕ) → sum_of n (λ i. cond (leb 1 i) (at i) 0) ≡ sum_of (n - 1) (λ j. at (1 + j))
  unfolding sum_of
  laters zero = refl
  laters (suc zero) = refl
  laters (suc (suc n)) =
      let e : suc (suc n) - 1 ≡ suc n = omega arith in
      let d : suc n - 1 ≡ n = omega arith in
      let l : 1 + n ≡ suc n = omega arith in
      rw (laters (suc n), e, d, l, le-leb 1 (suc n) (omega arith)) refl

  -- by what a kind says of its fields
  by_kind : (t u v : Bool) (n : ℕ)
      → sum_of n (λ i. cond (cond t (eqb (i % 2) 0) (cond u true (cond v (leb 1 i) false))) (at i) 0)
      ≡ sum_of (cond t ((n + 1) / 2) (cond u n (cond v (n - 1) 0))) (λ j. at (cond t (2 * j) (cond u j (1 + j))))
  unfolding sum_of
  by_kind true u v n = others n
  by_kind false true v n = refl
  by_kind false false true n = laters n
  by_kind false false false n = sum_zero n (λ i. 0) (λ i h. refl)

pub over_children : (rec : List ℕ) (at : ℕ → ℕ) → over_nodes rec at (field_count rec) ≡ sum_of (children rec) (λ j. at (child rec j))
unfolding names_node children child_count child child_field
over_children rec at =
    let k = kind_of rec in
    by_kind (λ i. at (field rec i)) (every_other k) (from_first k) (from_second k) (field_count rec)

-- a child stands in a field that names a node
abbrev pub Named : List ℕ → ℕ → Type 0
Named rec n = SomeBelow (field_count rec) (λ i. (names_node (kind_of rec) i ≡ true) × (n ≡ field rec i))

named_by : (t u v : Bool) (n j : ℕ) → j < cond t ((n + 1) / 2) (cond u n (cond v (n - 1) 0))
    → (cond t (2 * j) (cond u j (1 + j)) < n)
    × (cond t (eqb (cond t (2 * j) (cond u j (1 + j)) % 2) 0) (cond u true (cond v (leb 1 (cond t (2 * j) (cond u j (1 + j)))) false)) ≡ true)
named_by true u v n j h = (omega (arith, h), eq-eqb (2 * j % 2) 0 (omega arith))
named_by false true v n j h = (h, refl)
named_by false false true n j h = (omega (arith, h), le-leb 1 (1 + j) (omega arith))
named_by false false false n j h = absurd (omega (arith, h))

pub child_named : (rec : List ℕ) (j : ℕ) → j < children rec → Named rec (child rec j)
unfolding names_node children child_count child child_field
child_named rec j h =
    let k = kind_of rec in
    let p = named_by (every_other k) (from_first k) (from_second k) (field_count rec) j h in
    record { at = child_field k j; below = p.0; holds = (p.1, refl) }
