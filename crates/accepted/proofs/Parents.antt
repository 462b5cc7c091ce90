-- The parents of nodes, where a sheet's trees pass: each node but a body is a child of one node, and stands there once.
use mathlib.Core.Path.{◌≡◌, refl}
use Prim.Native.Nat.{ℕ, ◌≤◌, ◌<◌}
use mathlib.Core.List.{List}
use mathlib.Core.Bool.{Bool, true, false, cond, not}
use native.Mathlib.Omega.{arith}
use native.Mathlib.Decide.{ℕ_discrete, dec_lt}
use lib.Dec.{eqb}
use borrow.Author.Tests.{eqb-true, eqb-false, eq-eqb, ne_eqb, not-true}
use Rattle.definitions.specs.Lists.{count_of, last_of}
use Rattle.definitions.specs.Layouts.{nodes, node_record, body_of, owner_of}
use Rattle.definitions.specs.References.{children, child}
use Rattle.definitions.specs.SheetNodes.{SheetNode, sheet_node_of}
use Rattle.definitions.specs.SheetRules.{times_child, is_body, parent_of}
use Rattle.definitions.specs.declared.Layout.TheVariants.{Sheet}
use Rattle.accepted.specs.Child.{Child}
use Rattle.accepted.proofs.Sums.{SomeBelow, sum_term, sum_two, sum_found}
use Rattle.accepted.proofs.Counts.{count_term, count_once, count_found, last_found}
use Rattle.accepted.proofs.Children.{ChildAt, ChildOf}
use Rattle.accepted.proofs.Checks.{TreesPass}
use Rattle.accepted.proofs.Trees.{tree_parts, child_of_record, record_child, record_child_no_body}

-- how often node k is a child of a record
abbrev pub times : List ℕ → ℕ → ℕ
times rec k = count_of (children rec) (λ j. eqb (child rec j) k)

times_counted : (rec : List ℕ) (k : ℕ) → ChildOf rec k → 0 < times rec k
times_counted rec k c =
    let place = c.place in
    let there = c.there in
    let p = count_term (place) (children rec) (λ j. eqb (child rec j) k) there.below (eq-eqb (child rec (place)) k there.is) in
    omega (arith, p)

pub times_found : (rec : List ℕ) (k : ℕ) → 0 < times rec k → ChildOf rec k
times_found rec k h =
    let f = count_found (children rec) (λ j. eqb (child rec j) k) h in
    record { place = f.at; there = record { below = f.below; is = eqb-true (child rec f.at) k f.holds } }

some_times : (n : ℕ) → not (eqb n 0) ≡ true → 0 < n
some_times n e = let p = eqb-false n 0 (not-true (eqb n 0) e) in omega arith

times_test : (n : ℕ) → 0 < n → not (eqb n 0) ≡ true
times_test n h = rw (ne_eqb n 0 (λ p. omega arith)) refl

module _ (b : List ℕ) (passed : TreesPass b) where
  -- a node that is no body is a child once
  once_by : (t : Bool) (k : ℕ) → is_body b k ≡ t → cond t true (eqb (times_child b k) 1) ≡ true
      → (k ≡ body_of Sheet b (owner_of Sheet b k) → ⊥) → times_child b k ≡ 1
  unfolding is_body
  once_by true k e f n = absurd (n (eqb-true k (body_of Sheet b (owner_of Sheet b k)) e))
  once_by false k e f n = eqb-true (times_child b k) 1 f

  pub child_once : (k : ℕ) → k < nodes b → (k ≡ body_of Sheet b (owner_of Sheet b k) → ⊥) → times_child b k ≡ 1
  child_once k h n = once_by (is_body b k) k refl (tree_parts b k (passed.right k h)).once n

  module _ (k : ℕ) (h : k < nodes b) (n : k ≡ body_of Sheet b (owner_of Sheet b k) → ⊥) where
    record_parent : SomeBelow (nodes b) (λ p. ChildOf (node_record b p) k)
    unfolding times_child
    record_parent =
        let e = child_once k h n in
        let f = sum_found (nodes b) (λ p. times (node_record b p) k) (omega (arith, e)) in
        record { at = f.at; below = f.below; holds = times_found (node_record b f.at) k f.holds }

    parents_agree : (p q : ℕ) → p < q → q < nodes b → ChildOf (node_record b p) k → ChildOf (node_record b q) k → ⊥
    unfolding times_child
    parents_agree p q l g c d =
        let e = child_once k h n in
        let s = sum_two p q (nodes b) (λ i. times (node_record b i) k) l g in
        omega (arith, e, s, times_counted (node_record b p) k c, times_counted (node_record b q) k d)

  -- two parents of a node are one
  pub record_parents : (p q k : ℕ) → p < nodes b → q < nodes b → ChildOf (node_record b p) k → ChildOf (node_record b q) k → p ≡ q
  record_parents p q k h g c d =
      let n = record_child_no_body b passed p k h c in
      let s : k < nodes b = omega (arith, (record_child b passed p k h c).smaller) in
      elim (ℕ_discrete p q) [
        | yes e ↦ e
        | no e ↦ elim (dec_lt p q) [
          | yes l ↦ absurd (parents_agree k s n p q l g c d)
          | no l ↦ absurd (parents_agree k s n q p (omega (arith, e, l)) h d c)
        ]
      ]

  -- two places of a node in its parent are one
  pub record_places : (p k i j : ℕ) → p < nodes b → ChildAt (node_record b p) k i → ChildAt (node_record b p) k j → i ≡ j
  unfolding times_child
  record_places p k i j h c d =
      let o : ChildOf (node_record b p) k = record { place = i; there = c } in
      let n = record_child_no_body b passed p k h o in
      let s : k < nodes b = omega (arith, (record_child b passed p k h o).smaller) in
      let e = child_once k s n in
      let u : times (node_record b p) k ≤ 1 = omega (arith, e, sum_term p (nodes b) (λ m. times (node_record b m) k) h) in
      count_once i j (children (node_record b p)) (λ m. eqb (child (node_record b p) m) k) u c.below d.below
      (eq-eqb (child (node_record b p) i) k c.is) (eq-eqb (child (node_record b p) j) k d.is)

  -- the parent that the checks look for is the parent
  pub record_parent_of : (p k : ℕ) → p < nodes b → ChildOf (node_record b p) k → parent_of b k ≡ p
  unfolding parent_of
  record_parent_of p k h c =
      let f = last_found (nodes b) p (λ q. not (eqb (times (node_record b q) k) 0)) h
      (times_test (times (node_record b p) k) (times_counted (node_record b p) k c)) in
      let q = last_of (nodes b) (λ q. not (eqb (times (node_record b q) k) 0)) in
      record_parents q p k f.0 h (times_found (node_record b q) k (some_times (times (node_record b q) k) f.1)) c

  -- the parent of a node that is no body, as the checks look for it
  pub record_parent_there : (k : ℕ) → k < nodes b → (k ≡ body_of Sheet b (owner_of Sheet b k) → ⊥)
      → (parent_of b k < nodes b) × ChildOf (node_record b (parent_of b k)) k
  record_parent_there k h n =
      let f = record_parent k h n in
      let e = record_parent_of f.at k f.below f.holds in
      (rw e f.below, rw e f.holds)

  pub parent_is : (p : ℕ) → p < nodes b → {nd : SheetNode} {k : ℕ} → sheet_node_of b p ≡ nd → Child nd k → parent_of b k ≡ p
  parent_is p h e c = record_parent_of p _ h (child_of_record b passed p h e c)
