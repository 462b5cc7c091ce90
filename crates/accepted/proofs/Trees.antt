-- The trees of a sheet whose trees pass: a child is smaller than its parent and in the same function, and a case is a body.
use mathlib.Core.Path.{◌≡◌}
use Prim.Native.Nat.{ℕ, ◌<◌}
use mathlib.Core.List.{List}
use mathlib.Core.Bool.{true, cond, ◌&&◌, and-eq-true_iff}
use native.Mathlib.Omega.{arith}
use lib.Dec.{ltb, eqb}
use borrow.Author.Tests.{ltb-true, eqb-true}
use Rattle.definitions.specs.Records.{kind_of}
use Rattle.definitions.specs.SheetKinds
use Rattle.definitions.specs.Layouts.{nodes, node_record, body_of, owner_of}
use Rattle.definitions.specs.References.{children, child}
use Rattle.definitions.specs.NodeFields.{Clause}
use Rattle.definitions.specs.SheetNodes.{SheetNode, case_of, sheet_node_of}
use Rattle.definitions.specs.SheetRules.{times_child, is_body, children_right, clauses_rise, tree_right}
use Rattle.definitions.specs.declared.Layout.TheVariants.{Sheet}
use Rattle.laws.proofs.Lists.{all_each}
use Rattle.accepted.specs.Child.{Child}
use Rattle.accepted.proofs.Owners.{body_last}
use Rattle.accepted.proofs.SheetRecords.{SheetRecord, is_case_law, node_is}
use Rattle.accepted.proofs.Children.{ChildOf, child_place}
use Rattle.accepted.proofs.Checks.{TreesPass}

-- the three parts of the check of a node
pub record TreeRight (b : List ℕ) (k : ℕ) : Type 0 where
  pub below : children_right b k ≡ true
  pub once : cond (is_body b k) true (eqb (times_child b k) 1) ≡ true
  pub cases : cond (eqb (kind_of (node_record b k)) SheetKinds.case_of) (is_body b k && clauses_rise (node_record b k)) true ≡ true

pub tree_parts : (b : List ℕ) (k : ℕ) → tree_right b k ≡ true → TreeRight b k
unfolding tree_right
tree_parts b k e =
    let p = (and-eq-true_iff _ _).0 e in
    let q = (and-eq-true_iff _ _).0 p.0 in
    record { below = q.0; once = q.1; cases = p.1 }

case_parts : (b rec : List ℕ) (k : ℕ) {n : ℕ} {cs : List Clause} → SheetRecord rec (case_of n cs)
    → cond (eqb (kind_of rec) SheetKinds.case_of) (is_body b k && clauses_rise rec) true ≡ true
    → (is_body b k ≡ true) × (clauses_rise rec ≡ true)
case_parts b rec k (is_case_law e c l g) h = (and-eq-true_iff (is_body b k) (clauses_rise rec)).0 (rw e at h)

-- node n is before node k, and in the same function
pub record InRun (b : List ℕ) (k n : ℕ) : Type 0 where
  pub smaller : n < k
  pub owner : owner_of Sheet b n ≡ owner_of Sheet b k

module _ (b : List ℕ) (passed : TreesPass b) where
  -- a child of a record is
  pub record_child : (k n : ℕ) → k < nodes b → ChildOf (node_record b k) n → InRun b k n
  unfolding children_right
  record_child k n h c =
      let rec = node_record b k in
      let m = child rec c.place in
      let t = all_each (children rec) (λ j. ltb (child rec j) k && eqb (owner_of Sheet b (child rec j)) (owner_of Sheet b k))
      (tree_parts b k (passed.right k h)).below c.place c.there.below in
      let p = (and-eq-true_iff _ _).0 t in
      let s : m < k = ltb-true m k p.0 in
      let o : owner_of Sheet b m ≡ owner_of Sheet b k = eqb-true (owner_of Sheet b m) (owner_of Sheet b k) p.1 in
      let e : m ≡ n = c.there.is in
      record { smaller = rw e at s; owner = rw e at o }

  module _ (k : ℕ) (h : k < nodes b) {nd : SheetNode} {n : ℕ} (e : sheet_node_of b k ≡ nd) (c : Child nd n) where
    pub child_of_record : ChildOf (node_record b k) n
    child_of_record = child_place (node_record b k) (node_is b passed.shape k h e) c

    -- a child is smaller than its parent
    pub child_smaller : n < k
    child_smaller = (record_child k n h child_of_record).smaller

    pub child_below : n < nodes b
    child_below = omega (arith, child_smaller)

    -- it is in the same function
    pub child_owner : owner_of Sheet b n ≡ owner_of Sheet b k
    child_owner = (record_child k n h child_of_record).owner

  -- a child is no body: the body of its function is its parent or above
  pub record_child_no_body : (k n : ℕ) → k < nodes b → ChildOf (node_record b k) n → n ≡ body_of Sheet b (owner_of Sheet b n) → ⊥
  record_child_no_body k n h c p =
      let r = record_child k n h c in
      let q : n ≡ body_of Sheet b (owner_of Sheet b k) = rw r.owner at p in
      omega (arith, q, r.smaller, body_last Sheet b passed.shape k h)

  pub child_no_body : (k : ℕ) → k < nodes b → {nd : SheetNode} {n : ℕ} → sheet_node_of b k ≡ nd → Child nd n
      → n ≡ body_of Sheet b (owner_of Sheet b n) → ⊥
  child_no_body k h e c = record_child_no_body k _ h (child_of_record k h e c)

  -- a case is the body of its function
  pub case_body : (k : ℕ) → k < nodes b → {n : ℕ} {cs : List Clause} → sheet_node_of b k ≡ case_of n cs
      → k ≡ body_of Sheet b (owner_of Sheet b k)
  unfolding is_body
  case_body k h e =
      eqb-true k (body_of Sheet b (owner_of Sheet b k))
      (case_parts b (node_record b k) k (node_is b passed.shape k h e) (tree_parts b k (passed.right k h)).cases).0

  -- its clauses pass the check of their order
  pub case_rises : (k : ℕ) → k < nodes b → {n : ℕ} {cs : List Clause} → sheet_node_of b k ≡ case_of n cs → clauses_rise (node_record b k) ≡ true
  case_rises k h e =
      (case_parts b (node_record b k) k (node_is b passed.shape k h e) (tree_parts b k (passed.right k h)).cases).1
