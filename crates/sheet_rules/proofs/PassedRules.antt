-- What the nodes of a sheet keep whose names, or whose trees, are accepted.
use mathlib.Core.Path.{◌≡◌}
use Prim.Native.Nat.{ℕ, ◌+◌, ◌<◌}
use mathlib.Core.List.{List}
use mathlib.Core.Bool.{true, false, cond, ◌&&◌, and-eq-true_iff}
use native.Mathlib.Omega.{arith}
use lib.Dec.{ltb, eqb}
use borrow.Author.Tests.{ltb-true, eqb-true}
use Rattle.definitions.specs.Numbers.{bad_tree, out_of_range}
use Rattle.definitions.specs.SheetKinds
use Rattle.definitions.specs.Records.{kind_of, field}
use Rattle.definitions.specs.Lists.{all_of}
use Rattle.definitions.specs.Verdicts.{◌and_then◌, first_of}
use Rattle.definitions.specs.Layouts.{items, functions, nodes, first_node, due, node_record}
use Rattle.definitions.specs.References.{children, child, clauses, clause_constructor, names_in_range, in_range, references}
use Rattle.definitions.specs.SheetRules.{arguments, times_child, is_body, children_right, tree_right, tree}
use Rattle.definitions.specs.Verdict.{Accepted}
use Rattle.laws.proofs.Lists.{all_each}
use Rattle.laws.proofs.Verdicts.{both_accepted, first_each, required}
use Rattle.accepted.proofs.Children.{ChildOf}

module _ (b : List ℕ) (accepted : first_of (nodes b) (tree b) ≡ Accepted) where
  two_rules : (k : ℕ) → k < nodes b → (children_right b k && cond (is_body b k) true (eqb (times_child b k) 1)) ≡ true
  unfolding tree tree_right
  two_rules k h =
      let right = required (tree_right b k) bad_tree (first_node b + k) (first_each (nodes b) (tree b) accepted k h) in
      ((and-eq-true_iff (children_right b k && cond (is_body b k) true (eqb (times_child b k) 1)) _).0 right).0

  -- a node that is no body is a child once
  pub once_child : (k : ℕ) → k < nodes b → is_body b k ≡ false → times_child b k ≡ 1
  once_child k h e =
      let q : cond (is_body b k) true (eqb (times_child b k) 1) ≡ true =
      ((and-eq-true_iff (children_right b k) (cond (is_body b k) true (eqb (times_child b k) 1))).0 (two_rules k h)).1 in
      eqb-true (times_child b k) 1 (rw e at q)

  -- a child is smaller than its parent
  pub child_smaller : (k n : ℕ) → k < nodes b → ChildOf (node_record b k) n → n < k
  unfolding children_right
  child_smaller k n h c =
      let rec = node_record b k in
      let right = ((and-eq-true_iff (children_right b k) (cond (is_body b k) true (eqb (times_child b k) 1))).0 (two_rules k h)).0 in
      let t = all_each (children rec) _ right c.place c.there.below in
      omega (arith, ltb-true (child rec c.place) k ((and-eq-true_iff _ _).0 t).0, c.there.is)

module _ (b : List ℕ) (named : first_of (due b) (λ r. references b r and_then arguments b r) ≡ Accepted) where
  names_right : (k : ℕ) → k < nodes b → names_in_range b (first_node b + k) (node_record b k) ≡ true
  unfolding references in_range
  names_right k h =
      let r = first_node b + k in
      let rec = node_record b k in
      let v = (both_accepted (references b r) (arguments b r) (first_each (due b) (λ i. references b i and_then arguments b i) named r (omega arith))).0 in
      ((and-eq-true_iff (all_of (children rec) (λ j. ltb (child rec j) (nodes b))) (names_in_range b r rec)).0 (required _ out_of_range r v)).1

  module _ (k : ℕ) (h : k < nodes b) where
    -- a call names a function, a build and each clause of a case a constructor
    pub callee_below : kind_of (node_record b k) ≡ SheetKinds.call → field (node_record b k) 0 < functions b
    unfolding names_in_range
    callee_below e = ltb-true _ _ (rw e at (names_right k h))

    pub constructor_below : kind_of (node_record b k) ≡ SheetKinds.build → field (node_record b k) 0 < items b
    unfolding names_in_range
    constructor_below e = ltb-true _ _ (rw e at (names_right k h))

    pub clause_constructor_below : kind_of (node_record b k) ≡ SheetKinds.case_of → (j : ℕ) → j < clauses (node_record b k)
        → clause_constructor (node_record b k) j < items b
    unfolding names_in_range
    clause_constructor_below e j l =
        ltb-true _ _ (all_each (clauses (node_record b k)) (λ i. ltb (clause_constructor (node_record b k) i) (items b)) (rw e at (names_right k h)) j l)
