-- The types of a sheet's nodes, where a child is smaller than its parent: the type of a node by those of all nodes, and type functions that
-- agree on a node's children.
use mathlib.Core.Path.{◌≡◌, refl, ap}
use Prim.Native.Nat.{ℕ, zero, suc, ◌+◌, ◌-◌, ◌<◌}
use mathlib.Core.List.{List}
use native.Mathlib.Omega.{arith}
use native.Mathlib.Nat.{not-suc-le-zero}
use lib.Dec.{eqb}
use Rattle.definitions.specs.Records.{field, field_count}
use Rattle.definitions.specs.Layouts.{nodes, node_record}
use Rattle.definitions.specs.SheetNodes.{SheetNode}
use Rattle.definitions.specs.Shape.{file_shape}
use Rattle.definitions.specs.Types.{field_type, parameter_type, type_by, type_within, type_of, arguments_typed, children_typed}
use Rattle.definitions.specs.declared.Layout.TheVariants.{Sheet}
use Rattle.definitions.specs.Verdict.{Accepted}
use Rattle.laws.proofs.Lists.{all_same}
use Rattle.accepted.specs.Child.{left, right, condition, if_nonzero, if_zero, scrutinee}
use Rattle.accepted.proofs.SheetRecords.{SheetRecord, is_number, is_reading, is_parameter, is_pattern_variable, is_operator, is_conditional, is_call, is_build, is_case_law, node_record_law}
use Rattle.accepted.proofs.Children.{ChildOf, child_of, child_place, call_children, call_child, build_children, build_child}

-- two type functions that agree on the children of a record
module _ (b rec : List ℕ) (of to : ℕ → ℕ) (same : (n : ℕ) → ChildOf rec n → of n ≡ to n) where
  pub same_type_by : (k : ℕ) {nd : SheetNode} → SheetRecord rec nd → type_by b of k rec ≡ type_by b to k rec
  unfolding type_by
  same_type_by k (is_number e c) = rw e refl
  same_type_by k (is_reading e c) = rw e refl
  same_type_by k (is_parameter e c) = rw e refl
  same_type_by k (is_pattern_variable e c) = rw e refl
  same_type_by k (is_operator e c) = rw e refl
  same_type_by k (is_conditional e c) = rw e (same (field rec 1) (child_place rec (is_conditional e c) if_nonzero))
  same_type_by k (is_call e l g) = rw e refl
  same_type_by k (is_build e l g) = rw e refl
  same_type_by k (is_case_law e c l g) = rw e refl

  same_arguments : (given : ℕ → ℕ) → ((i : ℕ) → i < field_count rec - 1 → ChildOf rec (field rec (1 + i)))
      → arguments_typed of given rec ≡ arguments_typed to given rec
  unfolding arguments_typed
  same_arguments given c =
      all_same (field_count rec - 1) (λ i. eqb (of (field rec (1 + i))) (given i)) (λ i. eqb (to (field rec (1 + i))) (given i))
      (λ i h. ap (λ n. eqb n (given i)) (same (field rec (1 + i)) (c i h)))

  pub same_children : {nd : SheetNode} → SheetRecord rec nd → children_typed b of rec ≡ children_typed b to rec
  unfolding children_typed
  same_children (is_number e c) = rw e refl
  same_children (is_reading e c) = rw e refl
  same_children (is_parameter e c) = rw e refl
  same_children (is_pattern_variable e c) = rw e refl
  same_children (is_operator e c) =
      let r = is_operator e c in
      rw (e, same (field rec 1) (child_place rec r left), same (field rec 2) (child_place rec r right)) refl
  same_children (is_conditional e c) =
      let r = is_conditional e c in
      let p = same (field rec 0) (child_place rec r condition) in
      rw (e, p, same (field rec 1) (child_place rec r if_nonzero), same (field rec 2) (child_place rec r if_zero)) refl
  same_children (is_call e l g) =
      rw e
      (same_arguments (parameter_type b (field rec 0))
      (λ i h. child_of rec (field rec (1 + i)) i (field_count rec - 1) (call_children rec e) h (call_child rec e i)))
  same_children (is_build e l g) =
      rw e
      (same_arguments (field_type b (field rec 0))
      (λ i h. child_of rec (field rec (1 + i)) i (field_count rec - 1) (build_children rec e) h (build_child rec e i)))
  same_children (is_case_law e c l g) = rw (e, same (field rec 0) (child_place rec (is_case_law e c l g) scrutinee)) refl

module _ (b : List ℕ) (shape : file_shape Sheet b ≡ Accepted) (smaller : (k n : ℕ) → k < nodes b → ChildOf (node_record b k) n → n < k) where
  -- looking further down than there are nodes below changes nothing
  same_depth : (d e k : ℕ) → k < nodes b → k < d → k < e → type_within b d k ≡ type_within b e k
  unfolding type_within
  same_depth zero e k h p q = absurd (not-suc-le-zero p)
  same_depth (suc d) zero k h p q = absurd (not-suc-le-zero q)
  same_depth (suc d) (suc e) k h p q =
      same_type_by b (node_record b k) (type_within b d) (type_within b e)
      (λ n c. let s = smaller k n h c in same_depth d e n (omega (arith, s)) (omega (arith, s)) (omega (arith, s))) k (node_record_law b shape k h)

  -- the type of a node, by those of its children
  pub type_of_node : (k : ℕ) → k < nodes b → type_of b k ≡ type_by b (type_of b) k (node_record b k)
  unfolding type_of type_within
  type_of_node k h =
      same_type_by b (node_record b k) (type_within b k) (type_of b)
      (λ n c. let s = smaller k n h c in same_depth k (suc n) n (omega (arith, s)) s (omega arith)) k (node_record_law b shape k h)
