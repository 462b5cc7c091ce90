-- The children of a node, by its record and by the node that the record is: the two agree.
use mathlib.Core.Path.{◌≡◌, refl, ap, ◌∙◌}
use Prim.Native.Nat.{ℕ, suc, ◌+◌, ◌*◌, ◌-◌, ◌<◌}
use mathlib.Core.List.{List}
use mathlib.Core.Option.{some}
use native.Mathlib.Omega.{arith}
use lib.ListN.{get_elem?}
use Rattle.definitions.specs.SheetKinds
use Rattle.definitions.specs.Records.{kind_of, field, field_count}
use Rattle.definitions.specs.References.{from_first, from_second, every_other, child_count, child_field, children, child, clauses, clause_constructor}
use Rattle.definitions.specs.NodeFields.{Clause, fields_from, clause_list}
use Rattle.definitions.specs.SheetNodes.{SheetNode}
use Rattle.accepted.specs.Child.{Child, left, right, condition, if_nonzero, if_zero, argument, component, scrutinee, clause}
use Rattle.accepted.proofs.Elements.{Listed, listed_element, listed_found}
use Rattle.accepted.proofs.SheetRecords.{SheetRecord, is_operator, is_conditional, is_call, is_build, is_case_law, is_number, is_reading, is_parameter, is_pattern_variable}

-- how many there are, and which field holds each, by kind
module _ (rec : List ℕ) where
  pub operator_children : kind_of rec ≡ SheetKinds.operator → field_count rec ≡ 3 → children rec ≡ 2
  unfolding children child_count every_other from_first from_second
  operator_children e c = rw (e, c) refl

  pub operator_child : kind_of rec ≡ SheetKinds.operator → (j : ℕ) → child rec j ≡ field rec (1 + j)
  unfolding child child_field every_other from_first
  operator_child e j = rw e refl

  pub conditional_children : kind_of rec ≡ SheetKinds.conditional → field_count rec ≡ 3 → children rec ≡ 3
  unfolding children child_count every_other from_first from_second
  conditional_children e c = rw (e, c) refl

  pub conditional_child : kind_of rec ≡ SheetKinds.conditional → (j : ℕ) → child rec j ≡ field rec j
  unfolding child child_field every_other from_first
  conditional_child e j = rw e refl

  pub call_children : kind_of rec ≡ SheetKinds.call → children rec ≡ field_count rec - 1
  unfolding children child_count every_other from_first from_second
  call_children e = rw e refl

  pub call_child : kind_of rec ≡ SheetKinds.call → (j : ℕ) → child rec j ≡ field rec (1 + j)
  unfolding child child_field every_other from_first
  call_child e j = rw e refl

  pub build_children : kind_of rec ≡ SheetKinds.build → children rec ≡ field_count rec - 1
  unfolding children child_count every_other from_first from_second
  build_children e = rw e refl

  pub build_child : kind_of rec ≡ SheetKinds.build → (j : ℕ) → child rec j ≡ field rec (1 + j)
  unfolding child child_field every_other from_first
  build_child e j = rw e refl

  pub case_children : kind_of rec ≡ SheetKinds.case_of → field_count rec ≡ 1 + 2 * clauses rec → children rec ≡ suc (clauses rec)
  unfolding children child_count every_other from_first from_second
  case_children e c = rw (e, c) (omega arith)

  pub case_child : kind_of rec ≡ SheetKinds.case_of → (j : ℕ) → child rec j ≡ field rec (2 * j)
  unfolding child child_field every_other from_first
  case_child e j = rw e refl

-- a clause of a case's record
pub clause_element : (rec : List ℕ) (j : ℕ) → j < clauses rec
    → get_elem? (clause_list rec) j ≡ some (record { constructor = clause_constructor rec j; node = field rec (2 + 2 * j) })
unfolding clause_list
clause_element rec j h =
    listed_element (clauses rec) (λ i. record { constructor = clause_constructor rec i; node = field rec (2 + 2 * i) }) j h

pub record ClauseAt (rec : List ℕ) (j : ℕ) (c : Clause) : Type 0 where
  pub below : j < clauses rec
  pub names : clause_constructor rec j ≡ c.constructor
  pub leads : field rec (2 + 2 * j) ≡ c.node

pub clause_found : (rec : List ℕ) (j : ℕ) {c : Clause} → get_elem? (clause_list rec) j ≡ some c → ClauseAt rec j c
unfolding clause_list
clause_found rec j e =
    let f = listed_found (clauses rec) (λ i. record { constructor = clause_constructor rec i; node = field rec (2 + 2 * i) }) j e in
    record { below = f.below; names = ap (λ (c : Clause). c.constructor) f.is; leads = ap (λ (c : Clause). c.node) f.is }

pub argument_found : (rec : List ℕ) (i : ℕ) {n : ℕ} → get_elem? (fields_from rec 1) i ≡ some n
    → Listed (field_count rec - 1) (λ j. field rec (1 + j)) i n
unfolding fields_from
argument_found rec i e = listed_found (field_count rec - 1) (λ j. field rec (1 + j)) i e

-- child j of a record
pub record ChildAt (rec : List ℕ) (n j : ℕ) : Type 0 where
  pub below : j < children rec
  pub is : child rec j ≡ n

pub record ChildOf (rec : List ℕ) (n : ℕ) : Type 0 where
  pub place : ℕ
  pub there : ChildAt rec n place

module _ (rec : List ℕ) where
  pub clause_field : (j : ℕ) → field rec (2 * suc j) ≡ field rec (2 + 2 * j)
  clause_field j = let e : 2 * suc j ≡ 2 + 2 * j = omega arith in rw e refl

  -- a child, by its place among the record's
  pub child_of : (n j m : ℕ) → children rec ≡ m → j < m → child rec j ≡ n → ChildOf rec n
  child_of n j m c h e = record { place = j; there = record { below = rw c h; is = e } }

  -- a child of the node is a child of the record
  pub child_place : {nd : SheetNode} {n : ℕ} → SheetRecord rec nd → Child nd n → ChildOf rec n
  child_place (is_operator e c) left = child_of (field rec 1) 0 2 (operator_children rec e c) (omega arith) (operator_child rec e 0)
  child_place (is_operator e c) right = child_of (field rec 2) 1 2 (operator_children rec e c) (omega arith) (operator_child rec e 1)
  child_place (is_conditional e c) condition = child_of (field rec 0) 0 3 (conditional_children rec e c) (omega arith) (conditional_child rec e 0)
  child_place (is_conditional e c) if_nonzero = child_of (field rec 1) 1 3 (conditional_children rec e c) (omega arith) (conditional_child rec e 1)
  child_place (is_conditional e c) if_zero = child_of (field rec 2) 2 3 (conditional_children rec e c) (omega arith) (conditional_child rec e 2)
  child_place (is_call e l g) (argument i p) =
      let q = argument_found rec i p in
      child_of _ i (field_count rec - 1) (call_children rec e) q.below (call_child rec e i ∙ q.is)
  child_place (is_build e l g) (component i p) =
      let q = argument_found rec i p in
      child_of _ i (field_count rec - 1) (build_children rec e) q.below (build_child rec e i ∙ q.is)
  child_place (is_case_law e c l g) scrutinee =
      child_of (field rec 0) 0 (suc (clauses rec)) (case_children rec e c) (omega arith) (case_child rec e 0)
  child_place (is_case_law e c l g) (clause j p q) =
      let s = clause_found rec j p in
      child_of _ (suc j) (suc (clauses rec)) (case_children rec e c) (omega (arith, s.below))
      (case_child rec e (suc j) ∙ clause_field j ∙ s.leads ∙ q)
  child_place {n = n} (is_number _ _) x7 = elim x7 [ ]
  child_place {n = n} (is_reading _ _) x8 = elim x8 [ ]
  child_place {n = n} (is_parameter _ _) x9 = elim x9 [ ]
  child_place {n = n} (is_pattern_variable _ _) x10 = elim x10 [ ]
