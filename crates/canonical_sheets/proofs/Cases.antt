-- The record of a case: how many fields it has, and which of them name nodes.
use mathlib.Core.Path.{◌≡◌, refl}
use Prim.Native.Nat.{ℕ, ◌+◌, ◌*◌, ◌-◌, ◌/◌, ◌%◌, ◌<◌}
use mathlib.Core.List.{List}
use mathlib.Core.Bool.{true}
use native.Mathlib.Omega.{arith}
use native.Mathlib.Decide.{ℕ_discrete}
use lib.Dec.{eqb}
use borrow.Author.Tests.{eqb-true}
use Rattle.definitions.specs.Records.{kind_of, field, field_count}
use Rattle.definitions.specs.SheetKinds
use Rattle.definitions.specs.Layouts.{node_record}
use Rattle.definitions.specs.References.{every_other, clauses}
use Rattle.definitions.specs.NodeFields.{Clause, clause_list}
use Rattle.definitions.specs.SheetNodes.{SheetNode, case_of, sheet_node, sheet_node_of}
use Rattle.definitions.specs.Trees.{names_node}
use Rattle.accepted.proofs.SheetRecords.{SheetRecord, is_case_law}

-- a record that is a case
pub record CaseIs (rec : List ℕ) (nd : SheetNode) : Type 0 where
  pub count : field_count rec ≡ 1 + 2 * clauses rec
  pub is : nd ≡ case_of (field rec 0) (clause_list rec)

case_count : {rec : List ℕ} {n : ℕ} {cs : List Clause} → SheetRecord rec (case_of n cs) → field_count rec ≡ 1 + 2 * clauses rec
case_count (is_case_law e m l g) = m

case_node : (rec : List ℕ) → kind_of rec ≡ SheetKinds.case_of → sheet_node rec ≡ case_of (field rec 0) (clause_list rec)
unfolding sheet_node
case_node rec e = rw e refl

pub case_is : (b : List ℕ) (k : ℕ) → SheetRecord (node_record b k) (sheet_node_of b k) → kind_of (node_record b k) ≡ SheetKinds.case_of
    → CaseIs (node_record b k) (sheet_node_of b k)
unfolding sheet_node_of
case_is b k r e =
    let is = case_node (node_record b k) e in
    record { count = case_count (rw is at r); is = is }

pub names_scrutinee : {k : ℕ} → k ≡ SheetKinds.case_of → names_node k 0 ≡ true
unfolding names_node every_other
names_scrutinee e = rw e refl

-- a field of a case that names a node: its scrutinee, or the node of clause j
pub data CaseField (rec : List ℕ) (i : ℕ) : Type 0 where
  of_scrutinee : i ≡ 0 → CaseField rec i
  of_clause : (j : ℕ) → j < clauses rec → 2 + 2 * j ≡ i → CaseField rec i

pub case_field : (rec : List ℕ) (i : ℕ) → kind_of rec ≡ SheetKinds.case_of → field_count rec ≡ 1 + 2 * clauses rec → i < field_count rec
    → names_node (kind_of rec) i ≡ true
    → CaseField rec i
unfolding names_node every_other
case_field rec i e m l n =
    let t : eqb (i % 2) 0 ≡ true = rw e at n in
    let even = eqb-true (i % 2) 0 t in
    elim (ℕ_discrete i 0) [
      | yes z ↦ of_scrutinee z
      | no z ↦
          let w : 2 + 2 * (i / 2 - 1) ≡ i = omega (arith, z, even) in
          of_clause (i / 2 - 1) (omega (arith, w, l, m)) w
    ]
