-- The parts of an accepted sheet's nodes: the nodes that their fields name, which are smaller, and outside clauses where the node is;
-- so is the scrutinee of a pattern variable's case, and no pattern variable is there.
use mathlib.Core.Path.{◌≡◌, refl, sym, ◌∙◌}
use Prim.Native.Nat.{ℕ, zero, suc, ◌+◌, ◌*◌, ◌-◌, ◌%◌, ◌/◌, ◌<◌}
use mathlib.Core.List.{List}
use mathlib.Core.Option.{some, none-ne-some}
use mathlib.Core.Bool.{true, false, false≢true}
use native.Mathlib.Omega.{arith}
use lib.ListN.{get_elem?}
use lib.Dec.{leb, eqb}
use borrow.Author.Tests.{eqb-true}
use Rattle.definitions.specs.Records.{kind_of, field, field_count}
use Rattle.definitions.specs.Layouts.{nodes, node_record, body_of, owner_of}
use Rattle.definitions.specs.References.{every_other, from_first, from_second, clauses}
use Rattle.definitions.specs.SheetKinds
use Rattle.definitions.specs.NodeFields.{fields_from, clause_list}
use Rattle.definitions.specs.SheetNodes.{SheetNode, number, reading, parameter, pattern_variable, operator, conditional, call, build, case_of, sheet_node_of, scrutinee_of}
use Rattle.definitions.specs.Checks.{sheet_verdict}
use Rattle.definitions.specs.Trees.{names_node}
use Rattle.definitions.specs.declared.Layout.TheVariants.{Sheet}
use Rattle.definitions.specs.Verdict.{Accepted}
use Rattle.accepted.specs.Child.{Child, left, right, condition, if_nonzero, if_zero, argument, component, scrutinee, clause, is_case}
use Rattle.accepted.proofs.Elements.{listed_element}
use Rattle.accepted.proofs.SheetRecords.{SheetRecord, is_number, is_reading, is_parameter, is_pattern_variable, is_operator, is_conditional, is_call, is_build, is_case_law, node_record_law}
use Rattle.accepted.proofs.Children.{clause_element, clause_field}
use Rattle.accepted.proofs.Owners.{owner_below, body_below, owner_of_body}
use Rattle.accepted.proofs.Checks.{sheet_shape, trees_pass}
use Rattle.accepted.proofs.Trees.{child_smaller, child_below, child_owner, child_no_body, case_body}
use Rattle.accepted.proofs.Places.{same_place, scrutinee_place}
use Rattle.accepted.proofs.Patterns.{in_clause, scrutinee_is, pattern_held}
use Rattle.trees.specs.Depths.{Outside, Scrutinee}

-- a field that names a node names a child
module _ (rec : List ℕ) where
  operand_child : (i : ℕ) → i < 3 → leb 1 i ≡ true → Child (operator (field rec 0) (field rec 1) (field rec 2)) (field rec i)
  operand_child zero l t = absurd (false≢true t)
  operand_child (suc zero) l t = left
  operand_child (suc (suc zero)) l t = right
  operand_child (suc (suc (suc i))) l t = absurd (omega arith)

  branch_child : (i : ℕ) → i < 3 → Child (conditional (field rec 0) (field rec 1) (field rec 2)) (field rec i)
  branch_child zero l = condition
  branch_child (suc zero) l = if_nonzero
  branch_child (suc (suc zero)) l = if_zero
  branch_child (suc (suc (suc i))) l = absurd (omega arith)

  pub argument_element : (i : ℕ) → suc i < field_count rec → get_elem? (fields_from rec 1) i ≡ some (field rec (suc i))
  unfolding fields_from
  argument_element i l =
      let e : 1 + i ≡ suc i = omega arith in
      rw e at (listed_element (field_count rec - 1) (λ j. field rec (1 + j)) i (omega arith))

  argument_child : (f i : ℕ) → i < field_count rec → leb 1 i ≡ true → Child (call f (fields_from rec 1)) (field rec i)
  argument_child f zero l t = absurd (false≢true t)
  argument_child f (suc i) l t = argument i (argument_element i l)

  component_child : (c i : ℕ) → i < field_count rec → leb 1 i ≡ true → Child (build c (fields_from rec 1)) (field rec i)
  component_child c zero l t = absurd (false≢true t)
  component_child c (suc i) l t = component i (argument_element i l)

  clause_child : (j : ℕ) → j < suc (clauses rec) → Child (case_of (field rec 0) (clause_list rec)) (field rec (2 * j))
  clause_child zero l = scrutinee
  clause_child (suc j) l = clause j (clause_element rec j (omega arith)) (sym (clause_field rec j))

  pub field_child : {nd : SheetNode} → SheetRecord rec nd → (i : ℕ) → i < field_count rec → names_node (kind_of rec) i ≡ true → Child nd (field rec i)
  unfolding names_node every_other from_first from_second
  field_child (is_number e c) i l t = absurd (false≢true (rw e at t))
  field_child (is_reading e c) i l t = absurd (false≢true (rw e at t))
  field_child (is_parameter e c) i l t = absurd (false≢true (rw e at t))
  field_child (is_pattern_variable e c) i l t = absurd (false≢true (rw e at t))
  field_child (is_operator e c) i l t = operand_child i (rw c at l) (rw e at t)
  field_child (is_conditional e c) i l t = branch_child i (rw c at l)
  field_child (is_call e p g) i l t = argument_child (field rec 0) i l (rw e at t)
  field_child (is_build e p g) i l t = component_child (field rec 0) i l (rw e at t)
  field_child (is_case_law e c p g) i l t =
      let u : eqb (i % 2) 0 ≡ true = rw e at t in
      let v : i % 2 ≡ 0 = eqb-true (i % 2) 0 u in
      let w : 2 * (i / 2) ≡ i = omega (arith, v) in
      rw w at (clause_child (i / 2) (omega (arith, c, l, w)))

  pattern_is : {nd : SheetNode} → SheetRecord rec nd → kind_of rec ≡ SheetKinds.pattern_variable → nd ≡ pattern_variable (field rec 0)
  pattern_is (is_pattern_variable e c) t = refl
  pattern_is (is_number e c) t = absurd (omega (arith, e, t))
  pattern_is (is_reading e c) t = absurd (omega (arith, e, t))
  pattern_is (is_parameter e c) t = absurd (omega (arith, e, t))
  pattern_is (is_operator e c) t = absurd (omega (arith, e, t))
  pattern_is (is_conditional e c) t = absurd (omega (arith, e, t))
  pattern_is (is_call e p g) t = absurd (omega (arith, e, t))
  pattern_is (is_build e p g) t = absurd (omega (arith, e, t))
  pattern_is (is_case_law e c p g) t = absurd (omega (arith, e, t))

module _ (b : List ℕ) (accepted : sheet_verdict b ≡ Accepted) where
  -- the scrutinee of a pattern variable's case
  pub scrutinee_of_law : (k : ℕ) → k < nodes b → {i : ℕ} → sheet_node_of b k ≡ pattern_variable i → Scrutinee b k (scrutinee_of b k)
  scrutinee_of_law k h e =
      let s = sheet_shape b accepted in
      let p = pattern_held b accepted k h e in
      let c = in_clause b accepted (nodes b) k p.constructor h p.within in
      let o = owner_below Sheet b s k h in
      let m = body_of Sheet b (owner_of Sheet b k) in
      let g = body_below Sheet b s (owner_of Sheet b k) o in
      rw (scrutinee_is b accepted k h c.body)
      (record {
        outside = record {
          below = child_below b (trees_pass b accepted) m g c.body scrutinee;
          place = scrutinee_place b (trees_pass b accepted) m g c.body;
          no_body = child_no_body b (trees_pass b accepted) m g c.body scrutinee;
        };
        owner = child_owner b (trees_pass b accepted) m g c.body scrutinee ∙ owner_of_body Sheet b s (owner_of Sheet b k) o;
      })

  -- a node that is no body is no case
  no_case : (k : ℕ) → k < nodes b → (k ≡ body_of Sheet b (owner_of Sheet b k) → ⊥) → (nd : SheetNode) → sheet_node_of b k ≡ nd → is_case nd ≡ false
  no_case k h g (number z) e = refl
  no_case k h g (reading i) e = refl
  no_case k h g (parameter i) e = refl
  no_case k h g (pattern_variable i) e = refl
  no_case k h g (operator o l r) e = refl
  no_case k h g (conditional n p q) e = refl
  no_case k h g (call f ns) e = refl
  no_case k h g (build c ns) e = refl
  no_case k h g (case_of n cs) e = absurd (g (case_body b (trees_pass b accepted) k h e))

  pub record_of : (k : ℕ) → k < nodes b → SheetRecord (node_record b k) (sheet_node_of b k)
  record_of k h = node_record_law b (sheet_shape b accepted) k h

  pub part_child : (k : ℕ) → k < nodes b → (i : ℕ) → i < field_count (node_record b k) → names_node (kind_of (node_record b k)) i ≡ true
      → Child (sheet_node_of b k) (field (node_record b k) i)
  part_child k h i l t = field_child (node_record b k) (record_of k h) i l t

  pub pattern_of : (k : ℕ) → k < nodes b → kind_of (node_record b k) ≡ SheetKinds.pattern_variable → sheet_node_of b k ≡ pattern_variable (field (node_record b k) 0)
  pattern_of k h t = pattern_is (node_record b k) (record_of k h) t

  pub scrutinee_outside : (k : ℕ) → k < nodes b → kind_of (node_record b k) ≡ SheetKinds.pattern_variable → Outside b (scrutinee_of b k)
  scrutinee_outside k h t = (scrutinee_of_law k h (pattern_of k h t)).outside

  -- a part is smaller than its node
  module _ (k : ℕ) (h : k < nodes b) (i : ℕ) (l : i < field_count (node_record b k)) (t : names_node (kind_of (node_record b k)) i ≡ true) where
    pub part_smaller : field (node_record b k) i < k
    part_smaller = child_smaller b (trees_pass b accepted) k h refl (part_child k h i l t)

    pub part_below : field (node_record b k) i < nodes b
    part_below = omega (arith, part_smaller, h)

  -- and outside clauses where its node is
  pub outside_part : (k : ℕ) → Outside b k → (i : ℕ) → i < field_count (node_record b k) → names_node (kind_of (node_record b k)) i ≡ true
      → Outside b (field (node_record b k) i)
  outside_part k o i l t =
      let h = o.below in
      let c = part_child k h i l t in
      record {
        below = part_below k h i l t;
        place = same_place b (trees_pass b accepted) k h refl (no_case k h o.no_body (sheet_node_of b k) refl) c ∙ o.place;
        no_body = child_no_body b (trees_pass b accepted) k h refl c;
      }

  -- where no pattern variable is
  pub outside_no_pattern : (k : ℕ) → Outside b k → kind_of (node_record b k) ≡ SheetKinds.pattern_variable → ⊥
  outside_no_pattern k o t =
      let w = pattern_held b accepted k o.below (pattern_of k o.below t) in
      none-ne-some w.constructor (sym o.place ∙ w.within)
