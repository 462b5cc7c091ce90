-- What the rules of types say of the nodes of an accepted typed sheet: a node's type by what it is, and the types of its children, of
-- bodies and of clauses' nodes.
use mathlib.Core.Path.{◌≡◌, refl, sym, ◌∙◌}
use Prim.Native.Nat.{ℕ, ◌+◌, ◌-◌, ◌≤◌, ◌<◌}
use mathlib.Core.List.{List}
use mathlib.Core.Option.{some}
use mathlib.Core.Bool.{true, ◌&&◌, ◌||◌, and-eq-true_iff, or-true}
use lib.ListN.{get_elem?}
use lib.Dec.{leb, eqb}
use borrow.Author.Tests.{eqb-true, eq-eqb, ne_eqb, leb-true}
use Rattle.definitions.specs.Records.{field, field_count}
use Rattle.definitions.specs.Sizes.{most_fields, most_types}
use Rattle.definitions.specs.Ranges.{within}
use Rattle.definitions.specs.References.{arity}
use Rattle.definitions.specs.Layouts.{is_typed, items, functions, nodes, node_record, body_of, owner_of}
use Rattle.definitions.specs.NodeFields.{Clause}
use Rattle.definitions.specs.SheetNodes.{SheetNode, number, reading, parameter, pattern_variable, operator, conditional, call, build, case_of, sheet_node_of}
use Rattle.definitions.specs.Shape.{typed_constructor_counts}
use Rattle.definitions.specs.SheetRules.{is_body, clause_within}
use Rattle.definitions.specs.Types.{number_type, own_type, field_type, result_type, parameter_type, pattern_type, type_by, type_of}
use Rattle.definitions.specs.Types.{arguments_typed, clauses_typed, children_typed, is_clause_of, is_clause, result_typed, type_right}
use Rattle.definitions.specs.Checks.{sheet_verdict}
use Rattle.definitions.specs.declared.Layout.TheVariants.{Sheet}
use Rattle.definitions.specs.Verdict.{Accepted}
use Rattle.laws.proofs.Lists.{all_each}
use Rattle.laws.proofs.Ranges.{within_by}
use Rattle.accepted.specs.Child.{clause}
use Rattle.accepted.proofs.Sections.{typed_constructor_counts_law}
use Rattle.accepted.proofs.SheetRecords.{SheetRecord, is_number, is_reading, is_parameter, is_pattern_variable, is_operator, is_conditional, is_call, is_build, is_case_law, node_is}
use Rattle.accepted.proofs.Children.{argument_found}
use Rattle.accepted.proofs.Checks.{sheet_shape, trees_pass, type_right_law}
use Rattle.accepted.proofs.Owners.{body_below, owner_of_body}
use Rattle.accepted.proofs.Trees.{record_child, child_below, child_owner}
use Rattle.accepted.proofs.Parents.{parent_is}
use Rattle.accepted.proofs.Types.{type_of_node}
use Rattle.accepted.proofs.Places.{no_scrutinee}

-- the type of node k by what it is, where those of smaller nodes are given
abbrev pub node_type : List ℕ → (ℕ → ℕ) → ℕ → SheetNode → ℕ
node_type b of k (number z) = number_type
node_type b of k (reading i) = number_type
node_type b of k (parameter i) = parameter_type b (owner_of Sheet b k) i
node_type b of k (pattern_variable i) = pattern_type b i (clause_within b (nodes b) k)
node_type b of k (operator o l r) = number_type
node_type b of k (conditional n p q) = of p
node_type b of k (call f ns) = result_type b f
node_type b of k (build c ns) = own_type b c
node_type b of k (case_of n cs) = result_type b (owner_of Sheet b k)

type_by_law : (b : List ℕ) (of : ℕ → ℕ) (k : ℕ) (rec : List ℕ) {nd : SheetNode} → SheetRecord rec nd → type_by b of k rec ≡ node_type b of k nd
unfolding type_by
type_by_law b of k rec (is_number e c) = rw e refl
type_by_law b of k rec (is_reading e c) = rw e refl
type_by_law b of k rec (is_parameter e c) = rw e refl
type_by_law b of k rec (is_pattern_variable e c) = rw e refl
type_by_law b of k rec (is_operator e c) = rw e refl
type_by_law b of k rec (is_conditional e c) = rw e refl
type_by_law b of k rec (is_call e l g) = rw e refl
type_by_law b of k rec (is_build e l g) = rw e refl
type_by_law b of k rec (is_case_law e c l g) = rw e refl

-- arguments with given types, one by one
argument_by : (b : List ℕ) (given : ℕ → ℕ) (rec : List ℕ) → arguments_typed (type_of b) given rec ≡ true → (i : ℕ) → i < field_count rec - 1
    → type_of b (field rec (1 + i)) ≡ given i
unfolding arguments_typed
argument_by b given rec e i h =
    eqb-true (type_of b (field rec (1 + i))) (given i) (all_each (field_count rec - 1) (λ j. eqb (type_of b (field rec (1 + j))) (given j)) e i h)

-- what a node asks of its children, by its kind
module _ (b rec : List ℕ) (t : children_typed b (type_of b) rec ≡ true) where
  operands_by : {o l r : ℕ} → SheetRecord rec (operator o l r) → (type_of b l ≡ number_type) × (type_of b r ≡ number_type)
  unfolding children_typed
  operands_by (is_operator e c) =
      let p = (and-eq-true_iff (eqb (type_of b (field rec 1)) 0) (eqb (type_of b (field rec 2)) 0)).0 (rw e at t) in
      (eqb-true (type_of b (field rec 1)) 0 p.0, eqb-true (type_of b (field rec 2)) 0 p.1)

  arms_by : {n p q : ℕ} → SheetRecord rec (conditional n p q) → (type_of b n ≡ number_type) × (type_of b p ≡ type_of b q)
  unfolding children_typed
  arms_by (is_conditional e c) =
      let x = (and-eq-true_iff (eqb (type_of b (field rec 0)) 0) (eqb (type_of b (field rec 1)) (type_of b (field rec 2)))).0 (rw e at t) in
      (eqb-true (type_of b (field rec 0)) 0 x.0, eqb-true (type_of b (field rec 1)) (type_of b (field rec 2)) x.1)

  argument_type_by : {f n : ℕ} {ns : List ℕ} (i : ℕ) → SheetRecord rec (call f ns) → get_elem? ns i ≡ some n → type_of b n ≡ parameter_type b f i
  unfolding children_typed
  argument_type_by i (is_call e l g) q =
      let x = argument_found rec i q in
      rw x.is at (argument_by b (parameter_type b (field rec 0)) rec (rw e at t) i x.below)

  component_type_by : {c n : ℕ} {ns : List ℕ} (i : ℕ) → SheetRecord rec (build c ns) → get_elem? ns i ≡ some n → type_of b n ≡ field_type b c i
  unfolding children_typed
  component_type_by i (is_build e l g) q =
      let x = argument_found rec i q in
      rw x.is at (argument_by b (field_type b (field rec 0)) rec (rw e at t) i x.below)

  scrutinee_by : {n : ℕ} {cs : List Clause} → SheetRecord rec (case_of n cs) → 1 ≤ type_of b n
  unfolding children_typed clauses_typed
  scrutinee_by (is_case_law e c l g) =
      leb-true 1 (type_of b (field rec 0)) ((and-eq-true_iff (leb 1 (type_of b (field rec 0))) _).0 (rw e at t)).0

-- a child of a case that is not its scrutinee is a clause's node
clause_by : (rec : List ℕ) {n : ℕ} {cs : List Clause} → SheetRecord rec (case_of n cs) → (m : ℕ) → (n ≡ m → ⊥) → is_clause_of rec m ≡ true
unfolding is_clause_of
clause_by rec (is_case_law e c l g) m p = rw (e, ne_eqb (field rec 0) m p) refl

module _ (b : List ℕ) (accepted : sheet_verdict b ≡ Accepted) where
  -- a node's type, by what it is
  pub type_is : (k : ℕ) → k < nodes b → {nd : SheetNode} → sheet_node_of b k ≡ nd → type_of b k ≡ node_type b (type_of b) k nd
  type_is k h e =
      type_of_node b (sheet_shape b accepted) (λ p n l c. (record_child b (trees_pass b accepted) p n l c).smaller) k h
      ∙ type_by_law b (type_of b) k (node_record b k) (node_is b (sheet_shape b accepted) k h e)

  module _ (typed : is_typed b ≡ true) where
    -- a constructor's type is not that of numbers
    pub own_type_least : (c : ℕ) → c < items b → 1 ≤ own_type b c
    unfolding typed_constructor_counts
    own_type_least c h =
        let a = within 0 most_fields (arity b c) in
        let o = within 1 most_types (own_type b c) in
        let e = ((and-eq-true_iff (a && o) _).0 (typed_constructor_counts_law b (sheet_shape b accepted) c h typed)).0 in
        (within_by 1 most_types (own_type b c) ((and-eq-true_iff a o).0 e).1).least

    module _ (k : ℕ) (h : k < nodes b) where
      rules_kept : (children_typed b (type_of b) (node_record b k) ≡ true) × (result_typed b k ≡ true)
      unfolding type_right
      rules_kept = (and-eq-true_iff (children_typed b (type_of b) (node_record b k)) (result_typed b k)).0 (type_right_law b accepted typed k h)

      pub operands : {o l r : ℕ} → sheet_node_of b k ≡ operator o l r → (type_of b l ≡ number_type) × (type_of b r ≡ number_type)
      operands e = operands_by b (node_record b k) rules_kept.0 (node_is b (sheet_shape b accepted) k h e)

      pub arms : {n p q : ℕ} → sheet_node_of b k ≡ conditional n p q → (type_of b n ≡ number_type) × (type_of b p ≡ type_of b q)
      arms e = arms_by b (node_record b k) rules_kept.0 (node_is b (sheet_shape b accepted) k h e)

      pub scrutinised : {n : ℕ} {cs : List Clause} → sheet_node_of b k ≡ case_of n cs → 1 ≤ type_of b n
      scrutinised e = scrutinee_by b (node_record b k) rules_kept.0 (node_is b (sheet_shape b accepted) k h e)

      pub argument_type : {f n : ℕ} {ns : List ℕ} (i : ℕ) → sheet_node_of b k ≡ call f ns → get_elem? ns i ≡ some n → type_of b n ≡ parameter_type b f i
      argument_type i e = argument_type_by b (node_record b k) rules_kept.0 i (node_is b (sheet_shape b accepted) k h e)

      pub component_type : {c n : ℕ} {ns : List ℕ} (i : ℕ) → sheet_node_of b k ≡ build c ns → get_elem? ns i ≡ some n → type_of b n ≡ field_type b c i
      component_type i e = component_type_by b (node_record b k) rules_kept.0 i (node_is b (sheet_shape b accepted) k h e)

      result_by : (is_body b k || is_clause b k) ≡ true → type_of b k ≡ result_type b (owner_of Sheet b k)
      unfolding result_typed
      result_by e = eqb-true (type_of b k) (result_type b (owner_of Sheet b k)) (rw e at rules_kept.1)

    -- a body has its function's result type
    pub body_type : (f : ℕ) → f < functions b → type_of b (body_of Sheet b f) ≡ result_type b f
    unfolding is_body
    body_type f h =
        let s = sheet_shape b accepted in
        let k = body_of Sheet b f in
        let o = owner_of_body Sheet b s f h in
        let e : (eqb k (body_of Sheet b (owner_of Sheet b k)) || is_clause b k) ≡ true = rw (o, eq-eqb k k refl) refl in
        rw o at (result_by k (body_below Sheet b s f h) e)

    module _ (k : ℕ) (h : k < nodes b) {n : ℕ} {cs : List Clause} (e : sheet_node_of b k ≡ case_of n cs) (j : ℕ) {c : Clause} (q : get_elem? cs j ≡ some c) where
      clause_is : is_clause b c.node ≡ true
      unfolding is_clause
      clause_is =
          rw (parent_is b (trees_pass b accepted) k h e (clause j q refl))
          (clause_by (node_record b k) (node_is b (sheet_shape b accepted) k h e) c.node
          (no_scrutinee b (trees_pass b accepted) k h e j q))

      -- a clause's node has the type of its case
      pub clause_type : type_of b c.node ≡ type_of b k
      clause_type =
          result_by c.node (child_below b (trees_pass b accepted) k h e (clause j q refl)) (rw clause_is (or-true (is_body b c.node)))
          ∙ rw (child_owner b (trees_pass b accepted) k h e (clause j q refl)) (sym (type_is k h e))
