-- What the nodes and the formals of an accepted translation name is there.
use mathlib.Core.Path.{◌≡◌, refl, ◌∙◌}
use Prim.Native.Nat.{ℕ, suc, ◌+◌, ◌*◌, ◌-◌, ◌<◌}
use mathlib.Core.List.{List}
use mathlib.Core.Option.{some}
use mathlib.Core.Bool.{true, and-eq-true_iff}
use native.Mathlib.Omega.{arith}
use native.Mathlib.Nat.{zero-add}
use lib.Dec.{ltb}
use borrow.Author.Tests.{ltb-true}
use Rattle.definitions.specs.TranslationKinds
use Rattle.definitions.specs.Records.{record_of, kind_of, field, field_count}
use Rattle.definitions.specs.Lists.{all_of}
use Rattle.definitions.specs.Layouts.{readings, items, functions, nodes, first_node, due, item_record, node_record}
use Rattle.definitions.specs.References.{from_first, from_second, every_other, child_count, child_field, children, child, clauses, names_in_range, in_range}
use Rattle.definitions.specs.NodeFields.{fields_from}
use Rattle.definitions.specs.TranslationNodes.{TranslationNode, reading, formal, call, translation_node_of, actual}
use Rattle.definitions.specs.Checks.{translation_verdict}
use Rattle.definitions.specs.declared.Layout.TheVariants.{Translation}
use Rattle.definitions.specs.Verdict.{Accepted}
use Rattle.laws.proofs.Lists.{all_each}
use Rattle.accepted.specs.Mention.{Mention, selected, left, right, condition, if_nonzero, if_zero, component, scrutinee, clause}
use Rattle.accepted.proofs.Elements.{listed_found}
use Rattle.accepted.proofs.Sections.{formal_kind}
use Rattle.accepted.proofs.Children.{ChildOf, child_of, clause_field, clause_found, argument_found}
use Rattle.accepted.proofs.TranslationRecords.{TranslationRecord, is_reading, is_formal, is_select, is_operator, is_conditional, is_call, is_tuple, is_case_law, translation_node_is, is_number}
use Rattle.accepted.proofs.Checks.{translation_shape, translation_in_range}

-- how many nodes a record names, and which field names each, by kind
module _ (rec : List ℕ) where
  pub select_mentions : kind_of rec ≡ TranslationKinds.select → field_count rec ≡ 2 → children rec ≡ 1
  unfolding children child_count every_other from_first from_second
  select_mentions e c = rw (e, c) refl

  pub select_mention : kind_of rec ≡ TranslationKinds.select → (j : ℕ) → child rec j ≡ field rec (2 * j)
  unfolding child child_field every_other from_first
  select_mention e j = rw e refl

  pub operator_mentions : kind_of rec ≡ TranslationKinds.operator → field_count rec ≡ 3 → children rec ≡ 2
  unfolding children child_count every_other from_first from_second
  operator_mentions e c = rw (e, c) refl

  pub operator_mention : kind_of rec ≡ TranslationKinds.operator → (j : ℕ) → child rec j ≡ field rec (1 + j)
  unfolding child child_field every_other from_first
  operator_mention e j = rw e refl

  pub conditional_mentions : kind_of rec ≡ TranslationKinds.conditional → field_count rec ≡ 3 → children rec ≡ 3
  unfolding children child_count every_other from_first from_second
  conditional_mentions e c = rw (e, c) refl

  pub conditional_mention : kind_of rec ≡ TranslationKinds.conditional → (j : ℕ) → child rec j ≡ field rec j
  unfolding child child_field every_other from_first
  conditional_mention e j = rw e refl

  pub tuple_mentions : kind_of rec ≡ TranslationKinds.tuple → children rec ≡ field_count rec - 1
  unfolding children child_count every_other from_first from_second
  tuple_mentions e = rw e refl

  pub tuple_mention : kind_of rec ≡ TranslationKinds.tuple → (j : ℕ) → child rec j ≡ field rec (1 + j)
  unfolding child child_field every_other from_first
  tuple_mention e j = rw e refl

  pub case_mentions : kind_of rec ≡ TranslationKinds.case_of → field_count rec ≡ 1 + 2 * clauses rec → children rec ≡ suc (clauses rec)
  unfolding children child_count every_other from_first from_second
  case_mentions e c = rw (e, c) (omega arith)

  pub case_mention : kind_of rec ≡ TranslationKinds.case_of → (j : ℕ) → child rec j ≡ field rec (2 * j)
  unfolding child child_field every_other from_first
  case_mention e j = rw e refl

  pub list_mentions : kind_of rec ≡ TranslationKinds.formal_list → children rec ≡ field_count rec
  unfolding children child_count every_other from_first from_second
  list_mentions e = rw e refl

  pub list_mention : kind_of rec ≡ TranslationKinds.formal_list → (j : ℕ) → child rec j ≡ field rec j
  unfolding child child_field every_other from_first
  list_mention e j = rw e refl

  mention_place : {nd : TranslationNode} {n : ℕ} → TranslationRecord rec nd → Mention nd n → ChildOf rec n
  mention_place (is_select e c) selected = child_of rec (field rec 0) 0 1 (select_mentions e c) (omega arith) (select_mention e 0)
  mention_place (is_operator e c) left = child_of rec (field rec 1) 0 2 (operator_mentions e c) (omega arith) (operator_mention e 0)
  mention_place (is_operator e c) right = child_of rec (field rec 2) 1 2 (operator_mentions e c) (omega arith) (operator_mention e 1)
  mention_place (is_conditional e c) condition = child_of rec (field rec 0) 0 3 (conditional_mentions e c) (omega arith) (conditional_mention e 0)
  mention_place (is_conditional e c) if_nonzero = child_of rec (field rec 1) 1 3 (conditional_mentions e c) (omega arith) (conditional_mention e 1)
  mention_place (is_conditional e c) if_zero = child_of rec (field rec 2) 2 3 (conditional_mentions e c) (omega arith) (conditional_mention e 2)
  mention_place (is_tuple e l g) (component i p) =
      let q = argument_found rec i p in
      child_of rec _ i (field_count rec - 1) (tuple_mentions e) q.below (tuple_mention e i ∙ q.is)
  mention_place (is_case_law e c l g) scrutinee =
      child_of rec (field rec 0) 0 (suc (clauses rec)) (case_mentions e c) (omega arith) (case_mention e 0)
  mention_place (is_case_law e c l g) (clause j p q) =
      let s = clause_found rec j p in
      child_of rec _ (suc j) (suc (clauses rec)) (case_mentions e c) (omega (arith, s.below))
      (case_mention e (suc j) ∙ clause_field rec j ∙ s.leads ∙ q)
  mention_place {n = n} (is_number _ _) x7 = elim x7 [ ]
  mention_place {n = n} (is_reading _ _) x8 = elim x8 [ ]
  mention_place {n = n} (is_formal _ _) x9 = elim x9 [ ]
  mention_place {n = n} (is_call _ _) x10 = elim x10 [ ]

-- over one record
module _ (b rec : List ℕ) (r : ℕ) (h : names_in_range b r rec ≡ true) where
  reading_named : {i : ℕ} → TranslationRecord rec (reading i) → i < readings b
  unfolding names_in_range
  reading_named (is_reading e c) = ltb-true (field rec 0) (readings b) (rw e at h)

  formal_named : {p : ℕ} → TranslationRecord rec (formal p) → p < items b
  unfolding names_in_range
  formal_named (is_formal e c) = ltb-true (field rec 0) (items b) (rw e at h)

  function_named : {l f : ℕ} → TranslationRecord rec (call l f) → f < functions b
  unfolding names_in_range
  function_named (is_call e c) = ltb-true (field rec 1) (functions b) (rw e at h)

module _ (b : List ℕ) (accepted : translation_verdict b ≡ Accepted) where
  -- a node that a record names is there
  record_mention : (r n : ℕ) → r < due b → ChildOf (record_of b r) n → n < nodes b
  unfolding in_range
  record_mention r n h c =
      let rec = record_of b r in
      let p = (and-eq-true_iff _ _).0 (translation_in_range b accepted r h) in
      let q = ltb-true (child rec c.place) (nodes b) (all_each (children rec) (λ j. ltb (child rec j) (nodes b)) p.0 c.place c.there.below) in
      rw c.there.is at q

  -- an actual of a formal is a node
  pub actual_below : (p l : ℕ) → p < items b → {n : ℕ} → actual b p l ≡ some n → n < nodes b
  unfolding actual fields_from
  actual_below p l h e =
      let rec = item_record Translation b p in
      let k = formal_kind b (translation_shape b accepted) p h in
      let f = listed_found (field_count rec - 0) (λ j. field rec (0 + j)) l e in
      let i : field rec l ≡ _ = rw zero-add at f.is in
      record_mention (1 + functions b + p) _ (omega arith)
      (child_of rec _ l (field_count rec) (list_mentions rec k) (omega (arith, f.below)) (list_mention rec k l ∙ i))

  module _ (k : ℕ) (h : k < nodes b) where
    node_names : names_in_range b (first_node b + k) (node_record b k) ≡ true
    unfolding in_range
    node_names =
        ((and-eq-true_iff (all_of (children (node_record b k)) (λ j. ltb (child (node_record b k) j) (nodes b))) _
        ).0 (translation_in_range b accepted (first_node b + k) (omega arith))).1

    -- a reading, a formal and a function that a node names are there
    pub translation_reading_below : {i : ℕ} → translation_node_of b k ≡ reading i → i < readings b
    translation_reading_below e = reading_named b (node_record b k) (first_node b + k) node_names (translation_node_is b (translation_shape b accepted) k h e)

    pub formal_below : {p : ℕ} → translation_node_of b k ≡ formal p → p < items b
    formal_below e = formal_named b (node_record b k) (first_node b + k) node_names (translation_node_is b (translation_shape b accepted) k h e)

    pub translation_call_below : {l f : ℕ} → translation_node_of b k ≡ call l f → f < functions b
    translation_call_below e = function_named b (node_record b k) (first_node b + k) node_names (translation_node_is b (translation_shape b accepted) k h e)

    -- and so are the nodes
    pub mention_below : {nd : TranslationNode} {n : ℕ} → translation_node_of b k ≡ nd → Mention nd n → n < nodes b
    mention_below e m =
        record_mention (first_node b + k) _ (omega arith)
        (mention_place (node_record b k) (translation_node_is b (translation_shape b accepted) k h e) m)
