-- The clause in whose tree a node stands, where a sheet's trees pass: none for a body and in a case's scrutinee, a clause's
-- constructor in that clause, and a parent's own in a child of a node that is no case.
use mathlib.Core.Path.{◌≡◌, refl, sym, ap, ◌∙◌}
use Prim.Native.Nat.{ℕ, zero, suc, ◌+◌, ◌≤◌, ◌<◌}
use mathlib.Core.List.{List}
use mathlib.Core.Option.{none, some, none-ne-some}
use mathlib.Core.Bool.{true, false, cond, true≢false}
use native.Mathlib.Omega.{arith}
use native.Mathlib.Nat.{not-suc-le-zero}
use native.Mathlib.Decide.{ℕ_discrete}
use lib.ListN.{get_elem?}
use lib.Dec.{eqb}
use borrow.Author.Tests.{eq-eqb, ne_eqb}
use Rattle.definitions.specs.Records.{kind_of}
use Rattle.definitions.specs.SheetKinds
use Rattle.definitions.specs.Layouts.{nodes, node_record, body_of, owner_of}
use Rattle.definitions.specs.References.{child, clauses, clause_constructor}
use Rattle.definitions.specs.NodeFields.{Clause, chosen}
use Rattle.definitions.specs.SheetNodes.{SheetNode, case_of, sheet_node_of}
use Rattle.definitions.specs.SheetRules.{is_body, parent_of, clause_of, clause_within}
use Rattle.definitions.specs.declared.Layout.TheVariants.{Sheet}
use Rattle.accepted.specs.Child.{Child, is_case, scrutinee, clause}
use Rattle.accepted.proofs.SheetRecords.{SheetRecord, is_number, is_reading, is_parameter, is_pattern_variable, is_operator, is_conditional, is_call, is_build, is_case_law, node_is}
use Rattle.accepted.proofs.Children.{ChildAt, clause_field, clause_found, case_children, case_child}
use Rattle.accepted.proofs.Checks.{TreesPass}
use Rattle.accepted.proofs.Trees.{child_smaller, child_no_body, record_child}
use Rattle.accepted.proofs.Parents.{record_places, record_parent_there, parent_is}
use Rattle.accepted.proofs.Clauses.{chosen_found}

-- the clause of a case's record that a node is
clause_of_none : (rec : List ℕ) (n k : ℕ) → ((j : ℕ) → j < n → child rec (suc j) ≡ k → ⊥) → clause_of rec n k ≡ none
unfolding clause_of
clause_of_none rec zero k e = refl
clause_of_none rec (suc n) k e =
    rw (ne_eqb (child rec (suc n)) k (e n (omega arith))) (clause_of_none rec n k (λ j h. e j (omega arith)))

clause_of_some : (rec : List ℕ) (n k j : ℕ) → j < n → child rec (suc j) ≡ k → ((i : ℕ) → i < n → child rec (suc i) ≡ k → i ≡ j)
    → clause_of rec n k ≡ some (clause_constructor rec j)
unfolding clause_of
clause_of_some rec zero k j h e u = absurd (not-suc-le-zero h)
clause_of_some rec (suc n) k j h e u =
    elim (ℕ_discrete j n) [
      | yes p ↦ rw (← p, eq-eqb (child rec (suc j)) k e) refl
      | no p ↦
          rw (ne_eqb (child rec (suc n)) k (λ q. p (sym (u n (omega arith) q))))
          (clause_of_some rec n k j (omega (arith, h, p)) e (λ i l. u i (omega arith)))
    ]

-- a record of another kind is no case's
other_kind : (rec : List ℕ) {nd : SheetNode} → SheetRecord rec nd → is_case nd ≡ false → eqb (kind_of rec) SheetKinds.case_of ≡ false
other_kind rec (is_number e c) n = rw e refl
other_kind rec (is_reading e c) n = rw e refl
other_kind rec (is_parameter e c) n = rw e refl
other_kind rec (is_pattern_variable e c) n = rw e refl
other_kind rec (is_operator e c) n = rw e refl
other_kind rec (is_conditional e c) n = rw e refl
other_kind rec (is_call e l g) n = rw e refl
other_kind rec (is_build e l g) n = rw e refl
other_kind rec (is_case_law e c l g) n = absurd (true≢false n)

-- a node in one place of a case's record: the scrutinee, or a clause
module _ (rec : List ℕ) (k : ℕ) (one : (i j : ℕ) → ChildAt rec k i → ChildAt rec k j → i ≡ j) where
  scrutinee_of_law : {n : ℕ} {cs : List Clause} → SheetRecord rec (case_of n cs) → n ≡ k → clause_of rec (clauses rec) k ≡ none
  scrutinee_of_law (is_case_law e c l g) p =
      let m = case_children rec e c in
      let here : ChildAt rec k 0 = record { below = omega (arith, m); is = case_child rec e 0 ∙ p } in
      clause_of_none rec (clauses rec) k
      (λ j h q. let z : 0 ≡ suc j = one 0 (suc j) here (record { below = omega (arith, m, h); is = q }) in omega arith)

  clause_of_case : {n : ℕ} {cs : List Clause} → SheetRecord rec (case_of n cs) → (j : ℕ) {c : Clause} → get_elem? cs j ≡ some c
      → c.node ≡ k
      → clause_of rec (clauses rec) k ≡ some c.constructor
  clause_of_case (is_case_law e m l g) j q p =
      let f = clause_found rec j q in
      let r = case_children rec e m in
      let s = case_child rec e (suc j) ∙ clause_field rec j ∙ f.leads ∙ p in
      let here : ChildAt rec k (suc j) = record { below = omega (arith, r, f.below); is = s } in
      rw (← f.names)
      (clause_of_some rec (clauses rec) k j f.below s
      (λ i h q. let z : suc i ≡ suc j = one (suc i) (suc j) (record { below = omega (arith, r, h); is = q }) here in omega arith))

case_kind : (rec : List ℕ) {n : ℕ} {cs : List Clause} → SheetRecord rec (case_of n cs) → eqb (kind_of rec) SheetKinds.case_of ≡ true
case_kind rec (is_case_law e c l g) = rw e refl

module _ (b : List ℕ) where
  -- one step up from a node that is no body, to its parent p
  pub step_up : (k p d : ℕ) → (k ≡ body_of Sheet b (owner_of Sheet b k) → ⊥) → parent_of b k ≡ p
      → clause_within b (suc d) k
      ≡ cond (eqb (kind_of (node_record b p)) SheetKinds.case_of) (clause_of (node_record b p) (clauses (node_record b p)) k) (clause_within b d p)
  unfolding clause_within is_body
  step_up k p d n e = rw (ne_eqb k (body_of Sheet b (owner_of Sheet b k)) n, e) refl

  -- a body stands in no clause
  pub body_place : (k d : ℕ) → k ≡ body_of Sheet b (owner_of Sheet b k) → clause_within b d k ≡ none
  unfolding clause_within is_body
  body_place k zero e = refl
  body_place k (suc d) e = rw (eq-eqb k (body_of Sheet b (owner_of Sheet b k)) e) refl

module _ (b : List ℕ) (passed : TreesPass b) where
  -- looking further up than there are nodes above changes nothing
  same_depth : (d e k : ℕ) → k < nodes b → nodes b ≤ d + k → nodes b ≤ e + k → clause_within b d k ≡ clause_within b e k
  same_depth zero e k h p q = absurd (omega arith)
  same_depth (suc d) zero k h p q = absurd (omega arith)
  same_depth (suc d) (suc e) k h p q =
      elim (ℕ_discrete k (body_of Sheet b (owner_of Sheet b k))) [
        | yes x ↦ body_place b k (suc d) x ∙ sym (body_place b k (suc e) x)
        | no x ↦
            let t = record_parent_there b passed k h x in
            let s = (record_child b passed (parent_of b k) k t.0 t.1).smaller in
            let i = same_depth d e (parent_of b k) t.0 (omega (arith, p, s)) (omega (arith, q, s)) in
            step_up b k (parent_of b k) d x refl ∙ rw i refl ∙ sym (step_up b k (parent_of b k) e x refl)
      ]

  module _ (p : ℕ) (h : p < nodes b) where
    -- the place of a child, by its parent
    child_step : {nd : SheetNode} {k : ℕ} → sheet_node_of b p ≡ nd → Child nd k
        → clause_within b (nodes b) k
        ≡ cond (eqb (kind_of (node_record b p)) SheetKinds.case_of) (clause_of (node_record b p) (clauses (node_record b p)) k) (clause_within b (nodes b) p)
    child_step {nd} {k} e c =
        let s = child_smaller b passed p h e c in
        same_depth (nodes b) (suc (nodes b)) k (omega (arith, s)) (omega arith) (omega arith)
        ∙ step_up b k p (nodes b) (child_no_body b passed p h e c) (parent_is b passed p h e c)

    -- a child of a node that is no case stands where its parent does
    pub same_place : {nd : SheetNode} {k : ℕ} → sheet_node_of b p ≡ nd → is_case nd ≡ false → Child nd k
        → clause_within b (nodes b) k ≡ clause_within b (nodes b) p
    same_place {nd} {k} e n c =
        child_step e c ∙ rw (other_kind (node_record b p) (node_is b passed.shape p h e) n) refl

    -- the scrutinee of a case stands in no clause
    pub scrutinee_place : {n : ℕ} {cs : List Clause} → sheet_node_of b p ≡ case_of n cs → clause_within b (nodes b) n ≡ none
    scrutinee_place {n} e =
        let r = node_is b passed.shape p h e in
        child_step e scrutinee
        ∙ rw (case_kind (node_record b p) r)
        (scrutinee_of_law (node_record b p) n (λ i j. record_places b passed p n i j h) r refl)

    -- a clause's node stands in that clause
    pub clause_place : {n : ℕ} {cs : List Clause} → sheet_node_of b p ≡ case_of n cs → (j : ℕ) {c : Clause} → get_elem? cs j ≡ some c
        → clause_within b (nodes b) c.node ≡ some c.constructor
    clause_place e j {c} q =
        let r = node_is b passed.shape p h e in
        child_step e (clause j q refl)
        ∙ rw (case_kind (node_record b p) r)
        (clause_of_case (node_record b p) c.node (λ i j. record_places b passed p c.node i j h) r j q refl)

    -- so a case's scrutinee is no clause's node
    pub no_scrutinee : {n : ℕ} {cs : List Clause} → sheet_node_of b p ≡ case_of n cs → (j : ℕ) {c : Clause} → get_elem? cs j ≡ some c → n ≡ c.node → ⊥
    no_scrutinee e j q g =
        none-ne-some _ (sym (scrutinee_place e) ∙ ap (clause_within b (nodes b)) g ∙ clause_place e j q)

    -- the node that a constructor chooses stands in that constructor's clause
    pub chosen_place : {n c m : ℕ} {cs : List Clause} → sheet_node_of b p ≡ case_of n cs → chosen cs c ≡ some m
        → clause_within b (nodes b) m ≡ some c
    chosen_place {n} {c} {m} {cs} e q =
        let f = chosen_found cs c m q in
        rw (f.leads, f.names) at (clause_place e f.place f.there)
