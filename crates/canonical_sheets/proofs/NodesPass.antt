-- The nodes of the canonical file pass the checks of shape, references and arguments, as their twins do.
use mathlib.Core.Path.{◌≡◌, refl, sym, ◌∙◌}
use Prim.Native.Nat.{ℕ, ◌+◌, ◌*◌, ◌-◌, ◌<◌}
use mathlib.Core.List.{List}
use mathlib.Core.Bool.{true, false, cond}
use native.Mathlib.Omega.{arith}
use native.Mathlib.Nat.{add-sub_cancel_left}
use native.Mathlib.Decide.{ℕ_discrete}
use lib.ListN.{length}
use lib.Dec.{ltb, eqb}
use borrow.Author.Tests.{le-leb, le-ltb, ne_eqb, ltb-true}
use Rattle.definitions.specs.Records.{kind_of, field, field_count}
use Rattle.definitions.specs.SheetKinds
use Rattle.definitions.specs.TranslationKinds
use Rattle.definitions.specs.Kinds.{row_of, allows}
use Rattle.definitions.specs.Lists.{all_of}
use Rattle.definitions.specs.Verdicts.{◌and_then◌}
use Rattle.definitions.specs.Layouts.{items, functions, first_node, first_function, due, is_due, node_record, owner_of}
use Rattle.definitions.specs.Shape.{counts, operator_code, shape, file_shape}
use Rattle.definitions.specs.References.{parameters, arity, every_other, from_first, from_second, clauses, clause_constructor, names_in_range, references}
use Rattle.definitions.specs.SheetNodes.{SheetNode}
use Rattle.definitions.specs.SheetRules.{arguments_match, arguments}
use Rattle.definitions.specs.Checks.{sheet_verdict}
use Rattle.definitions.specs.Trees.{names_node}
use Rattle.definitions.specs.CanonicalSheet.{canonical}
use Rattle.definitions.specs.declared.Layout.TheVariants.{Sheet}
use Rattle.definitions.specs.Verdict.{Accepted}
use Rattle.laws.proofs.Lists.{all_each, all_pass}
use Rattle.laws.proofs.Shape.{counts_other}
use Rattle.accepted.proofs.Records.{length_allowed, code_right, record_fields}
use Rattle.accepted.proofs.Head.{functions_least}
use Rattle.accepted.proofs.Sections.{NodeKind, node_kind_law}
use Rattle.accepted.proofs.SheetRecords.{SheetRecord, is_number, is_reading, is_parameter, is_pattern_variable, is_operator, is_conditional, is_call, is_build, is_case_law}
use Rattle.accepted.proofs.Checks.{sheet_shape, arguments_match_law}
use Rattle.accepted.proofs.Names.{node_names}
use Rattle.readback.proofs.Passing.{names_there}
use Rattle.trees.proofs.Parts.{record_of}
use Rattle.canonical_sheets.proofs.ReadBack.{readings_read, items_read, functions_read}
use Rattle.canonical_sheets.proofs.Kept.{pass_shape, pass_names, parameters_kept, arity_kept}
use Rattle.canonical_sheets.proofs.Twins.{Twin, pair, twin_below, twin_owner, child_before, first_same, clauses_same, constructor_same}

less_moved : (x y m n : ℕ) → x ≡ y → m ≡ n → ltb y n ≡ true → ltb x m ≡ true
less_moved x y m n p q h = rw (p, q) h

module _ (b : List ℕ) (accepted : sheet_verdict b ≡ Accepted) {f k q : ℕ} (t : Twin b f k q) where
  abbrev form : List ℕ
  form = canonical b

  abbrev shaped : file_shape Sheet b ≡ Accepted
  shaped = sheet_shape b accepted

  abbrev one : List ℕ
  one = node_record b k

  abbrev two : List ℕ
  two = node_record form q

  abbrev at : ℕ
  at = first_node form + q

  there : first_node b + k < due b
  there = omega (arith, (pair t).below)

  -- shape
  node_range : NodeKind Sheet (kind_of two)
  node_range = rw (pair t).kinds (node_kind_law Sheet b shaped k (pair t).below)

  node_due_law : is_due Sheet form at (kind_of two) ≡ true
  unfolding is_due
  node_due_law =
      rw (
        ne_eqb at 0 (λ e. omega (arith, e)),
        le-ltb at (first_node form) (omega arith),
        le-leb SheetKinds.number (kind_of two) node_range.least,
        le-leb (kind_of two) SheetKinds.case_of node_range.greatest,
      ) refl

  node_allowed_law : allows (row_of (kind_of two)) (length two) ≡ true
  node_allowed_law =
      let e : length two ≡ length one = (pair t).long ∙ sym (record_fields Sheet b shaped (first_node b + k) there) in
      rw ((pair t).kinds, e) (length_allowed Sheet b shaped (first_node b + k) there)

  node_counts : counts Sheet form at two ≡ true
  node_counts =
      let l = node_range.least in
      let g = node_range.greatest in
      sym (counts_other Sheet form two at (kind_of two) (λ e. omega (arith, e)) refl (λ e. omega (arith, e, l)) (λ e. omega (arith, e, l))
      (λ e. omega (arith, e, l)) (λ e. omega (arith, e, l)) (λ e. omega (arith, e, g)))

  node_code : operator_code two ≡ true
  unfolding operator_code names_node every_other from_first from_second
  node_code =
      elim (ℕ_discrete (kind_of two) SheetKinds.operator) [
        | yes e ↦
            let kind : kind_of one ≡ SheetKinds.operator = sym (pair t).kinds ∙ e in
            rw (e, first_same b accepted t kind refl) (rw kind at (code_right Sheet b shaped (first_node b + k) there))
        | no e ↦
            rw (ne_eqb (kind_of two) SheetKinds.operator e, ne_eqb (kind_of two) TranslationKinds.operator (λ z. omega (arith, z, node_range.greatest))) refl
      ]

  pub node_shape : shape Sheet form at ≡ Accepted
  node_shape = pass_shape form at (2 * field_count one) (pair t).long node_due_law node_allowed_law node_code node_counts

  -- references
  named : {nd : SheetNode} → SheetRecord one nd → names_in_range b (first_node b + k) one ≡ true → names_in_range form at two ≡ true
  unfolding names_in_range names_node every_other from_first from_second
  named (is_number e m) g = rw ((pair t).kinds ∙ e) refl
  named (is_reading e m) g = rw ((pair t).kinds ∙ e, first_same b accepted t e refl, readings_read b accepted) (rw e at g)
  named (is_parameter e m) g =
      let two_owner : owner_of Sheet form (at - first_node form) ≡ f = rw (add-sub_cancel_left (first_node form) q) (twin_owner b accepted t) in
      let one_owner : owner_of Sheet b (first_node b + k - first_node b) ≡ f = rw (add-sub_cancel_left (first_node b) k) (pair t).owner in
      let less : ltb (field one 0) (parameters b (owner_of Sheet b (first_node b + k - first_node b))) ≡ true = rw e at g in
      rw ((pair t).kinds ∙ e, first_same b accepted t e refl, two_owner, parameters_kept b accepted f t.function) (rw one_owner at less)
  named (is_pattern_variable e m) g = rw ((pair t).kinds ∙ e) refl
  named (is_operator e m) g = rw ((pair t).kinds ∙ e) refl
  named (is_conditional e m) g = rw ((pair t).kinds ∙ e) refl
  named (is_call e l m) g = rw ((pair t).kinds ∙ e, first_same b accepted t e refl, functions_read b accepted) (rw e at g)
  named (is_build e l m) g = rw ((pair t).kinds ∙ e, first_same b accepted t e refl, items_read b accepted) (rw e at g)
  named (is_case_law e m l w) g =
      let each : all_of (clauses one) (λ j. ltb (clause_constructor one j) (items b)) ≡ true = rw e at g in
      rw ((pair t).kinds ∙ e, clauses_same b accepted t)
      (all_pass (clauses one) (λ j. ltb (clause_constructor two j) (items form))
      (λ j v. less_moved (clause_constructor two j) (clause_constructor one j) (items form) (items b) (constructor_same b accepted t e m j v)
      (items_read b accepted) (all_each (clauses one) (λ j. ltb (clause_constructor one j) (items b)) each j v)))

  -- arguments
  abbrev fitting : List ℕ → List ℕ → Type 0
  fitting s rec =
      cond (eqb (kind_of rec) SheetKinds.call) (eqb (field_count rec - 1) (parameters s (field rec 0)))
      (cond (eqb (kind_of rec) SheetKinds.build) (eqb (field_count rec - 1) (arity s (field rec 0))) true) ≡ true

  matched_by : names_in_range b (first_node b + k) one ≡ true → fitting b one → fitting form two
  unfolding names_in_range names_node every_other from_first from_second
  matched_by n g =
      elim (ℕ_discrete (kind_of one) SheetKinds.call) [
        | yes e ↦
            let l : field one 0 < functions b = ltb-true (field one 0) (functions b) (rw e at n) in
            rw ((pair t).kinds ∙ e, first_same b accepted t e refl, (pair t).counts, parameters_kept b accepted (field one 0) l) (rw e at g)
        | no x ↦ elim (ℕ_discrete (kind_of one) SheetKinds.build) [
          | yes e ↦
              let l : field one 0 < items b = ltb-true (field one 0) (items b) (rw e at n) in
              rw ((pair t).kinds ∙ e, first_same b accepted t e refl, (pair t).counts, arity_kept b accepted (field one 0) l) (rw e at g)
          | no y ↦ rw ((pair t).kinds, ne_eqb (kind_of one) SheetKinds.call x, ne_eqb (kind_of one) SheetKinds.build y) refl
        ]
      ]

  matched : names_in_range b (first_node b + k) one ≡ true → arguments_match b (first_node b + k) one ≡ true → arguments_match form at two ≡ true
  unfolding arguments_match
  matched n g =
      let l = functions_least Sheet b shaped in
      let z : eqb at (first_function Sheet form) ≡ false = ne_eqb at (first_function Sheet form) (λ e. omega (arith, e, l, functions_read b accepted)) in
      let w : eqb (first_node b + k) (first_function Sheet b) ≡ false = ne_eqb (first_node b + k) (first_function Sheet b) (λ e. omega (arith, e, l)) in
      rw z (matched_by n (rw w at g))

  pub node_names_pass : (references form at and_then arguments form at) ≡ Accepted
  node_names_pass =
      let g = node_names b accepted k (pair t).below in
      pass_names form at
      (names_there form at two (λ j l. omega (arith, (child_before b accepted t j l).0, twin_below b accepted t))
      (named (record_of b accepted k (pair t).below) g))
      (matched g (arguments_match_law b accepted (first_node b + k) there))
