-- What the nodes of an accepted sheet name besides nodes is there, with the right number of arguments; and operator codes
-- are in range.
use mathlib.Core.Path.{◌≡◌, refl, sym, ◌∙◌}
use Prim.Native.Nat.{ℕ, ◌+◌, ◌-◌, ◌≤◌, ◌<◌}
use mathlib.Core.List.{List}
use mathlib.Core.Bool.{true, and-eq-true_iff}
use native.Mathlib.Omega.{arith}
use native.Mathlib.Nat.{add-sub_cancel_left}
use lib.ListN.{length}
use lib.Dec.{ltb}
use borrow.Author.Tests.{ltb-true, eqb-true, eq-eqb, ne_eqb}
use Rattle.definitions.specs.OperatorCodes
use Rattle.definitions.specs.Records.{kind_of, field, field_count}
use Rattle.definitions.specs.SheetKinds
use Rattle.definitions.specs.Lists.{all_of}
use Rattle.definitions.specs.Layouts.{readings, items, functions, nodes, first_function, first_node, node_record, owner_of}
use Rattle.definitions.specs.Shape.{operator_code}
use Rattle.definitions.specs.References.{parameters, arity, children, child, names_in_range, in_range}
use Rattle.definitions.specs.NodeFields.{fields_from}
use Rattle.definitions.specs.SheetNodes.{reading, parameter, operator, call, build, sheet_node, sheet_node_of}
use Rattle.definitions.specs.SheetRules.{arguments_match}
use Rattle.definitions.specs.Checks.{sheet_verdict}
use Rattle.definitions.specs.declared.Layout.TheVariants.{Sheet}
use Rattle.definitions.specs.Verdict.{Accepted}
use Rattle.laws.proofs.Lists.{listed_length}
use Rattle.laws.proofs.Ranges.{within_by}
use Rattle.accepted.proofs.Head.{functions_least}
use Rattle.accepted.proofs.Records.{code_right}
use Rattle.accepted.proofs.SheetRecords.{SheetRecord, is_reading, is_parameter, is_operator, is_call, is_build, node_is}
use Rattle.accepted.proofs.Checks.{sheet_shape, sheet_in_range, arguments_match_law}

-- over one record
module _ (b rec : List ℕ) (r : ℕ) (h : names_in_range b r rec ≡ true) where
  reading_named : {i : ℕ} → SheetRecord rec (reading i) → i < readings b
  unfolding names_in_range
  reading_named (is_reading e c) = ltb-true (field rec 0) (readings b) (rw e at h)

  parameter_named : {i : ℕ} → SheetRecord rec (parameter i) → i < parameters b (owner_of Sheet b (r - first_node b))
  unfolding names_in_range
  parameter_named (is_parameter e c) = ltb-true (field rec 0) (parameters b (owner_of Sheet b (r - first_node b))) (rw e at h)

  function_named : {f : ℕ} {ns : List ℕ} → SheetRecord rec (call f ns) → f < functions b
  unfolding names_in_range
  function_named (is_call e l g) = ltb-true (field rec 0) (functions b) (rw e at h)

  constructor_named : {c : ℕ} {ns : List ℕ} → SheetRecord rec (build c ns) → c < items b
  unfolding names_in_range
  constructor_named (is_build e l g) = ltb-true (field rec 0) (items b) (rw e at h)

code_by : (rec : List ℕ) {o l r : ℕ} → operator_code rec ≡ true → SheetRecord rec (operator o l r) → o ≤ OperatorCodes.greatest
unfolding operator_code
code_by rec h (is_operator e c) = (within_by 0 5 (field rec 0) (rw e at h)).greatest

module _ (b rec : List ℕ) (r : ℕ) (n : r ≡ first_function Sheet b → ⊥) (h : arguments_match b r rec ≡ true) where
  call_arguments : {f : ℕ} {ns : List ℕ} → SheetRecord rec (call f ns) → length ns ≡ parameters b f
  unfolding arguments_match fields_from
  call_arguments (is_call e l g) =
      listed_length (field_count rec - 1) (λ i. field rec (1 + i))
      ∙ eqb-true (field_count rec - 1) (parameters b (field rec 0)) (rw (ne_eqb r (first_function Sheet b) n, e) at h)

  build_arguments : {c : ℕ} {ns : List ℕ} → SheetRecord rec (build c ns) → length ns ≡ arity b c
  unfolding arguments_match fields_from
  build_arguments (is_build e l g) =
      listed_length (field_count rec - 1) (λ i. field rec (1 + i))
      ∙ eqb-true (field_count rec - 1) (arity b (field rec 0)) (rw (ne_eqb r (first_function Sheet b) n, e) at h)

module _ (b : List ℕ) (accepted : sheet_verdict b ≡ Accepted) where
  -- "result" has no parameters
  pub result_parameters : parameters b 0 ≡ 0
  unfolding arguments_match
  result_parameters =
      let l = functions_least Sheet b (sheet_shape b accepted) in
      eqb-true (parameters b 0) 0
      (rw (eq-eqb (1 + items b + 0) (1 + items b) (omega arith)) at (arguments_match_law b accepted (1 + items b + 0) (omega arith)))

  module _ (k : ℕ) (h : k < nodes b) where
    pub node_names : names_in_range b (first_node b + k) (node_record b k) ≡ true
    unfolding in_range
    node_names =
        ((and-eq-true_iff (all_of (children (node_record b k)) (λ j. ltb (child (node_record b k) j) (nodes b))) _
        ).0 (sheet_in_range b accepted (first_node b + k) (omega arith))).1

    -- a reading is one of the sheet's
    pub reading_below : {i : ℕ} → sheet_node_of b k ≡ reading i → i < readings b
    reading_below e = reading_named b (node_record b k) (first_node b + k) node_names (node_is b (sheet_shape b accepted) k h e)

    -- a parameter is one of the function whose node it is
    pub parameter_below : {i : ℕ} → sheet_node_of b k ≡ parameter i → i < parameters b (owner_of Sheet b k)
    parameter_below e =
        rw (add-sub_cancel_left (first_node b) k) at (parameter_named b (node_record b k) (first_node b + k) node_names (node_is b (sheet_shape b accepted) k h e))

    -- a call is of a function, with as many arguments as it has parameters
    pub call_below : {f : ℕ} {ns : List ℕ} → sheet_node_of b k ≡ call f ns → f < functions b
    call_below e = function_named b (node_record b k) (first_node b + k) node_names (node_is b (sheet_shape b accepted) k h e)

    pub call_count : {f : ℕ} {ns : List ℕ} → sheet_node_of b k ≡ call f ns → length ns ≡ parameters b f
    call_count e =
        let l = functions_least Sheet b (sheet_shape b accepted) in
        call_arguments b (node_record b k) (first_node b + k) (λ p. omega (arith, p)) (arguments_match_law b accepted (first_node b + k) (omega arith)) (node_is b (sheet_shape b accepted) k h e)

    -- a build is of a constructor, with as many arguments as its arity
    pub build_below : {c : ℕ} {ns : List ℕ} → sheet_node_of b k ≡ build c ns → c < items b
    build_below e = constructor_named b (node_record b k) (first_node b + k) node_names (node_is b (sheet_shape b accepted) k h e)

    pub build_count : {c : ℕ} {ns : List ℕ} → sheet_node_of b k ≡ build c ns → length ns ≡ arity b c
    build_count e =
        let l = functions_least Sheet b (sheet_shape b accepted) in
        build_arguments b (node_record b k) (first_node b + k) (λ p. omega (arith, p)) (arguments_match_law b accepted (first_node b + k) (omega arith)) (node_is b (sheet_shape b accepted) k h e)

    -- the same by the record: the fields after the first are the arguments
    pub call_fields : kind_of (node_record b k) ≡ SheetKinds.call
        → field_count (node_record b k) - 1 ≡ parameters b (field (node_record b k) 0)
    unfolding sheet_node_of sheet_node fields_from
    call_fields e =
        let rec = node_record b k in
        let d : sheet_node_of b k ≡ call (field rec 0) (fields_from rec 1) = rw e refl in
        sym (listed_length (field_count rec - 1) (λ i. field rec (1 + i))) ∙ call_count d

    -- an operator's code is one of six
    pub operator_code_law : {o l r : ℕ} → sheet_node_of b k ≡ operator o l r → o ≤ OperatorCodes.greatest
    operator_code_law e = code_by (node_record b k) (code_right Sheet b (sheet_shape b accepted) (first_node b + k) (omega arith)) (node_is b (sheet_shape b accepted) k h e)
