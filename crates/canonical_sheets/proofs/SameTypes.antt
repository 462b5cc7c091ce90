-- Each node of the canonical file has its twin's type, and its children are typed where its twin's are.
use mathlib.Core.Path.{◌≡◌, refl, sym, ap, ap₂, ◌∙◌}
use Prim.Native.Nat.{ℕ, zero, suc, ◌+◌, ◌*◌, ◌-◌, ◌<◌}
use mathlib.Core.List.{List}
use mathlib.Core.Option.{Option, none, some}
use mathlib.Core.Bool.{Bool, true, false, cond, ◌&&◌}
use native.Mathlib.Omega.{arith}
use native.Mathlib.Nat.{not-suc-le-zero}
use lib.Dec.{leb, eqb}
use borrow.Author.Tests.{le-leb}
use Rattle.definitions.specs.Records.{kind_of, field, field_count}
use Rattle.definitions.specs.SheetKinds
use Rattle.definitions.specs.Layouts.{items, functions, nodes, node_record, owner_of}
use Rattle.definitions.specs.References.{every_other, from_first, from_second, clauses, clause_constructor}
use Rattle.definitions.specs.SheetNodes.{SheetNode, sheet_node_of}
use Rattle.definitions.specs.SheetRules.{clause_within}
use Rattle.definitions.specs.Types.{own_type, field_type, result_type, parameter_type, pattern_type, type_by, type_of, arguments_typed, clauses_typed, children_typed}
use Rattle.definitions.specs.Checks.{sheet_verdict}
use Rattle.definitions.specs.Trees.{names_node}
use Rattle.definitions.specs.CanonicalSheet.{canonical}
use Rattle.definitions.specs.declared.Layout.TheVariants.{Sheet}
use Rattle.definitions.specs.Verdict.{Accepted}
use Rattle.laws.proofs.Lists.{all_same}
use Rattle.laws.proofs.ByteFiles.{Bytes}
use Rattle.accepted.proofs.SheetRecords.{SheetRecord, is_number, is_reading, is_parameter, is_pattern_variable, is_operator, is_conditional, is_call, is_build, is_case_law}
use Rattle.accepted.proofs.Children.{clause_element}
use Rattle.accepted.proofs.Clauses.{clause_below}
use Rattle.accepted.proofs.Names.{call_below, build_below}
use Rattle.accepted.proofs.Checks.{TreesPass, trees_pass}
use Rattle.accepted.proofs.Trees.{record_child}
use Rattle.accepted.proofs.Patterns.{clause_within_below}
use Rattle.accepted.proofs.Types.{type_of_node}
use Rattle.trees.proofs.Parts.{record_of, part_smaller}
use Rattle.canonical_sheets.proofs.ReadBack.{item_read, function_read}
use Rattle.canonical_sheets.proofs.Twins.{pair, twin_below, twin_owner, first_same, clauses_same, constructor_same}
use Rattle.canonical_sheets.proofs.TreesPass.{form_trees_pass}
use Rattle.canonical_sheets.proofs.PatternsPass.{SameClause, clauses_down}

-- from the second field on each names a node, in a kind whose children come from there
second : (i : ℕ) (t : Bool) → cond t true (leb 1 (1 + i)) ≡ true
second i true = refl
second i false = le-leb 1 (1 + i) (omega arith)

-- a type by the types of children
type_from : (s : List ℕ) → TreesPass s → (k : ℕ) → k < nodes s → type_of s k ≡ type_by s (type_of s) k (node_record s k)
type_from s passed = type_of_node s passed.shape (λ k n h x. (record_child s passed k n h x).smaller)

module _ (b : List ℕ) (accepted : sheet_verdict b ≡ Accepted) where
  abbrev form : List ℕ
  form = canonical b

  -- the types that functions and constructors declare
  result_kept : (f : ℕ) → f < functions b → result_type form f ≡ result_type b f
  result_kept f h = ap (λ (rec : List ℕ). field rec 2) (function_read b accepted f h)

  parameter_kept : (f i : ℕ) → f < functions b → parameter_type form f i ≡ parameter_type b f i
  parameter_kept f i h = ap (λ (rec : List ℕ). field rec (3 + i)) (function_read b accepted f h)

  own_kept : (d : ℕ) → d < items b → own_type form d ≡ own_type b d
  own_kept d h = ap (λ (rec : List ℕ). field rec 1) (item_read b accepted d h)

  field_kept : (d i : ℕ) → d < items b → field_type form d i ≡ field_type b d i
  field_kept d i h = ap (λ (rec : List ℕ). field rec (2 + i)) (item_read b accepted d h)

  pattern_kept : (i : ℕ) (o : Option ℕ) → ((d : ℕ) → o ≡ some d → d < items b) → pattern_type form i o ≡ pattern_type b i o
  pattern_kept i none h = refl
  pattern_kept i (some d) h = field_kept d i (h d refl)

  -- twins in the same clause
  module _ {f k q : ℕ} (w : SameClause b f k q) where
    abbrev one : List ℕ
    one = node_record b k

    abbrev two : List ℕ
    two = node_record form q

    below : k < nodes b
    below = (pair w.twin).below

    kind_of_law : {n : ℕ} → kind_of one ≡ n → kind_of two ≡ n
    kind_of_law e = (pair w.twin).kinds ∙ e

    first_field : {n : ℕ} → kind_of one ≡ n → names_node n 0 ≡ false → field two 0 ≡ field one 0
    first_field = first_same b accepted w.twin

    owner_parameter : (i : ℕ) → parameter_type form (owner_of Sheet form q) i ≡ parameter_type b (owner_of Sheet b k) i
    owner_parameter i = rw (twin_owner b accepted w.twin, (pair w.twin).owner) (parameter_kept f i w.twin.function)

    pub owner_result : result_type form (owner_of Sheet form q) ≡ result_type b (owner_of Sheet b k)
    owner_result = rw (twin_owner b accepted w.twin, (pair w.twin).owner) (result_kept f w.twin.function)

    clause_pattern : (i : ℕ) → pattern_type form i (clause_within form (nodes form) q) ≡ pattern_type b i (clause_within b (nodes b) k)
    clause_pattern i =
        ap (pattern_type form i) w.same
        ∙ pattern_kept i (clause_within b (nodes b) k) (λ d e. clause_within_below b accepted (nodes b) k d below e)

    -- where children have the same types
    module _ (same : (i : ℕ) → i < field_count one → names_node (kind_of one) i ≡ true → type_of form (field two i) ≡ type_of b (field one i)) where
      type_same : {nd : SheetNode} → SheetRecord one nd → sheet_node_of b k ≡ nd → type_by form (type_of form) q two ≡ type_by b (type_of b) k one
      unfolding type_by names_node every_other from_first from_second
      type_same (is_number e m) r = rw (kind_of_law e, e) refl
      type_same (is_reading e m) r = rw (kind_of_law e, e) refl
      type_same (is_parameter e m) r =
          rw (kind_of_law e, e) (ap (parameter_type form (owner_of Sheet form q)) (first_field e refl) ∙ owner_parameter (field one 0))
      type_same (is_pattern_variable e m) r =
          rw (kind_of_law e, e) (ap (λ i. pattern_type form i (clause_within form (nodes form) q)) (first_field e refl) ∙ clause_pattern (field one 0))
      type_same (is_operator e m) r = rw (kind_of_law e, e) refl
      type_same (is_conditional e m) r = rw (kind_of_law e, e) (same 1 (omega (arith, m)) (rw e refl))
      type_same (is_call e l g) r =
          rw (kind_of_law e, e) (ap (result_type form) (first_field e refl) ∙ result_kept (field one 0) (call_below b accepted k below r))
      type_same (is_build e l g) r =
          rw (kind_of_law e, e) (ap (own_type form) (first_field e refl) ∙ own_kept (field one 0) (build_below b accepted k below r))
      type_same (is_case_law e m l g) r = rw (kind_of_law e, e) owner_result

      -- what a node asks of its children
      arguments_same : {n : ℕ} → kind_of one ≡ n → from_second n ≡ true → every_other n ≡ false → (given to : ℕ → ℕ) → ((i : ℕ) → given i ≡ to i)
          → arguments_typed (type_of form) given two ≡ arguments_typed (type_of b) to one
      unfolding arguments_typed names_node
      arguments_same {n} e u v given to g =
          rw (pair w.twin).counts
          (all_same (field_count one - 1) (λ i. eqb (type_of form (field two (1 + i))) (given i)) (λ i. eqb (type_of b (field one (1 + i))) (to i))
          (λ i h. ap₂ eqb (same (1 + i) (omega (arith, h)) (rw (e, v, u) (second i (from_first n)))) (g i)))

      clauses_typed_law : kind_of one ≡ SheetKinds.case_of → field_count one ≡ 1 + 2 * clauses one → (x : ℕ)
          → ((j : ℕ) → j < clauses one → clause_constructor one j < items b) → clauses_typed form x two ≡ clauses_typed b x one
      unfolding clauses_typed
      clauses_typed_law e m x less =
          ap (λ (t : Bool). leb 1 x && t)
          (rw (clauses_same b accepted w.twin)
          (all_same (clauses one) (λ j. eqb (own_type form (clause_constructor two j)) x) (λ j. eqb (own_type b (clause_constructor one j)) x)
          (λ j h. ap (λ n. eqb n x) (ap (own_type form) (constructor_same b accepted w.twin e m j h) ∙ own_kept (clause_constructor one j) (less j h)))))

      children_same : {nd : SheetNode} → SheetRecord one nd → sheet_node_of b k ≡ nd → children_typed form (type_of form) two ≡ children_typed b (type_of b) one
      unfolding children_typed names_node every_other from_first from_second
      children_same (is_number e m) r = rw (kind_of_law e, e) refl
      children_same (is_reading e m) r = rw (kind_of_law e, e) refl
      children_same (is_parameter e m) r = rw (kind_of_law e, e) refl
      children_same (is_pattern_variable e m) r = rw (kind_of_law e, e) refl
      children_same (is_operator e m) r =
          rw (kind_of_law e, e, same 1 (omega (arith, m)) (rw e refl), same 2 (omega (arith, m)) (rw e refl)) refl
      children_same (is_conditional e m) r =
          rw (kind_of_law e, e, same 0 (omega (arith, m)) (rw e refl), same 1 (omega (arith, m)) (rw e refl), same 2 (omega (arith, m)) (rw e refl)) refl
      children_same (is_call e l g) r =
          rw (kind_of_law e, e)
          (arguments_same e refl refl (parameter_type form (field two 0)) (parameter_type b (field one 0))
          (λ i. ap (λ f. parameter_type form f i) (first_field e refl) ∙ parameter_kept (field one 0) i (call_below b accepted k below r)))
      children_same (is_build e l g) r =
          rw (kind_of_law e, e)
          (arguments_same e refl refl (field_type form (field two 0)) (field_type b (field one 0))
          (λ i. ap (λ d. field_type form d i) (first_field e refl) ∙ field_kept (field one 0) i (build_below b accepted k below r)))
      children_same (is_case_law e m l g) r =
          rw (kind_of_law e, e, same 0 (omega (arith, m)) (rw e refl))
          (clauses_typed_law e m (type_of b (field one 0)) (λ j h. clause_below b accepted k below r j (clause_element one j h)))

  module _ (bytes : Bytes b) where
    same_type_by : (d : ℕ) {f k q : ℕ} → k < d → SameClause b f k q → type_of form q ≡ type_of b k
    same_type_by zero h w = absurd (not-suc-le-zero h)
    same_type_by (suc d) {k} {q} h w =
        let l = (pair w.twin).below in
        type_from form (form_trees_pass b bytes accepted) q (twin_below b accepted w.twin)
        ∙ type_same w (λ i g n. same_type_by d (omega (arith, h, part_smaller b accepted k l i g n)) ((clauses_down b bytes accepted).down i g n w))
        (record_of b accepted k l) refl
        ∙ sym (type_from b (trees_pass b accepted) k l)

    pub same_type : {f k q : ℕ} → SameClause b f k q → type_of form q ≡ type_of b k
    same_type w = same_type_by (nodes b) (pair w.twin).below w

    pub same_children : {f k q : ℕ} → SameClause b f k q
        → children_typed form (type_of form) (node_record form q) ≡ children_typed b (type_of b) (node_record b k)
    same_children {k} w =
        children_same w (λ i l n. same_type ((clauses_down b bytes accepted).down i l n w)) (record_of b accepted k (pair w.twin).below) refl
