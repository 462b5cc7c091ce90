-- Laws of the types of nodes and of what a node asks of its children: what each is by the node's kind. What was read of the record, and
-- what a test answered, stand as variables with an equation.
use mathlib.Core.Path.{◌≡◌, refl, ap, ◌∙◌}
use Prim.Native.Nat.{ℕ, ◌+◌, ◌-◌, ◌≤◌, ◌<◌}
use mathlib.Core.List.{List}
use mathlib.Core.Bool.{Bool, true, false}
use lib.Dec.{eqb}
use borrow.Author.Tests.{le-leb, lt-leb, eq-eqb, ne_eqb}
use Rattle.definitions.specs.SheetKinds
use Rattle.definitions.specs.Records.{kind_of, field, field_count}
use Rattle.definitions.specs.Lists.{all_of}
use Rattle.definitions.specs.Layouts.{nodes, item_record, function_record, owner_of}
use Rattle.definitions.specs.References.{clauses, clause_constructor}
use Rattle.definitions.specs.SheetRules.{clause_within}
use Rattle.definitions.specs.Types.{number_type, own_type, result_type, parameter_type, pattern_type, type_by, arguments_typed, clauses_typed, children_typed}
use Rattle.definitions.specs.declared.Layout.TheVariants.{Sheet}

-- the type of node k
module _ (b : List ℕ) (of : ℕ → ℕ) (k : ℕ) (rec : List ℕ) {i : ℕ} (ei : i ≡ kind_of rec) where
  pub parameter_by : {y : ℕ} → i ≡ SheetKinds.parameter → y ≡ parameter_type b (owner_of Sheet b k) (field rec 0) → y ≡ type_by b of k rec
  unfolding type_by
  parameter_by e h = rw (← ei, e) h

  pub pattern_by : {y : ℕ} → i ≡ SheetKinds.pattern_variable → y ≡ pattern_type b (field rec 0) (clause_within b (nodes b) k) → y ≡ type_by b of k rec
  unfolding type_by
  pattern_by e h = rw (← ei, e) h

  pub conditional_by : {y : ℕ} → i ≡ SheetKinds.conditional → y ≡ of (field rec 1) → y ≡ type_by b of k rec
  unfolding type_by
  conditional_by e h = rw (← ei, e) h

  pub call_by : {y : ℕ} → i ≡ SheetKinds.call → y ≡ result_type b (field rec 0) → y ≡ type_by b of k rec
  unfolding type_by
  call_by e h = rw (← ei, e) h

  pub build_by : {y : ℕ} → i ≡ SheetKinds.build → y ≡ own_type b (field rec 0) → y ≡ type_by b of k rec
  unfolding type_by
  build_by e h = rw (← ei, e) h

  pub case_by : {y : ℕ} → i ≡ SheetKinds.case_of → y ≡ result_type b (owner_of Sheet b k) → y ≡ type_by b of k rec
  unfolding type_by
  case_by e h = rw (← ei, e) h

  pub number_by : (i ≡ SheetKinds.parameter → ⊥) → (i ≡ SheetKinds.pattern_variable → ⊥) → (i ≡ SheetKinds.conditional → ⊥)
      → (i ≡ SheetKinds.call → ⊥) → (i ≡ SheetKinds.build → ⊥) → (i ≡ SheetKinds.case_of → ⊥) → number_type ≡ type_by b of k rec
  unfolding type_by
  number_by p q c f n m =
      rw (
        ← ei,
        ne_eqb i SheetKinds.parameter p,
        ne_eqb i SheetKinds.pattern_variable q,
        ne_eqb i SheetKinds.conditional c,
        ne_eqb i SheetKinds.call f,
        ne_eqb i SheetKinds.build n,
        ne_eqb i SheetKinds.case_of m,
      )
      refl

-- the arguments, by their tests
pub arguments_tested : (of given : ℕ → ℕ) (rec : List ℕ) {t : Bool} → t ≡ all_of (field_count rec - 1) (λ i. eqb (of (field rec (1 + i))) (given i))
    → t ≡ arguments_typed of given rec
unfolding arguments_typed
arguments_tested of given rec e = e

-- what a node asks of its children
module _ (b : List ℕ) (of : ℕ → ℕ) (rec : List ℕ) {i : ℕ} (ei : i ≡ kind_of rec) where
  module _ (e : i ≡ SheetKinds.operator) {x : ℕ} (ex : x ≡ of (field rec 1)) where
    pub left_no_number : (x ≡ number_type → ⊥) → false ≡ children_typed b of rec
    unfolding children_typed
    left_no_number h = rw (← ei, e, ← ex, ne_eqb x number_type h) refl

    pub right_tested : {y : ℕ} → x ≡ number_type → y ≡ of (field rec 2) → eqb y number_type ≡ children_typed b of rec
    unfolding children_typed
    right_tested h g = rw (← ei, e, ← ex, eq-eqb x number_type h, ← g) refl

  module _ (e : i ≡ SheetKinds.conditional) {x : ℕ} (ex : x ≡ of (field rec 0)) where
    pub condition_no_number : (x ≡ number_type → ⊥) → false ≡ children_typed b of rec
    unfolding children_typed
    condition_no_number h = rw (← ei, e, ← ex, ne_eqb x number_type h) refl

    pub arms_tested : {y z : ℕ} → x ≡ number_type → y ≡ of (field rec 1) → z ≡ of (field rec 2) → eqb y z ≡ children_typed b of rec
    unfolding children_typed
    arms_tested h g k = rw (← ei, e, ← ex, eq-eqb x number_type h, ← g, ← k) refl

  -- by the types that the callee's, or the constructor's, record has
  pub call_tested : i ≡ SheetKinds.call → {callee : List ℕ} → callee ≡ function_record Sheet b (field rec 0)
      → {t : Bool} → t ≡ arguments_typed of (λ j. field callee (3 + j)) rec → t ≡ children_typed b of rec
  unfolding children_typed
  call_tested e c h = rw (← ei, e) (h ∙ ap (λ (d : List ℕ). arguments_typed of (λ j. field d (3 + j)) rec) c)

  pub build_tested : i ≡ SheetKinds.build → {declared : List ℕ} → declared ≡ item_record Sheet b (field rec 0)
      → {t : Bool} → t ≡ arguments_typed of (λ j. field declared (2 + j)) rec → t ≡ children_typed b of rec
  unfolding children_typed
  build_tested e c h = rw (← ei, e) (h ∙ ap (λ (d : List ℕ). arguments_typed of (λ j. field d (2 + j)) rec) c)

  module _ (e : i ≡ SheetKinds.case_of) {x : ℕ} (ex : x ≡ of (field rec 0)) where
    pub scrutinee_number : x < 1 → false ≡ children_typed b of rec
    unfolding children_typed clauses_typed
    scrutinee_number h = rw (← ei, e, ← ex, lt-leb 1 x h) refl

    pub clauses_tested : {t : Bool} → 1 ≤ x → t ≡ all_of (clauses rec) (λ j. eqb (own_type b (clause_constructor rec j)) x) → t ≡ children_typed b of rec
    unfolding children_typed clauses_typed
    clauses_tested h g = rw (← ei, e, ← ex, le-leb 1 x h) g

  pub childless : (i ≡ SheetKinds.operator → ⊥) → (i ≡ SheetKinds.conditional → ⊥) → (i ≡ SheetKinds.call → ⊥) → (i ≡ SheetKinds.build → ⊥)
      → (i ≡ SheetKinds.case_of → ⊥) → true ≡ children_typed b of rec
  unfolding children_typed
  childless o c f n m =
      rw (
        ← ei,
        ne_eqb i SheetKinds.operator o,
        ne_eqb i SheetKinds.conditional c,
        ne_eqb i SheetKinds.call f,
        ne_eqb i SheetKinds.build n,
        ne_eqb i SheetKinds.case_of m,
      )
      refl
