-- Laws of the counts and types in a typed constructor's and a typed function's record: what each is where the tests went one way or
-- the other. What was read of the record, and what a test answered, stand as variables with an equation.
use mathlib.Core.Path.{◌≡◌, refl}
use Prim.Native.Nat.{ℕ, ◌+◌, ◌-◌, ◌≤◌, ◌<◌}
use mathlib.Core.List.{List}
use mathlib.Core.Bool.{Bool, true, false}
use native.Mathlib.Omega.{arith}
use borrow.Author.Tests.{eq-eqb, ne_eqb}
use Rattle.definitions.specs.Sizes.{most_fields, most_types}
use Rattle.definitions.specs.Records.{field, field_count}
use Rattle.definitions.specs.Lists.{all_of}
use Rattle.definitions.specs.Ranges.{within}
use Rattle.definitions.specs.Shape.{run_counts, types_right, typed_constructor_counts, typed_function_counts}
use Rattle.definitions.specs.declared.Layout.{Layout}
use Rattle.laws.proofs.Ranges.{within_both, within_below, within_above}

-- a type that was read
pub type_test : {x y : ℕ} → x ≡ y → x ≤ most_types → within 0 most_types y ≡ true
type_test {x} {y} e h = rw (← e) (within_both 0 most_types x (omega arith) h)

pub type_not : {x y : ℕ} → x ≡ y → most_types < x → within 0 most_types y ≡ false
type_not {x} {y} e h = rw (← e) (within_above 0 most_types x h)

-- the number of fields and the types
module _ (rec : List ℕ) (n : ℕ) {c : ℕ} (ec : c ≡ field_count rec) where
  pub types_other_count : (c ≡ n → ⊥) → false ≡ types_right rec n
  unfolding types_right
  types_other_count h = rw (← ec, ne_eqb c n h) refl

  pub types_tested : c ≡ n → {t : Bool} → t ≡ all_of (n - 2) (λ i. within 0 most_types (field rec (2 + i))) → t ≡ types_right rec n
  unfolding types_right
  types_tested h e = rw (← ec, eq-eqb c n h) e

-- a constructor's counts
module _ (rec : List ℕ) {a : ℕ} (ea : a ≡ field rec 0) where
  pub arity_above : most_fields < a → false ≡ typed_constructor_counts rec
  unfolding typed_constructor_counts
  arity_above h = rw (← ea, within_above 0 most_fields a h) refl

  module _ (ha : a ≤ most_fields) {o : ℕ} (eo : o ≡ field rec 1) where
    pub own_type_none : o < 1 → false ≡ typed_constructor_counts rec
    unfolding typed_constructor_counts
    own_type_none h = rw (← ea, within_both 0 most_fields a (omega arith) ha, ← eo, within_below 1 most_types o h) refl

    pub own_type_above : most_types < o → false ≡ typed_constructor_counts rec
    unfolding typed_constructor_counts
    own_type_above h = rw (← ea, within_both 0 most_fields a (omega arith) ha, ← eo, within_above 1 most_types o h) refl

    pub constructor_types : 1 ≤ o → o ≤ most_types → {t : Bool} → t ≡ types_right rec (2 + a) → t ≡ typed_constructor_counts rec
    unfolding typed_constructor_counts
    constructor_types l g e = rw (← ea, within_both 0 most_fields a (omega arith) ha, ← eo, within_both 1 most_types o l g) e

-- a function's counts
module _ (y : Layout) (b rec : List ℕ) (r : ℕ) {a : ℕ} (ea : a ≡ field rec 0) where
  pub typed_parameters_above : most_fields < a → false ≡ typed_function_counts y b r rec
  unfolding typed_function_counts
  typed_parameters_above h = rw (← ea, within_above 0 most_fields a h) refl

  module _ (ha : a ≤ most_fields) {t : Bool} (et : t ≡ run_counts y b r rec) where
    pub typed_run_not : t ≡ false → false ≡ typed_function_counts y b r rec
    unfolding typed_function_counts
    typed_run_not h = rw (← ea, within_both 0 most_fields a (omega arith) ha, ← et, h) refl

    pub function_types : t ≡ true → {u : Bool} → u ≡ types_right rec (3 + a) → u ≡ typed_function_counts y b r rec
    unfolding typed_function_counts
    function_types h e = rw (← ea, within_both 0 most_fields a (omega arith) ha, ← et, h) e
