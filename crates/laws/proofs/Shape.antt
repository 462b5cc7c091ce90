-- Laws of the layouts' numbers and of the checks of a record's shape: what each is where the tests went one way or the
-- other. What was read of the file, and what a test answered, stand as variables with an equation.
use mathlib.Core.Path.{◌≡◌, refl, ap, ◌∙◌}
use Prim.Native.Nat.{ℕ, suc, ◌+◌, ◌-◌, ◌≤◌, ◌<◌}
use mathlib.Core.List.{List}
use mathlib.Core.Bool.{Bool, true, false, ◌&&◌}
use native.Mathlib.Omega.{arith}
use lib.ListN.{length}
use lib.Dec.{leb, eqb}
use borrow.Author.Tests.{le-leb, lt-leb, le-ltb, lt-ltb, eq-eqb, ne_eqb, leb-true, leb-false}
use Rattle.definitions.specs.OperatorCodes
use Rattle.definitions.specs.SheetKinds
use Rattle.definitions.specs.TranslationKinds
use Rattle.definitions.specs.Sizes.{most_nodes}
use Rattle.definitions.specs.Numbers.{bad_count, bad_record, truncated}
use Rattle.definitions.specs.Bytes.{word}
use Rattle.definitions.specs.Records.{record_at, kind_of, field}
use Rattle.definitions.specs.Kinds.{row_of, allows}
use Rattle.definitions.specs.Lists.{sum_of}
use Rattle.definitions.specs.Verdicts.{◌and_then◌, require}
use Rattle.definitions.specs.Layouts.{readings, items, functions, nodes, is_typed, first_item, first_function, first_node, head_kind, constructor_kind, function_kind, section_kind, node_kind, is_due}
use Rattle.definitions.specs.Layouts.{function_record, count_field, node_count, parameter_count}
use Rattle.definitions.specs.Shape.{item_limit, head_counts, run_counts, parameter_counts, typed_constructor_counts, typed_function_counts, counts, operator_code, shape_at}
use Rattle.definitions.specs.Ranges.{within}
use Rattle.laws.proofs.Ranges.{within_both, within_below, within_above}
use Rattle.definitions.specs.declared.Layout.{Layout}
use Rattle.definitions.specs.declared.Layout.TheVariants.{Sheet, Translation}
use Rattle.definitions.specs.Verdict.{Accepted, Refused}

-- the first item and the first function, by layout
pub item_of_sheet : (y : Layout) (b : List ℕ) → y ≡ Sheet → 1 ≡ first_item y b
item_of_sheet y b e = rw e refl

pub item_of_translation : (y : Layout) (b : List ℕ) (n : ℕ) → y ≡ Translation → n ≡ functions b → 1 + n ≡ first_item y b
item_of_translation y b n e f = rw (e, f) refl

pub function_of_sheet : (y : Layout) (b : List ℕ) (n : ℕ) → y ≡ Sheet → n ≡ items b → 1 + n ≡ first_function y b
function_of_sheet y b n e f = rw (e, f) refl

pub function_of_translation : (y : Layout) (b : List ℕ) → y ≡ Translation → 1 ≡ first_function y b
function_of_translation y b e = rw e refl

-- whether a sheet is typed, by the kind that was read of the record after the head
module _ (b : List ℕ) {k : ℕ} (ek : k ≡ word b 14) where
  pub typed_constructor_first : k ≡ SheetKinds.typed_constructor → true ≡ is_typed b
  unfolding is_typed
  typed_constructor_first e = rw (← ek, e) refl

  pub typed_function_first : (k ≡ SheetKinds.typed_constructor → ⊥) → eqb k SheetKinds.typed_function ≡ is_typed b
  unfolding is_typed
  typed_function_first e = rw (← ek, ne_eqb k SheetKinds.typed_constructor e) refl

-- the kinds of constructors and functions, by whether the sheet is typed
module _ (b : List ℕ) {t : Bool} (et : t ≡ is_typed b) where
  pub constructor_typed : t ≡ true → SheetKinds.typed_constructor ≡ constructor_kind b
  unfolding constructor_kind
  constructor_typed e = rw (← et, e) refl

  pub constructor_untyped : t ≡ false → SheetKinds.constructor ≡ constructor_kind b
  unfolding constructor_kind
  constructor_untyped e = rw (← et, e) refl

  pub function_typed : t ≡ true → SheetKinds.typed_function ≡ function_kind b
  unfolding function_kind
  function_typed e = rw (← et, e) refl

  pub function_untyped : t ≡ false → SheetKinds.function ≡ function_kind b
  unfolding function_kind
  function_untyped e = rw (← et, e) refl

-- the kind of a record before the nodes
pub section_constructor : (y : Layout) (b : List ℕ) (r n k : ℕ) → y ≡ Sheet → n ≡ items b → r ≤ n → k ≡ constructor_kind b → k ≡ section_kind y b r
unfolding section_kind
section_constructor y b r n k e f h g = rw (e, ← f, le-leb r n h) g

pub section_sheet_function : (y : Layout) (b : List ℕ) (r n k : ℕ) → y ≡ Sheet → n ≡ items b → n < r → k ≡ function_kind b → k ≡ section_kind y b r
unfolding section_kind
section_sheet_function y b r n k e f h g = rw (e, ← f, lt-leb r n h) g

pub section_function : (y : Layout) (b : List ℕ) (r n : ℕ) → y ≡ Translation → n ≡ functions b → r ≤ n → TranslationKinds.function ≡ section_kind y b r
unfolding section_kind
section_function y b r n e f h = rw (e, ← f, le-leb r n h) refl

pub section_formal : (y : Layout) (b : List ℕ) (r n : ℕ) → y ≡ Translation → n ≡ functions b → n < r → TranslationKinds.formal_list ≡ section_kind y b r
unfolding section_kind
section_formal y b r n e f h = rw (e, ← f, lt-leb r n h) refl

-- whether a kind is due
pub due_head : (y : Layout) (b : List ℕ) (r k h : ℕ) → r ≡ 0 → h ≡ head_kind y → eqb k h ≡ is_due y b r k
unfolding is_due
due_head y b r k h e f = rw (eq-eqb r 0 e, f) refl

pub due_section : (y : Layout) (b : List ℕ) (r k n s : ℕ) → (r ≡ 0 → ⊥) → n ≡ first_node b → r < n → s ≡ section_kind y b r → eqb k s ≡ is_due y b r k
unfolding is_due
due_section y b r k n s e f h g = rw (ne_eqb r 0 e, ← f, lt-ltb r n h, g) refl

due_by_node : (y : Layout) (b : List ℕ) (r k n : ℕ) → (r ≡ 0 → ⊥) → n ≡ first_node b → n ≤ r → (leb (node_kind y) k && leb k (node_kind y + 8)) ≡ is_due y b r k
unfolding is_due
due_by_node y b r k n e f h = rw (ne_eqb r 0 e, ← f, le-ltb r n h) refl

pub due_below : (y : Layout) (b : List ℕ) (r k n l : ℕ) → (r ≡ 0 → ⊥) → n ≡ first_node b → n ≤ r → l ≡ node_kind y → k < l → false ≡ is_due y b r k
due_below y b r k n l e f h g q = rw (← due_by_node y b r k n e f h, ← g, lt-leb l k q) refl

difference_test : (k l : ℕ) (t : Bool) → l ≤ k → leb (k - l) 8 ≡ t → leb (k - l) 8 ≡ leb k (l + 8)
difference_test k l true h e = rw (e, le-leb k (l + 8) (omega (arith, leb-true (k - l) 8 e))) refl
difference_test k l false h e = rw (e, lt-leb k (l + 8) (omega (arith, leb-false (k - l) 8 e))) refl

pub due_node : (y : Layout) (b : List ℕ) (r k n l : ℕ) → (r ≡ 0 → ⊥) → n ≡ first_node b → n ≤ r → l ≡ node_kind y → l ≤ k → leb (k - l) 8 ≡ is_due y b r k
due_node y b r k n l e f h g q = rw (← due_by_node y b r k n e f h, ← g, le-leb l k q) (difference_test k l (leb (k - l) 8) q refl)

-- the head's counts
module _ (y : Layout) (b : List ℕ) where
  pub readings_above : (i : ℕ) → i ≡ readings b → 32 < i → false ≡ head_counts y b
  unfolding head_counts
  readings_above i e h = rw (← e, within_above 0 32 i h) refl

  module _ (i : ℕ) (ei : i ≡ readings b) (hi : i ≤ 32) where
    readings_right : within 0 32 (readings b) ≡ true
    readings_right = rw (← ei) (within_both 0 32 i (omega arith) hi)

    pub items_above : (k m : ℕ) → m ≡ item_limit y → k ≡ items b → m < k → false ≡ head_counts y b
    unfolding head_counts
    items_above k m q e h = rw (readings_right, ← e, ← q, within_above 0 m k h) refl

    module _ (k m : ℕ) (em : m ≡ item_limit y) (ek : k ≡ items b) (hk : k ≤ m) where
      items_right : within 0 (item_limit y) (items b) ≡ true
      items_right = rw (← ek, ← em) (within_both 0 m k (omega arith) hk)

      pub functions_below : (f : ℕ) → f ≡ functions b → f < 1 → false ≡ head_counts y b
      unfolding head_counts
      functions_below f e h = rw (readings_right, items_right, ← e, within_below 1 64 f h) refl

      pub functions_above : (f : ℕ) → f ≡ functions b → 64 < f → false ≡ head_counts y b
      unfolding head_counts
      functions_above f e h = rw (readings_right, items_right, ← e, within_above 1 64 f h) refl

      module _ (f : ℕ) (ef : f ≡ functions b) (lf : 1 ≤ f) (hf : f ≤ 64) where
        functions_right : within 1 64 (functions b) ≡ true
        functions_right = rw (← ef) (within_both 1 64 f lf hf)

        pub nodes_below : (n : ℕ) → n ≡ nodes b → n < 1 → false ≡ head_counts y b
        unfolding head_counts
        nodes_below n e h = rw (readings_right, items_right, functions_right, ← e, within_below 1 most_nodes n h) refl

        pub nodes_test : (n : ℕ) → n ≡ nodes b → 1 ≤ n → leb n most_nodes ≡ head_counts y b
        unfolding head_counts within
        nodes_test n e h = rw (readings_right, items_right, functions_right, ← e, le-leb 1 n h) refl

-- the operator code
pub code_sheet : (rec : List ℕ) (k o : ℕ) → k ≡ kind_of rec → k ≡ SheetKinds.operator → o ≡ field rec 0 → leb o OperatorCodes.greatest ≡ operator_code rec
unfolding operator_code within
code_sheet rec k o e f g = rw (← e, f, ← g, le-leb 0 o (omega arith)) refl

pub code_translation : (rec : List ℕ) (k o : ℕ) → k ≡ kind_of rec → k ≡ TranslationKinds.operator → o ≡ field rec 0 → leb o OperatorCodes.greatest ≡ operator_code rec
unfolding operator_code within
code_translation rec k o e f g = rw (← e, f, ← g, le-leb 0 o (omega arith)) refl

pub code_none : (rec : List ℕ) (k : ℕ) → k ≡ kind_of rec → (k ≡ SheetKinds.operator → ⊥) → (k ≡ TranslationKinds.operator → ⊥) → true ≡ operator_code rec
unfolding operator_code
code_none rec k e f g = rw (← e, ne_eqb k SheetKinds.operator f, ne_eqb k TranslationKinds.operator g) refl

-- a function's counts
pub run_empty : (y : Layout) (b rec : List ℕ) (r n j : ℕ) → j ≡ count_field y → n ≡ field rec j → n < 1 → false ≡ run_counts y b r rec
unfolding run_counts
run_empty y b rec r n j q e h = rw (← q, ← e, lt-leb 1 n h) refl

pub run_last : (y : Layout) (b rec : List ℕ) (r n j f c s m : ℕ) → j ≡ count_field y → n ≡ field rec j → 1 ≤ n
    → f ≡ first_function y b → c ≡ functions b → r + 1 ≡ f + c → s ≡ sum_of (functions b) (λ i. field (function_record y b i) j) → m ≡ nodes b
    → eqb s m ≡ run_counts y b r rec
unfolding run_counts
run_last y b rec r n j f c s m q e h i k l g o =
    let z : s ≡ sum_of (functions b) (node_count y b) = g ∙ ap (λ x. sum_of (functions b) (λ i. field (function_record y b i) x)) q in
    rw (← q, ← e, le-leb 1 n h, ← i, ← k, eq-eqb (suc r) (f + c) (omega (arith, l)), z, k, o) refl

pub run_inner : (y : Layout) (b rec : List ℕ) (r n j f c : ℕ) → j ≡ count_field y → n ≡ field rec j → 1 ≤ n
    → f ≡ first_function y b → c ≡ functions b → (r + 1 ≡ f + c → ⊥) → true ≡ run_counts y b r rec
unfolding run_counts
run_inner y b rec r n j f c q e h i k l =
    rw (← q, ← e, le-leb 1 n h, ← i, ← k, ne_eqb (suc r) (f + c) (λ p. l (omega (arith, p)))) refl

-- and its parameter counts in a translation
pub parameters_above : (b rec : List ℕ) (r n : ℕ) → n ≡ field rec 1 → 8 < n → false ≡ parameter_counts b r rec
unfolding parameter_counts
parameters_above b rec r n e h = rw (← e, within_above 0 8 n h) refl

pub parameters_last : (b rec : List ℕ) (r n f c s m : ℕ) → n ≡ field rec 1 → n ≤ 8
    → f ≡ first_function Translation b → c ≡ functions b → r + 1 ≡ f + c → s ≡ sum_of (functions b) (parameter_count b) → m ≡ items b
    → eqb s m ≡ parameter_counts b r rec
unfolding parameter_counts
parameters_last b rec r n f c s m e h i k l g o =
    rw (← e, within_both 0 8 n (omega arith) h, eq-eqb (suc r) (1 + functions b) (omega (arith, i, k, l)), g, o) refl

pub parameters_inner : (b rec : List ℕ) (r n f c : ℕ) → n ≡ field rec 1 → n ≤ 8
    → f ≡ first_function Translation b → c ≡ functions b → (r + 1 ≡ f + c → ⊥) → true ≡ parameter_counts b r rec
unfolding parameter_counts
parameters_inner b rec r n f c e h i k l =
    rw (← e, within_both 0 8 n (omega arith) h, ne_eqb (suc r) (1 + functions b) (λ p. l (omega (arith, i, k, p)))) refl

-- the counts of a record
pub counts_head : (y : Layout) (b rec : List ℕ) (r : ℕ) (t : Bool) → r ≡ 0 → t ≡ head_counts y b → t ≡ counts y b r rec
unfolding counts
counts_head y b rec r t e f = rw (eq-eqb r 0 e, f) refl

module _ (y : Layout) (b rec : List ℕ) (r k : ℕ) (er : r ≡ 0 → ⊥) (ek : k ≡ kind_of rec) where
  pub counts_constructor : (a : ℕ) → k ≡ 2 → a ≡ field rec 0 → leb a 8 ≡ counts y b r rec
  unfolding counts within
  counts_constructor a e f = rw (ne_eqb r 0 er, ← ek, e, ← f, le-leb 0 a (omega arith)) refl

  pub counts_parameters : (a : ℕ) → k ≡ 3 → a ≡ field rec 0 → 8 < a → false ≡ counts y b r rec
  unfolding counts
  counts_parameters a e f h = rw (ne_eqb r 0 er, ← ek, e, ← f, within_above 0 8 a h) refl

  pub counts_sheet_run : (a : ℕ) (t : Bool) → k ≡ 3 → a ≡ field rec 0 → a ≤ 8 → t ≡ run_counts y b r rec → t ≡ counts y b r rec
  unfolding counts
  counts_sheet_run a t e f h g = rw (ne_eqb r 0 er, ← ek, e, ← f, within_both 0 8 a (omega arith) h, g) refl

  pub counts_formals : (t : Bool) → k ≡ TranslationKinds.function → t ≡ parameter_counts b r rec → t ≡ false → false ≡ counts y b r rec
  unfolding counts
  counts_formals t e f h = rw (ne_eqb r 0 er, ← ek, e, ← f, h) refl

  pub counts_run : (t u : Bool) → k ≡ TranslationKinds.function → t ≡ parameter_counts b r rec → t ≡ true → u ≡ run_counts y b r rec
      → u ≡ counts y b r rec
  unfolding counts
  counts_run t u e f h g = rw (ne_eqb r 0 er, ← ek, e, ← f, h, g) refl

  pub counts_typed_constructor : (t : Bool) → k ≡ SheetKinds.typed_constructor → t ≡ typed_constructor_counts rec → t ≡ counts y b r rec
  unfolding counts
  counts_typed_constructor t e f = rw (ne_eqb r 0 er, ← ek, e, f) refl

  pub counts_typed_function : (t : Bool) → k ≡ SheetKinds.typed_function → t ≡ typed_function_counts y b r rec → t ≡ counts y b r rec
  unfolding counts
  counts_typed_function t e f = rw (ne_eqb r 0 er, ← ek, e, f) refl

  pub counts_other : (k ≡ 2 → ⊥) → (k ≡ 3 → ⊥) → (k ≡ 6 → ⊥) → (k ≡ 7 → ⊥) → (k ≡ TranslationKinds.function → ⊥) → true ≡ counts y b r rec
  unfolding counts
  counts_other e f p q g = rw (ne_eqb r 0 er, ← ek, ne_eqb k 2 e, ne_eqb k 3 f, ne_eqb k 6 p, ne_eqb k 7 q, ne_eqb k TranslationKinds.function g) refl

-- the checks of the record that starts at a place, in their order
module _ (y : Layout) (b : List ℕ) (r at : ℕ) (ha : at ≤ length b) where
  pub shape_short : length b - at < 4 → Refused truncated r ≡ shape_at y b r at
  unfolding shape_at ◌and_then◌ require
  shape_short h = rw (lt-leb (at + 4) (length b) (omega arith)) refl

  module _ (hl : 4 ≤ length b - at) (k n : ℕ) (ek : k ≡ word b (at + 2)) (en : n ≡ word b at) where
    there : leb (at + 4) (length b) ≡ true
    there = le-leb (at + 4) (length b) (omega arith)

    pub shape_not_due : (t : Bool) → t ≡ is_due y b r k → t ≡ false → Refused bad_record r ≡ shape_at y b r at
    unfolding shape_at ◌and_then◌ require
    shape_not_due t e f = rw (there, ← ek, ← e, f) refl

    module _ (t : Bool) (et : t ≡ is_due y b r k) (ht : t ≡ true) where
      pub shape_length : (u : Bool) → u ≡ allows (row_of k) n → u ≡ false → Refused bad_record r ≡ shape_at y b r at
      unfolding shape_at ◌and_then◌ require
      shape_length u e f = rw (there, ← ek, ← en, ← et, ht, ← e, f) refl

      module _ (u : Bool) (eu : u ≡ allows (row_of k) n) (hu : u ≡ true) where
        pub shape_cut : length b - at < n → Refused truncated r ≡ shape_at y b r at
        unfolding shape_at ◌and_then◌ require
        shape_cut h = rw (there, ← ek, ← en, ← et, ht, ← eu, hu, lt-leb (at + n) (length b) (omega arith)) refl

        module _ (hn : n ≤ length b - at) (rec : List ℕ) (er : rec ≡ record_at b at) where
          inside : leb (at + n) (length b) ≡ true
          inside = le-leb (at + n) (length b) (omega arith)

          pub shape_code : (v : Bool) → v ≡ operator_code rec → v ≡ false → Refused bad_record r ≡ shape_at y b r at
          unfolding shape_at ◌and_then◌ require
          shape_code v e f = rw (there, ← ek, ← en, ← et, ht, ← eu, hu, inside, ← er, ← e, f) refl

          module _ (v : Bool) (ev : v ≡ operator_code rec) (hv : v ≡ true) where
            pub shape_counts : (w : Bool) → w ≡ counts y b r rec → w ≡ false → Refused bad_count r ≡ shape_at y b r at
            unfolding shape_at ◌and_then◌ require
            shape_counts w e f = rw (there, ← ek, ← en, ← et, ht, ← eu, hu, inside, ← er, ← ev, hv, ← e, f) refl

            pub shape_accepted : (w : Bool) → w ≡ counts y b r rec → w ≡ true → Accepted ≡ shape_at y b r at
            unfolding shape_at ◌and_then◌ require
            shape_accepted w e f = rw (there, ← ek, ← en, ← et, ht, ← eu, hu, inside, ← er, ← ev, hv, ← e, f) refl
