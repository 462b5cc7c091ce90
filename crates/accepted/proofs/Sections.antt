-- The sections of a file whose shape is accepted: the kinds of its constructors or formals, of its functions and of its
-- nodes, and the counts that a function's and a constructor's record hold.
use mathlib.Core.Path.{◌≡◌, refl, ◌∙◌}
use Prim.Native.Nat.{ℕ, suc, ◌+◌, ◌-◌, ◌≤◌, ◌<◌}
use mathlib.Core.List.{List}
use mathlib.Core.Bool.{Bool, true, false, cond, ◌&&◌, and-eq-true_iff}
use native.Mathlib.Omega.{arith}
use lib.Dec.{leb, eqb}
use borrow.Author.Tests.{leb-true, eqb-true, le-leb, lt-leb, le-ltb, lt-ltb, eq-eqb, ne_eqb}
use Rattle.definitions.specs.Records.{kind_of}
use Rattle.definitions.specs.SheetKinds
use Rattle.definitions.specs.TranslationKinds
use Rattle.definitions.specs.Lists.{sum_of}
use Rattle.definitions.specs.Layouts.{is_typed, items, functions, nodes, first_function, first_node, constructor_kind, function_kind, section_kind, node_kind, is_due}
use Rattle.definitions.specs.Layouts.{item_record, function_record, node_record, node_count}
use Rattle.definitions.specs.References.{parameters, arity}
use Rattle.definitions.specs.Shape.{run_counts, parameter_counts, typed_constructor_counts, typed_function_counts, counts, file_shape}
use Rattle.definitions.specs.Ranges.{within}
use Rattle.definitions.specs.declared.Layout.{Layout}
use Rattle.definitions.specs.declared.Layout.TheVariants.{Sheet, Translation}
use Rattle.definitions.specs.Verdict.{Accepted}
use Rattle.accepted.proofs.Records.{kind_due, counts_right}
use Rattle.laws.proofs.Ranges.{within_by}
use Rattle.accepted.proofs.Head.{functions_least}

-- a record between the head and the nodes has its section's kind
section_kind_law : (y : Layout) (b : List ℕ) (r k : ℕ) → 0 < r → r < first_node b → is_due y b r k ≡ true → k ≡ section_kind y b r
unfolding is_due
section_kind_law y b r k l h e =
    eqb-true k (section_kind y b r) (rw (ne_eqb r 0 (λ p. omega arith), lt-ltb r (first_node b) h) at e)

-- a node's kind is one of nine
pub record NodeKind (y : Layout) (k : ℕ) : Type 0 where
  pub least : node_kind y ≤ k
  pub greatest : k ≤ node_kind y + 8

node_kind_by : (y : Layout) (b : List ℕ) (r k : ℕ) → 0 < r → first_node b ≤ r → is_due y b r k ≡ true → NodeKind y k
unfolding is_due
node_kind_by y b r k l h e =
    let t = leb (node_kind y) k && leb k (node_kind y + 8) in
    let u : t ≡ true = rw (ne_eqb r 0 (λ p. omega arith), le-ltb r (first_node b) h) at e in
    let p = (and-eq-true_iff (leb (node_kind y) k) (leb k (node_kind y + 8))).0 u in
    record { least = leb-true (node_kind y) k p.0; greatest = leb-true k (node_kind y + 8) p.1 }

pub node_kind_law : (y : Layout) (b : List ℕ) → file_shape y b ≡ Accepted → (k : ℕ) → k < nodes b
    → NodeKind y (kind_of (node_record b k))
node_kind_law y b e k h =
    node_kind_by y b (first_node b + k) (kind_of (node_record b k)) (omega arith) (omega arith) (kind_due y b e (first_node b + k) (omega arith))

-- constructors and functions of a sheet
module _ (b : List ℕ) (accepted : file_shape Sheet b ≡ Accepted) where
  pub constructor_kind_law : (c : ℕ) → c < items b → kind_of (item_record Sheet b c) ≡ constructor_kind b
  unfolding section_kind
  constructor_kind_law c h =
      section_kind_law Sheet b (1 + c) _ (omega arith) (omega arith) (kind_due Sheet b accepted (1 + c) (omega arith))
      ∙ rw (le-leb (1 + c) (items b) (omega arith)) refl

  pub sheet_function_kind : (f : ℕ) → f < functions b → kind_of (function_record Sheet b f) ≡ function_kind b
  unfolding section_kind
  sheet_function_kind f h =
      section_kind_law Sheet b (1 + items b + f) _ (omega arith) (omega arith) (kind_due Sheet b accepted (1 + items b + f) (omega arith))
      ∙ rw (lt-leb (1 + items b + f) (items b) (omega arith)) refl

  -- the counts of a constructor, with types and without
  module _ (c : ℕ) (h : c < items b) where
    pub typed_constructor_kind : is_typed b ≡ true → kind_of (item_record Sheet b c) ≡ SheetKinds.typed_constructor
    unfolding constructor_kind
    typed_constructor_kind t = constructor_kind_law c h ∙ rw t refl

    pub typed_constructor_counts_law : is_typed b ≡ true → typed_constructor_counts (item_record Sheet b c) ≡ true
    unfolding counts
    typed_constructor_counts_law t =
        rw (ne_eqb (1 + c) 0 (λ p. omega (arith, p)), typed_constructor_kind t) at (counts_right Sheet b accepted (1 + c) (omega arith))

    constructor_counts : is_typed b ≡ false → within 0 8 (arity b c) ≡ true
    unfolding counts constructor_kind
    constructor_counts t =
        let k : kind_of (item_record Sheet b c) ≡ SheetKinds.constructor = constructor_kind_law c h ∙ rw t refl in
        rw (ne_eqb (1 + c) 0 (λ p. omega (arith, p)), k) at (counts_right Sheet b accepted (1 + c) (omega arith))

    arity_within : (t : Bool) → is_typed b ≡ t → within 0 8 (arity b c) ≡ true
    unfolding typed_constructor_counts
    arity_within true t = ((and-eq-true_iff _ _).0 ((and-eq-true_iff _ _).0 (typed_constructor_counts_law t)).0).0
    arity_within false t = constructor_counts t

  -- "arity 0..8"
  pub arity_limit : (c : ℕ) → c < items b → arity b c ≤ 8
  arity_limit c h = (within_by 0 8 (arity b c) (arity_within c h (is_typed b) refl)).greatest

  -- the counts of a function, with types and without
  module _ (f : ℕ) (h : f < functions b) where
    pub typed_function_kind : is_typed b ≡ true → kind_of (function_record Sheet b f) ≡ SheetKinds.typed_function
    unfolding function_kind
    typed_function_kind t = sheet_function_kind f h ∙ rw t refl

    pub typed_function_counts_law : is_typed b ≡ true → typed_function_counts Sheet b (1 + items b + f) (function_record Sheet b f) ≡ true
    unfolding counts
    typed_function_counts_law t =
        rw (ne_eqb (1 + items b + f) 0 (λ p. omega (arith, p)), typed_function_kind t)
        at (counts_right Sheet b accepted (1 + items b + f) (omega arith))

    abbrev untyped_counts : Bool
    untyped_counts = within 0 8 (parameters b f) && run_counts Sheet b (1 + items b + f) (function_record Sheet b f)

    function_counts : is_typed b ≡ false → untyped_counts ≡ true
    unfolding counts function_kind
    function_counts t =
        let k : kind_of (function_record Sheet b f) ≡ SheetKinds.function = sheet_function_kind f h ∙ rw t refl in
        rw (ne_eqb (1 + items b + f) 0 (λ p. omega (arith, p)), k) at (counts_right Sheet b accepted (1 + items b + f) (omega arith))

    counts_within : (t : Bool) → is_typed b ≡ t → untyped_counts ≡ true
    unfolding typed_function_counts
    counts_within true t = ((and-eq-true_iff _ _).0 (typed_function_counts_law t)).0
    counts_within false t = function_counts t

  sheet_counts : (f : ℕ) → f < functions b
      → (within 0 8 (parameters b f) && run_counts Sheet b (1 + items b + f) (function_record Sheet b f)) ≡ true
  sheet_counts f h = counts_within f h (is_typed b) refl

  -- "parameters 0..8"
  pub parameters_limit : (f : ℕ) → f < functions b → parameters b f ≤ 8
  parameters_limit f h =
      (within_by 0 8 (parameters b f)
      ((and-eq-true_iff _ _).0 (sheet_counts f h)).0).greatest

-- functions and formals of a translation
module _ (b : List ℕ) (accepted : file_shape Translation b ≡ Accepted) where
  pub translation_function_kind : (f : ℕ) → f < functions b → kind_of (function_record Translation b f) ≡ TranslationKinds.function
  unfolding section_kind
  translation_function_kind f h =
      section_kind_law Translation b (1 + f) _ (omega arith) (omega arith) (kind_due Translation b accepted (1 + f) (omega arith))
      ∙ rw (le-leb (1 + f) (functions b) (omega arith)) refl

  pub formal_kind : (p : ℕ) → p < items b → kind_of (item_record Translation b p) ≡ TranslationKinds.formal_list
  unfolding section_kind
  formal_kind p h =
      section_kind_law Translation b (1 + functions b + p) _ (omega arith) (omega arith) (kind_due Translation b accepted (1 + functions b + p) (omega arith))
      ∙ rw (lt-leb (1 + functions b + p) (functions b) (omega arith)) refl

  pub translation_counts : (f : ℕ) → f < functions b
      → (parameter_counts b (1 + f) (function_record Translation b f) && run_counts Translation b (1 + f) (function_record Translation b f)) ≡ true
  unfolding counts
  translation_counts f h =
      rw (ne_eqb (1 + f) 0 (λ p. omega (arith, p)), translation_function_kind f h) at (counts_right Translation b accepted (1 + f) (omega arith))

-- the counts of a function
run_counts_law : (y : Layout) (b : List ℕ) → file_shape y b ≡ Accepted → (f : ℕ) → f < functions b
    → run_counts y b (first_function y b + f) (function_record y b f) ≡ true
run_counts_law Sheet b e f h =
    ((and-eq-true_iff (within 0 8 (parameters b f)) _).0 (sheet_counts b e f h)).1
run_counts_law Translation b e f h =
    ((and-eq-true_iff (parameter_counts b (1 + f) (function_record Translation b f)) _).0 (translation_counts b e f h)).1

module _ (y : Layout) (b : List ℕ) (accepted : file_shape y b ≡ Accepted) where
  -- "node count n from 1"
  pub node_count_least : (f : ℕ) → f < functions b → 1 ≤ node_count y b f
  unfolding run_counts
  node_count_least f h =
      leb-true 1 (node_count y b f) ((and-eq-true_iff _ _).0 (run_counts_law y b accepted f h)).0

  -- "the counts sum to N"
  sum_at : (f : ℕ) → suc f ≡ functions b → sum_of (functions b) (node_count y b) ≡ nodes b
  unfolding run_counts
  sum_at f p =
      let sums = eqb (sum_of (functions b) (node_count y b)) (nodes b) in
      let last = cond (eqb (suc (first_function y b + f)) (first_function y b + functions b)) sums true in
      let c = (and-eq-true_iff (leb 1 (node_count y b f)) last).0 (run_counts_law y b accepted f (omega (arith, p))) in
      eqb-true (sum_of (functions b) (node_count y b)) (nodes b)
      (rw (eq-eqb (suc (first_function y b + f)) (first_function y b + functions b) (omega (arith, p))) at c.1)

  pub node_counts_sum : sum_of (functions b) (node_count y b) ≡ nodes b
  node_counts_sum = let p = functions_least y b accepted in sum_at (functions b - 1) (omega arith)
