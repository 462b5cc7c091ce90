-- What the translation of an accepted sheet writes fits: each word in 16 bits, each record's length in its field.
use mathlib.Core.Path.{◌≡◌, refl}
use Prim.Native.Nat.{ℕ, suc, ◌≤◌, ◌<◌}
use mathlib.Core.List.{List, [], ◌∷◌}
use mathlib.Core.Option.{some}
use native.Mathlib.Omega.{arith}
use lib.ListN.{get_elem?}
use mir.Syntax.{w32}
use Rattle.definitions.specs.Bytes.{words32}
use Rattle.definitions.specs.Layouts.{functions, nodes, node_count, body_of, owner_of}
use Rattle.definitions.specs.References.{parameters}
use Rattle.definitions.specs.NodeFields.{Clause}
use Rattle.definitions.specs.Operators.{residue}
use Rattle.definitions.specs.SheetNodes.{SheetNode, number, reading, parameter, pattern_variable, operator, conditional, call, build, case_of, sheet_node_of, scrutinee_of}
use Rattle.definitions.specs.Checks.{sheet_verdict}
use Rattle.definitions.specs.Labels.{Labelling, label_of, actuals}
use Rattle.definitions.specs.Translate.{formal_of, formals, clause_words}
use Rattle.definitions.specs.declared.Layout.TheVariants.{Sheet}
use Rattle.definitions.specs.Verdict.{Accepted}
use Rattle.accepted.specs.Child.{Child, left, right, condition, if_nonzero, if_zero, component, scrutinee, clause}
use Rattle.accepted.proofs.Sums.{sum_term, sum_limit}
use Rattle.accepted.proofs.Head.{readings_limit, items_limit, functions_limit, nodes_limit}
use Rattle.accepted.proofs.Sections.{parameters_limit, arity_limit, node_counts_sum}
use Rattle.accepted.proofs.Owners.{owner_below, body_below}
use Rattle.accepted.proofs.Checks.{sheet_shape, trees_pass}
use Rattle.accepted.proofs.Names.{reading_below, parameter_below, call_below, build_below, build_count, operator_code_law}
use Rattle.accepted.proofs.Trees.{child_below}
use Rattle.accepted.proofs.Clauses.{clause_below, clauses_limit}
use Rattle.accepted.proofs.Patterns.{in_clause, clause_within_below, scrutinee_is, pattern_held}
use Rattle.operators.proofs.Residues.{residue_below}
use Rattle.readback.specs.TranslatedNode.{translated_fields}
use Rattle.readback.proofs.Made.{Short}
use Rattle.readback.proofs.Fields.{Fit, fit_none, fit_more, fit_below, clause_words_law}
use Rattle.readback.proofs.Signed.{number_fit}
use Rattle.readback.proofs.Labels.{label_below, actuals_limit, actuals_below}

-- fields that can be written
pub record Writable (fs : List ℕ) : Type 0 where
  pub short : Short fs
  pub fit : Fit fs

writable_one : (x : ℕ) → x < 65536 → Writable (x ∷ [])
writable_one x h = record { short = record { short = omega arith }; fit = fit_more x [] h fit_none }

writable_two : (x y : ℕ) → x < 65536 → y < 65536 → Writable (x ∷ y ∷ [])
writable_two x y h g = record { short = record { short = omega arith }; fit = fit_more x (y ∷ []) h (fit_more y [] g fit_none) }

writable_three : (x y z : ℕ) → x < 65536 → y < 65536 → z < 65536 → Writable (x ∷ y ∷ z ∷ [])
writable_three x y z h g k =
    record { short = record { short = omega arith }; fit = fit_more x (y ∷ z ∷ []) h (fit_more y (z ∷ []) g (fit_more z [] k fit_none)) }

fit_clauses : (cs : List Clause)
    → ((j : ℕ) (c : Clause) → get_elem? cs j ≡ some c → (c.constructor < 65536) × (c.node < 65536)) → Fit (clause_words cs)
unfolding clause_words
fit_clauses [] f = fit_none
fit_clauses (c ∷ cs) f =
    let node = c.node in
    fit_more c.constructor (node ∷ clause_words cs) (f 0 c refl).0
    (fit_more (node) (clause_words cs) (f 0 c refl).1 (fit_clauses cs (λ j d e. f (suc j) d e)))

-- the fields of a function's record
abbrev pub function_fields : List ℕ → ℕ → List ℕ
function_fields b f = node_count Sheet b f ∷ parameters b f ∷ []

module _ (b : List ℕ) (accepted : sheet_verdict b ≡ Accepted) where
  -- a formal is one of all, and there are at most 512
  pub formal_in_range : (f i : ℕ) → f < functions b → i < parameters b f → formal_of b f i < formals b
  unfolding formal_of formals
  formal_in_range f i h g = omega (arith, sum_term f (functions b) (parameters b) h)

  pub formals_limit : formals b ≤ 512
  unfolding formals
  formals_limit =
      let s = sheet_shape b accepted in
      omega (arith, sum_limit (functions b) 8 (parameters b) (λ f h. parameters_limit b s f h), functions_limit Sheet b s)

  -- the scrutinee that a pattern variable selects from is a node
  pub scrutinee_below : (k : ℕ) → k < nodes b → {i : ℕ} → sheet_node_of b k ≡ pattern_variable i → scrutinee_of b k < nodes b
  scrutinee_below k h e =
      let s = sheet_shape b accepted in
      let p = pattern_held b accepted k h e in
      let c = in_clause b accepted (nodes b) k p.constructor h p.within in
      let o = owner_below Sheet b s k h in
      rw (scrutinee_is b accepted k h c.body)
      (child_below b (trees_pass b accepted) (body_of Sheet b (owner_of Sheet b k)) (body_below Sheet b s (owner_of Sheet b k) o) c.body scrutinee)

  -- a pattern position is below 8
  pub position_limit : (k : ℕ) → k < nodes b → {i : ℕ} → sheet_node_of b k ≡ pattern_variable i → i < 8
  position_limit k h e =
      let p = pattern_held b accepted k h e in
      let c = clause_within_below b accepted (nodes b) k p.constructor h p.within in
      omega (arith, p.below, arity_limit b (sheet_shape b accepted) p.constructor c)

  -- a function's record
  pub function_writable : (f : ℕ) → f < functions b → Writable (function_fields b f)
  function_writable f h =
      let s = sheet_shape b accepted in
      writable_two (node_count Sheet b f) (parameters b f)
      (omega (arith, sum_term f (functions b) (node_count Sheet b) h, node_counts_sum Sheet b s, nodes_limit Sheet b s))
      (omega (arith, parameters_limit b s f h))

module _ (same : Labelling) (b : List ℕ) (accepted : sheet_verdict b ≡ Accepted) where
  -- a formal's record
  pub formal_writable : (f i : ℕ) → i < parameters b f → Writable (actuals same b f i)
  formal_writable f i h =
      let n = nodes_limit Sheet b (sheet_shape b accepted) in
      record {
        short = record { short = omega (arith, n, actuals_limit same b f i) };
        fit = fit_below (actuals same b f i) (nodes b) (omega (arith, n)) (λ l w e. actuals_below same b accepted f i l h e);
      }

  -- a node's record
  module _ (k : ℕ) (h : k < nodes b) where
    child_fits : {nd : SheetNode} {n : ℕ} → sheet_node_of b k ≡ nd → Child nd n → n < 65536
    child_fits e c = omega (arith, child_below b (trees_pass b accepted) k h e c, nodes_limit Sheet b (sheet_shape b accepted))

    fields_writable : (nd : SheetNode) → sheet_node_of b k ≡ nd → Writable (translated_fields same b k nd)
    unfolding translated_fields words32
    fields_writable (number z) e = record { short = record { short = omega arith }; fit = number_fit (residue w32 z) (residue_below w32 z) }
    fields_writable (reading i) e =
        writable_one i (omega (arith, reading_below b accepted k h e, readings_limit Sheet b (sheet_shape b accepted)))
    fields_writable (parameter i) e =
        let f = owner_of Sheet b k in
        writable_one (formal_of b f i)
        (omega (arith, formal_in_range b accepted f i (owner_below Sheet b (sheet_shape b accepted) k h) (parameter_below b accepted k h e), formals_limit b accepted))
    fields_writable (pattern_variable i) e =
        writable_two (scrutinee_of b k) (suc i)
        (omega (arith, scrutinee_below b accepted k h e, nodes_limit Sheet b (sheet_shape b accepted)))
        (omega (arith, position_limit b accepted k h e))
    fields_writable (operator o l r) e =
        writable_three o l r (omega (arith, operator_code_law b accepted k h e)) (child_fits e left) (child_fits e right)
    fields_writable (conditional n p q) e =
        writable_three n p q (child_fits e condition) (child_fits e if_nonzero) (child_fits e if_zero)
    fields_writable (call f ns) e =
        writable_two (label_of same b f k) f
        (omega (arith, label_below same b f k h, nodes_limit Sheet b (sheet_shape b accepted)))
        (omega (arith, call_below b accepted k h e, functions_limit Sheet b (sheet_shape b accepted)))
    fields_writable (build c ns) e =
        let s = sheet_shape b accepted in
        let g = build_below b accepted k h e in
        record {
          short = record { short = omega (arith, build_count b accepted k h e, arity_limit b s c g) };
          fit = fit_more c ns (omega (arith, g, items_limit Sheet b s)) (fit_below ns 65536 (omega arith) (λ i w p. child_fits e (component i p)));
        }
    fields_writable (case_of n cs) e =
        let s = sheet_shape b accepted in
        record {
          short = record { short = omega (arith, clause_words_law cs, clauses_limit b accepted k h e) };
          fit =
              fit_more n (clause_words cs) (child_fits e scrutinee)
              (fit_clauses cs (λ j c p. (omega (arith, clause_below b accepted k h e j p, items_limit Sheet b s), child_fits e (clause j p refl))));
        }

    pub node_writable : Writable (translated_fields same b k (sheet_node_of b k))
    node_writable = fields_writable (sheet_node_of b k) refl
