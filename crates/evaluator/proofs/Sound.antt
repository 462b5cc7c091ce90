-- The evaluator is sound: what it ends with, at any fuel, is what the node means in that setting.
use mathlib.Core.Path.{◌≡◌, refl, subst}
use Prim.Native.Nat.{ℕ, zero, suc}
use mathlib.Core.List.{List}
use mathlib.Core.Option.{Option, none, some, none-ne-some, some-injective}
use mathlib.Core.Bool.{Bool, true, false, cond}
use lib.IntN.{ℤ}
use Rattle.definitions.specs.Operators.{computed, is_zero}
use Rattle.definitions.specs.NodeFields.{Clause, chosen}
use Rattle.definitions.specs.SheetNodes.{SheetNode, number, reading, parameter, pattern_variable, operator, conditional, call, build, case_of, sheet_node_of}
use Rattle.agreement.specs.Meaning.{Setting, holding, Closure, argument_of, held_field, integer, built, End, value, fault, end_of}
use Rattle.agreement.specs.Meaning.{Means, number_itself, reading_value, parameter_argument, call_body, build_itself, pattern_field}
use Rattle.agreement.specs.Meaning.{case_chosen, case_unmatched, case_number, case_fault, if_nonzero_law, if_zero_law, if_constructor, if_fault}
use Rattle.agreement.specs.Meaning.{operator_numbers, left_constructor, left_fault, right_constructor, right_fault}
use Rattle.evaluator.specs.Evaluator.{Evaluator, number_due, constructor_due, clause_due, closure_due, end_by, end_within}

-- an end that is equal to one that is meant is meant
ending : {b : List ℕ} {rs : List ℤ} {n : SheetNode} {s : Setting} {e e' : End}
    → Means b rs n s e → Path (Option End) (some e) (some e') → Means b rs n s e'
ending {b} {rs} {n} {s} {e} {e'} m h = subst (Means b rs n s) (some-injective e e' h) m

-- an evaluator whose ends are all meant
record Sound (b : List ℕ) (rs : List ℤ) (go : Evaluator) : Type 0 where
  means : {n : SheetNode} {s : Setting} {e : End} → go n s ≡ some e → Means b rs n s e

module _ {b : List ℕ} {rs : List ℤ} (go : Evaluator) (sound : Sound b rs go) where
  -- an unevaluated node that is due
  closure_sound : {e : End} (c : Option Closure) → closure_due b go c ≡ some e
      → (d : Closure) × (c ≡ some d) × Means b rs (sheet_node_of b d.node) d.setting e
  unfolding closure_due
  closure_sound none h = absurd (none-ne-some _ h)
  closure_sound (some d) h = (d, refl, sound.means h)

  -- an operator, by what its left and its right node end with
  operator_sound : {o l r : ℕ} {s : Setting} {e : End} (left right : Option End)
      → go (sheet_node_of b l) s ≡ left → go (sheet_node_of b r) s ≡ right
      → number_due left (λ x. number_due right (λ y. some (end_of (computed o x y)))) ≡ some e
      → Means b rs (operator o l r) s e
  unfolding number_due
  operator_sound none right p q h = absurd (none-ne-some _ h)
  operator_sound (some (value (integer x))) none p q h = absurd (none-ne-some _ h)
  operator_sound (some (value (integer x))) (some (value (integer y))) p q h =
      ending (operator_numbers (sound.means p) (sound.means q)) h
  operator_sound (some (value (integer x))) (some (value (built c ns t))) p q h =
      ending (right_constructor (sound.means p) (sound.means q)) h
  operator_sound (some (value (integer x))) (some (fault n)) p q h = ending (right_fault (sound.means p) (sound.means q)) h
  operator_sound (some (value (built c ns t))) right p q h = ending (left_constructor (sound.means p)) h
  operator_sound (some (fault n)) right p q h = ending (left_fault (sound.means p)) h

  -- the chosen node of an if
  branch_sound : {n p q : ℕ} {s : Setting} {e : End} (z : ℤ) (t : Bool)
      → is_zero z ≡ t → Means b rs (sheet_node_of b n) s (value (integer z))
      → go (sheet_node_of b (cond t q p)) s ≡ some e
      → Means b rs (conditional n p q) s e
  branch_sound z true w m h = if_zero_law m w (sound.means h)
  branch_sound z false w m h = if_nonzero_law m w (sound.means h)

  -- an if, by what its condition ends with
  conditional_sound : {n p q : ℕ} {s : Setting} {e : End} (condition : Option End)
      → go (sheet_node_of b n) s ≡ condition
      → number_due condition (λ z. go (sheet_node_of b (cond (is_zero z) q p)) s) ≡ some e
      → Means b rs (conditional n p q) s e
  unfolding number_due
  conditional_sound none w h = absurd (none-ne-some _ h)
  conditional_sound (some (value (integer z))) w h = branch_sound z (is_zero z) refl (sound.means w) h
  conditional_sound (some (value (built c ns t))) w h = ending (if_constructor (sound.means w)) h
  conditional_sound (some (fault x)) w h = ending (if_fault (sound.means w)) h

  -- the chosen clause of a case
  clause_sound : {n c : ℕ} {cs : List Clause} {ns : List ℕ} {s t : Setting} {e : End} (m : Option ℕ)
      → chosen cs c ≡ m → Means b rs (sheet_node_of b n) s (value (built c ns t))
      → clause_due m (λ k. go (sheet_node_of b k) (holding s ns t)) ≡ some e
      → Means b rs (case_of n cs) s e
  unfolding clause_due
  clause_sound none w m h = ending (case_unmatched m w) h
  clause_sound (some k) w m h = case_chosen m w (sound.means h)

  -- a case, by what its scrutinee ends with
  case_sound : {n : ℕ} {cs : List Clause} {s : Setting} {e : End} (scrutinee : Option End)
      → go (sheet_node_of b n) s ≡ scrutinee
      → constructor_due scrutinee (λ c ns t. clause_due (chosen cs c) (λ m. go (sheet_node_of b m) (holding s ns t))) ≡ some e
      → Means b rs (case_of n cs) s e
  unfolding constructor_due
  case_sound none w h = absurd (none-ne-some _ h)
  case_sound (some (value (integer z))) w h = ending (case_number (sound.means w)) h
  case_sound {cs} (some (value (built c ns t))) w h = clause_sound (chosen cs c) refl (sound.means w) h
  case_sound (some (fault x)) w h = ending (case_fault (sound.means w)) h

  -- one node, where the nodes that it asks for are worked out soundly
  node_sound : (n : SheetNode) (s : Setting) {e : End} → end_by b rs go n s ≡ some e → Means b rs n s e
  unfolding end_by
  node_sound (number z) s h = ending number_itself h
  node_sound (reading i) s h = ending reading_value h
  node_sound (parameter i) s h = let d = closure_sound (argument_of s i) h in parameter_argument d.1 d.2
  node_sound (pattern_variable i) s h = let d = closure_sound (held_field s i) h in pattern_field d.1 d.2
  node_sound (operator o l r) s h = operator_sound (go (sheet_node_of b l) s) (go (sheet_node_of b r) s) refl refl h
  node_sound (conditional n p q) s h = conditional_sound (go (sheet_node_of b n) s) refl h
  node_sound (call f ns) s h = call_body (sound.means h)
  node_sound (build c ns) s h = ending build_itself h
  node_sound (case_of n cs) s h = case_sound (go (sheet_node_of b n) s) refl h

-- what the evaluator ends with is what the node means
pub sound : {b : List ℕ} {rs : List ℤ} (fuel : ℕ) (n : SheetNode) (s : Setting) {e : End}
    → end_within b rs fuel n s ≡ some e → Means b rs n s e
unfolding end_within
sound zero n s h = absurd (none-ne-some _ h)
sound {b} {rs} (suc fuel) n s h =
    node_sound (end_within b rs fuel) (record { means = λ {n = m} {s = t} p. sound fuel m t p }) n s h
