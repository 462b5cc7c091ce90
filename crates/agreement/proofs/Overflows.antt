-- A sheet's own answer is 20 exactly where working it out meets a product out of range.
use mathlib.Core.Path.{◌≡◌, refl, ap, ◌∙◌}
use mathlib.Core.Logic.{◌↔◌}
use Prim.Native.Nat.{ℕ}
use mathlib.Core.List.{List}
use mathlib.Core.Bool.{false}
use native.Mathlib.Omega.{arith}
use lib.IntN.{ℤ, ◌*ℤ◌}
use mir.Syntax.{w32}
use Rattle.definitions.specs.Numbers.{zero_divisor, overflow}
use Rattle.definitions.specs.OperatorCodes.{multiply}
use Rattle.definitions.specs.Operators.{Computed, gives, faults, in_signed_range, product, computed}
use Rattle.definitions.specs.Outcomes.{Outcome, number_outcome, constructor_outcome, end_outcome}
use Rattle.definitions.specs.SheetNodes.{SheetNode, operator, sheet_node_of}
use Rattle.agreement.specs.Meaning.{Setting, Value, End, value, fault, integer, built, end_of, outcome_of, OwnAnswer}
use Rattle.agreement.specs.Meaning.{Means, number_itself, reading_value, parameter_argument, call_body, build_itself, case_chosen, case_unmatched, case_number, case_fault}
use Rattle.agreement.specs.Meaning.{pattern_field, if_nonzero_law, if_zero_law, if_constructor, if_fault, operator_numbers, left_constructor, left_fault, right_constructor, right_fault}
use Rattle.agreement.specs.Overflows.{WorksOut, itself, by_argument, by_body, by_scrutinee, by_clause, by_field, by_condition, by_second, by_third, by_left, by_right}
use Rattle.agreement.specs.Overflows.{Overflows, SheetOverflows}
use Rattle.rule_laws.proofs.Computing.{Result, a_number, out_of_range, no_divisor, computed_result}

-- 20 is the result for a product out of range, and for nothing else
overflow_by : {o : ℕ} {x y : ℤ} {c : Computed} → Result o x y c → c ≡ faults overflow → (o ≡ multiply) × (in_signed_range w32 (x *ℤ y) ≡ false)
overflow_by a_number e = absurd (let z : ◌≡◌ {A = ℕ} 0 1 = cc in omega arith)
overflow_by (out_of_range m h) e = (m, h)
overflow_by no_divisor e = absurd (let z : zero_divisor ≡ overflow = cc in omega arith)

overflow_of : (o : ℕ) (x y : ℤ) → (o ≡ multiply) × (in_signed_range w32 (x *ℤ y) ≡ false) → computed o x y ≡ faults overflow
unfolding computed product
overflow_of o x y p = rw (p.0, p.1) refl

pub computed_overflow : (o : ℕ) (x y : ℤ) → (computed o x y ≡ faults overflow) ↔ ((o ≡ multiply) × (in_signed_range w32 (x *ℤ y) ≡ false))
computed_overflow o x y = (overflow_by (computed_result o x y), overflow_of o x y)

-- a fault of a node that is worked out comes out
fault_out : {b : List ℕ} {rs : List ℤ} {nd : SheetNode} {t : Setting} {nd' : SheetNode} {s : Setting} {n : ℕ} → WorksOut b rs nd t nd' s → Means b rs nd t (fault n) → Means b rs nd' s (fault n)
fault_out itself m = m
fault_out (by_argument e w) m = parameter_argument e (fault_out w m)
fault_out (by_body w) m = call_body (fault_out w m)
fault_out (by_scrutinee w) m = case_fault (fault_out w m)
fault_out (by_clause c e w) m = case_chosen c e (fault_out w m)
fault_out (by_field e w) m = pattern_field e (fault_out w m)
fault_out (by_condition w) m = if_fault (fault_out w m)
fault_out (by_second c e w) m = if_nonzero_law c e (fault_out w m)
fault_out (by_third c e w) m = if_zero_law c e (fault_out w m)
fault_out (by_left w) m = left_fault (fault_out w m)
fault_out (by_right l w) m = right_fault l (fault_out w m)

overflow_means : {b : List ℕ} {rs : List ℤ} {nd : SheetNode} {s : Setting} → Overflows b rs nd s → Means b rs nd s (fault overflow)
unfolding end_of
overflow_means o =
    fault_out o.worked
    (rw (overflow_of multiply o.x o.y (refl, o.outside)) at (operator_numbers {o = multiply} o.left_number o.right_number))

-- where 20 comes out, such a multiplication is worked out: on the way from another node
onward : {b : List ℕ} {rs : List ℤ} {nd nd' : SheetNode} {s s' : Setting}
    → ((target : SheetNode) (t : Setting) → WorksOut b rs target t nd s → WorksOut b rs target t nd' s') → Overflows b rs nd s → Overflows b rs nd' s'
onward f o =
    record {
      left = o.left;
      right = o.right;
      setting = o.setting;
      x = o.x;
      y = o.y;
      worked = f _ _ o.worked;
      left_number = o.left_number;
      right_number = o.right_number;
      outside = o.outside;
    }

-- or at an operator itself
result_faults : (c : Computed) {n : ℕ} → end_of c ≡ fault n → c ≡ faults n
unfolding end_of
result_faults (gives z) e = absurd (let z : ◌≡◌ {A = ℕ} 0 1 = cc in omega arith)
result_faults (faults n) e = cc

at_operator : {b : List ℕ} {rs : List ℤ} {l r : ℕ} {s : Setting} (o : ℕ) (x y : ℤ)
    → Means b rs (sheet_node_of b l) s (value (integer x)) → Means b rs (sheet_node_of b r) s (value (integer y))
    → (o ≡ multiply) × (in_signed_range w32 (x *ℤ y) ≡ false) → Overflows b rs (operator o l r) s
at_operator {b} {rs} {l} {r} {s} o x y m m' p =
    rw p.0
    (record {
      left = l;
      right = r;
      setting = s;
      x = x;
      y = y;
      worked = itself;
      left_number = m;
      right_number = m';
      outside = p.1;
    })

no_value : {v : Value} {n : ℕ} → value v ≡ fault n → ⊥
no_value e = let z : ◌≡◌ {A = ℕ} 0 1 = cc in omega arith

other_fault : {n m : ℕ} → (n ≡ m → ⊥) → ◌≡◌ {A = End} (fault n) (fault m) → ⊥
other_fault k e = k (cc)

overflow_found : {b : List ℕ} {rs : List ℤ} {nd : SheetNode} {s : Setting} {d : End} → Means b rs nd s d → d ≡ fault overflow → Overflows b rs nd s
overflow_found number_itself e = absurd (no_value e)
overflow_found reading_value e = absurd (no_value e)
overflow_found build_itself e = absurd (no_value e)
overflow_found (parameter_argument p m) e = onward (λ target t w. by_argument p w) (overflow_found m e)
overflow_found (pattern_field p m) e = onward (λ target t w. by_field p w) (overflow_found m e)
overflow_found (call_body m) e = onward (λ target t w. by_body w) (overflow_found m e)
overflow_found (case_chosen m p m') e = onward (λ target t w. by_clause m p w) (overflow_found m' e)
overflow_found (case_unmatched m p) e = absurd (other_fault (λ f. omega (arith, f)) e)
overflow_found (case_number m) e = absurd (other_fault (λ f. omega (arith, f)) e)
overflow_found (case_fault m) e = onward (λ target t w. by_scrutinee w) (overflow_found m e)
overflow_found (if_nonzero_law m p m') e = onward (λ target t w. by_second m p w) (overflow_found m' e)
overflow_found (if_zero_law m p m') e = onward (λ target t w. by_third m p w) (overflow_found m' e)
overflow_found (if_constructor m) e = absurd (other_fault (λ f. omega (arith, f)) e)
overflow_found (if_fault m) e = onward (λ target t w. by_condition w) (overflow_found m e)
overflow_found (operator_numbers {o} {l} {r} {x} {y} m m') e = at_operator o x y m m' ((computed_overflow o x y).0 (result_faults (computed o x y) e))
overflow_found (left_constructor m) e = absurd (other_fault (λ f. omega (arith, f)) e)
overflow_found (left_fault m) e = onward (λ target t w. by_left w) (overflow_found m e)
overflow_found (right_constructor m m') e = absurd (other_fault (λ f. omega (arith, f)) e)
overflow_found (right_fault m m') e = onward (λ target t w. by_right m w) (overflow_found m' e)

-- so for the sheet's own answer
end_overflows : (d : End) → (outcome_of d).outcome ≡ overflow → d ≡ fault overflow
unfolding outcome_of number_outcome constructor_outcome end_outcome
end_overflows (value (integer z)) e = absurd (omega (arith, e))
end_overflows (value (built c ns s)) e = absurd (omega (arith, e))
end_overflows (fault n) e = ap fault e

pub own_overflows : {b : List ℕ} {rs : List ℤ} {a : Outcome} → OwnAnswer b rs a → a.outcome ≡ overflow → SheetOverflows b rs
own_overflows o e = overflow_found o.means (end_overflows o.end (ap (λ (a : Outcome). a.outcome) o.agrees ∙ e))

pub overflow_own : {b : List ℕ} {rs : List ℤ} → SheetOverflows b rs → OwnAnswer b rs (end_outcome overflow)
unfolding outcome_of
overflow_own o = record { end = fault overflow; means = overflow_means o; agrees = refl }
