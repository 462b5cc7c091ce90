-- Laws of outcomes: those of endings that agree are equal, and a sheet's own answer is a number, a
-- constructor or one of the run faults that the meaning has.
use mathlib.Core.Path.{◌≡◌, refl}
use Prim.Native.Nat.{ℕ, ◌≤◌}
use mathlib.Core.List.{List}
use mathlib.Core.Bool.{true}
use native.Mathlib.Omega.{arith}
use lib.IntN.{ℤ}
use Rattle.definitions.specs.Numbers.{number_wanted, constructor_wanted, no_clause, zero_divisor, no_actual, no_field, overflow, is_fault, is_answer}
use Rattle.definitions.specs.Operators.{Computed}
use Rattle.definitions.specs.SheetNodes.{SheetNode}
use Rattle.definitions.specs.Outcomes.{Outcome, number_outcome, constructor_outcome, end_outcome}
use Rattle.definitions.specs.Checks.{sheet_verdict}
use Rattle.definitions.specs.Labels.{never_shared}
use Rattle.definitions.specs.Translate.{unshared_translation}
use Rattle.definitions.specs.Rule.{Ending}
use Rattle.definitions.specs.Run.{ending_outcome}
use Rattle.laws.proofs.Ranges.{within_both}
use Rattle.laws.proofs.Classes.{fault_answer}
use Rattle.agreement.specs.Meaning.{Setting, End, end_of, outcome_of, OwnAnswer}
use Rattle.agreement.specs.Meaning
use Rattle.agreement.specs.Meaning.{Means, number_itself, reading_value, parameter_argument, call_body, build_itself, case_chosen, case_unmatched, case_number, case_fault}
use Rattle.agreement.specs.Meaning.{pattern_field, if_nonzero_law, if_zero_law, if_constructor, if_fault, operator_numbers, left_constructor, left_fault, right_constructor, right_fault}
use Rattle.definitions.specs.Verdict.{Accepted}
use Rattle.readback.proofs.Nodes.{tag_read}
use Rattle.rule_laws.specs.Reads.{Shows, an_integer, a_constructor, an_end}
use Rattle.rule_laws.proofs.Computing.{Result, a_number, out_of_range, no_divisor, computed_result}
use Rattle.agreement.specs.Corresponds.{Agrees, integers, constructors, ends}

-- an ending over cells and the end that the sheet's node means
pub same_meant : {b : List ℕ} {rs : List ℤ} {A : ℕ → ℕ → List ℕ → Type 0} {x : Ending ℕ} {e : Ending (List ℕ)} {d : End} → sheet_verdict b ≡ Accepted
    → Shows A x e → Agrees b rs e d
    → ending_outcome (unshared_translation b) x ≡ outcome_of d
unfolding ending_outcome outcome_of unshared_translation
same_meant accepted an_integer integers = refl
same_meant {b} accepted (a_constructor s) (constructors {k} a h) = rw (tag_read never_shared b accepted k a.below h) refl
same_meant accepted an_end ends = refl

-- an end that is a value, or one of the run faults that the meaning has
data OwnEnd : End → Type 0 where
  a_value : {v : Meaning.Value} → OwnEnd (Meaning.value v)
  a_fault : {n : ℕ} → number_wanted ≤ n → n ≤ zero_divisor → OwnEnd (Meaning.fault n)
  an_overflow : OwnEnd (Meaning.fault overflow)

own_result : {o : ℕ} {x y : ℤ} {c : Computed} → Result o x y c → OwnEnd (end_of c)
unfolding end_of
own_result a_number = a_value
own_result (out_of_range e h) = an_overflow
own_result no_divisor = a_fault {n = zero_divisor} (omega arith) (omega arith)

-- what a node means is such an end
own_meant : {b : List ℕ} {rs : List ℤ} {nd : SheetNode} {s : Setting} {d : End} → Means b rs nd s d → OwnEnd d
own_meant number_itself = a_value
own_meant reading_value = a_value
own_meant build_itself = a_value
own_meant (parameter_argument p m) = own_meant m
own_meant (pattern_field p m) = own_meant m
own_meant (call_body m) = own_meant m
own_meant (case_chosen m p m') = own_meant m'
own_meant (case_unmatched m p) = a_fault {n = no_clause} (omega arith) (omega arith)
own_meant (case_number m) = a_fault {n = constructor_wanted} (omega arith) (omega arith)
own_meant (case_fault m) = own_meant m
own_meant (if_nonzero_law m p m') = own_meant m'
own_meant (if_zero_law m p m') = own_meant m'
own_meant (if_constructor m) = a_fault {n = number_wanted} (omega arith) (omega arith)
own_meant (if_fault m) = own_meant m
own_meant (operator_numbers {o} {x} {y} m m') = own_result (computed_result o x y)
own_meant (left_constructor m) = a_fault {n = number_wanted} (omega arith) (omega arith)
own_meant (left_fault m) = own_meant m
own_meant (right_constructor m m') = a_fault {n = number_wanted} (omega arith) (omega arith)
own_meant (right_fault m m') = own_meant m'

-- so a sheet's own answer is an answer, and never the fault 18 or 19
answer_end : (d : End) → OwnEnd d → is_answer (outcome_of d).outcome ≡ true
unfolding outcome_of number_outcome constructor_outcome end_outcome is_answer is_fault
answer_end (Meaning.value (Meaning.integer z)) a_value = refl
answer_end (Meaning.value (Meaning.built c ns s)) a_value = refl
answer_end (Meaning.fault n) (a_fault l g) = fault_answer n (within_both number_wanted overflow n l (omega arith))
answer_end (Meaning.fault n) an_overflow = fault_answer overflow (within_both number_wanted overflow overflow (omega arith) (omega arith))

pub own_answer_law : {b : List ℕ} {rs : List ℤ} {a : Outcome} → OwnAnswer b rs a → is_answer a.outcome ≡ true
own_answer_law o = rw o.agrees at (answer_end o.end (own_meant o.means))

listed_end_law : (d : End) → OwnEnd d → ((outcome_of d).outcome ≡ no_actual → ⊥) × ((outcome_of d).outcome ≡ no_field → ⊥)
unfolding outcome_of number_outcome constructor_outcome end_outcome
listed_end_law (Meaning.value (Meaning.integer z)) a_value = (λ e. omega (arith, e), λ e. omega (arith, e))
listed_end_law (Meaning.value (Meaning.built c ns s)) a_value = (λ e. omega (arith, e), λ e. omega (arith, e))
listed_end_law (Meaning.fault n) (a_fault l g) = (λ e. omega (arith, e), λ e. omega (arith, e))
listed_end_law (Meaning.fault n) an_overflow = (λ e. omega (arith, e), λ e. omega (arith, e))

pub own_listed : {b : List ℕ} {rs : List ℤ} {a : Outcome} → OwnAnswer b rs a
    → (a.outcome ≡ no_actual → ⊥) × (a.outcome ≡ no_field → ⊥)
own_listed o = rw o.agrees at (listed_end_law o.end (own_meant o.means))
