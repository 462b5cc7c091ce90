-- The evaluator is complete: what a node means, it ends with at some fuel.
use mathlib.Core.Path.{◌≡◌, refl}
use Prim.Native.Nat.{ℕ, suc, ◌+◌}
use native.Mathlib.Omega.{arith}
use mathlib.Core.List.{List}
use mathlib.Core.Option.{some}
use lib.IntN.{ℤ}
use Rattle.definitions.specs.SheetNodes.{SheetNode}
use Rattle.agreement.specs.Meaning.{Setting, End}
use Rattle.agreement.specs.Meaning.{Means, number_itself, reading_value, parameter_argument, call_body, build_itself, pattern_field}
use Rattle.agreement.specs.Meaning.{case_chosen, case_unmatched, case_number, case_fault, if_nonzero_law, if_zero_law, if_constructor, if_fault}
use Rattle.agreement.specs.Meaning.{operator_numbers, left_constructor, left_fault, right_constructor, right_fault}
use Rattle.evaluator.specs.Evaluator.{number_due, constructor_due, clause_due, closure_due, end_by, end_within}
use Rattle.evaluator.proofs.Monotone.{monotone}

-- the evaluator ends with `e`, at some fuel
pub record EndsAtFuel (b : List ℕ) (rs : List ℤ) (n : SheetNode) (s : Setting) (e : End) : Type 0 where
  pub fuel : ℕ
  pub ends : end_within b rs fuel n s ≡ some e

-- what follows where two nodes end at one fuel follows where they end
pub at_one_fuel : {b : List ℕ} {rs : List ℤ} {n n' : SheetNode} {s s' : Setting} {e e' : End} {R : Type 0}
    → EndsAtFuel b rs n s e → EndsAtFuel b rs n' s' e'
    → ((fuel : ℕ) → end_within b rs fuel n s ≡ some e → end_within b rs fuel n' s' ≡ some e' → R)
    → R
at_one_fuel {b} {rs} {n} {n'} {s} {s'} p q r =
    r (p.fuel + q.fuel)
    (monotone b rs p.fuel (p.fuel + q.fuel) (omega arith) n s p.ends)
    (monotone b rs q.fuel (p.fuel + q.fuel) (omega arith) n' s' q.ends)

-- a node ends one deeper than the nodes that it asks for: none, one, or two
deeper : {b : List ℕ} {rs : List ℤ} {n : SheetNode} {s : Setting} {e : End} (fuel : ℕ)
    → end_by b rs (end_within b rs fuel) n s ≡ some e
    → EndsAtFuel b rs n s e
unfolding end_within
deeper fuel h = record { fuel = suc fuel; ends = h }

after : {b : List ℕ} {rs : List ℤ} {n m : SheetNode} {s t : Setting} {e d : End}
    → EndsAtFuel b rs m t d
    → ((fuel : ℕ) → end_within b rs fuel m t ≡ some d → end_by b rs (end_within b rs fuel) n s ≡ some e)
    → EndsAtFuel b rs n s e
after p step = deeper p.fuel (step p.fuel p.ends)

after_both : {b : List ℕ} {rs : List ℤ} {n m m' : SheetNode} {s t t' : Setting} {e d d' : End}
    → EndsAtFuel b rs m t d → EndsAtFuel b rs m' t' d'
    → ((fuel : ℕ) → end_within b rs fuel m t ≡ some d → end_within b rs fuel m' t' ≡ some d'
    → end_by b rs (end_within b rs fuel) n s ≡ some e)
    → EndsAtFuel b rs n s e
after_both p q step = at_one_fuel p q (λ fuel h h'. deeper fuel (step fuel h h'))

-- what a node means, the evaluator ends with
pub complete : {b : List ℕ} {rs : List ℤ} {n : SheetNode} {s : Setting} {e : End} → Means b rs n s e → EndsAtFuel b rs n s e
unfolding end_by number_due constructor_due clause_due closure_due
complete number_itself = deeper 0 refl
complete reading_value = deeper 0 refl
complete build_itself = deeper 0 refl
complete (parameter_argument p m) = after (complete m) (λ fuel h. rw p h)
complete (pattern_field p m) = after (complete m) (λ fuel h. rw p h)
complete (call_body m) = after (complete m) (λ fuel h. h)
complete (case_chosen m p m') = after_both (complete m) (complete m') (λ fuel h h'. rw (h, p) h')
complete (case_unmatched m p) = after (complete m) (λ fuel h. rw (h, p))
complete (case_number m) = after (complete m) (λ fuel h. rw h)
complete (case_fault m) = after (complete m) (λ fuel h. rw h)
complete (if_nonzero_law m p m') = after_both (complete m) (complete m') (λ fuel h h'. rw (h, p) h')
complete (if_zero_law m p m') = after_both (complete m) (complete m') (λ fuel h h'. rw (h, p) h')
complete (if_constructor m) = after (complete m) (λ fuel h. rw h)
complete (if_fault m) = after (complete m) (λ fuel h. rw h)
complete (operator_numbers m m') = after_both (complete m) (complete m') (λ fuel h h'. rw (h, h'))
complete (left_constructor m) = after (complete m) (λ fuel h. rw h)
complete (left_fault m) = after (complete m) (λ fuel h. rw h)
complete (right_constructor m m') = after_both (complete m) (complete m') (λ fuel h h'. rw (h, h'))
complete (right_fault m m') = after_both (complete m) (complete m') (λ fuel h h'. rw (h, h'))
