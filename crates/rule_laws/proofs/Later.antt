-- With more steps, and at least as many visits that may be opened, a visit that is not stopped ends alike and has so many more steps
-- left: for all contexts whose two places that look at them do so.
use mathlib.Core.Path.{◌≡◌, refl, sym, ◌∙◌}
use Prim.Native.Nat.{ℕ, zero, suc, ◌+◌, ◌-◌, ◌≤◌}
use mathlib.Core.List.{List}
use mathlib.Core.Bool.{true, false, true≢false}
use native.Mathlib.Omega.{arith}
use native.Mathlib.Nat.{suc-add}
use lib.IntN.{ℤ}
use Rattle.definitions.specs.Numbers.{is_stop}
use Rattle.definitions.specs.Ranges.{within}
use Rattle.definitions.specs.Rule.{State, Reached, Contexts, reach, with_step, visited}
use Rattle.rule_laws.specs.Reads.{state_of}
use Rattle.rule_laws.specs.Found.{stopped}
use Rattle.rule_laws.specs.SideBySide.{Both, cut, arrive, InStep}
use Rattle.rule_laws.specs.SameNodes.{same}
use Rattle.rule_laws.specs.Later.{later, later_made, more_steps, LaterHooks}
use Rattle.rule_laws.proofs.Lockstep.{evaluations_in_step}
use Rattle.rule_laws.proofs.SameNodes.{node_alike, tags_same, fields_due, ends_equal, formal_same, call_same}

module _ {C S : Type 0} (M M' : Contexts C S) (t : List ℕ) (rs : List ℤ) (n : ℕ) (hooks : LaterHooks M M' n) where
  step_both : (left : ℕ) (m : S) (go go' : State S → Reached C S)
      → ((v : State S) → Both (more_steps n) (state_of left m) (go v) (go' (later n v)))
      → Both (more_steps n) (state_of left m) (with_step left m go) (with_step (left + n) m go')
  unfolding with_step is_stop within reach
  step_both zero m go go' f = cut refl
  step_both (suc left) m go go' f = rw suc-add (f (state_of left m))

  unopened : (k left : ℕ) (c : C) (m : S) → stopped (visited M t rs zero k c (state_of left m)).ending ≡ true
  unfolding visited with_step is_stop within reach
  unopened k zero c m = refl
  unopened k (suc left) c m = refl

  in_step : InStep (more_steps n) M t rs M' t rs
  in_step =
      record {
        alike = λ {w} h. node_alike (later_made n) t rs w h;
        tags = λ h. tags_same t h;
        fields = λ {w} h i. fields_due (later_made n) t w h i;
        step = λ w go go' f. step_both w.left w.store go go' (λ v. f v tt);
        unopened = λ m h. record { both = λ w k m c d h. cut (unopened k w.left c w.store) };
        opened = λ m m' h. record { rest = m' - 1; is = omega arith; nested = omega arith };
        formals_both = λ m m' h f w v s g. formal_same (later_made n) M M' w v (hooks.formal_later f v) g;
        calls_both = λ m m' h f w v s g. call_same (later_made n) M M' w v (hooks.call_later f v) g;
      }

  later_by : {w : State S} {r q : Reached C S} → Both (more_steps n) w r q → stopped r.ending ≡ false → q ≡ record { ending = r.ending; state = later n r.state }
  later_by (cut h) g = absurd (true≢false (sym h ∙ g))
  later_by (arrive v l e) g = rw (ends_equal (later_made n) e) refl

  -- at all nestings and from all states
  pub visit_later : (nesting nesting' : ℕ) → nesting ≤ nesting' → (s : State S) (k : ℕ) (c : C) → stopped (visited M t rs nesting k c s).ending ≡ false
      → visited M' t rs nesting' k c (later n s) ≡ record { ending = (visited M t rs nesting k c s).ending; state = later n (visited M t rs nesting k c s).state }
  visit_later nesting nesting' h s k c g = later_by ((evaluations_in_step (more_steps n) in_step nesting nesting' h).both s k k c c same) g
