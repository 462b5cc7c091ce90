-- With the store mapped, a visit ends alike and leaves the mapped state, stopped or not: for all contexts whose two places that look at
-- them do so.
use mathlib.Core.Path.{◌≡◌, refl, sym}
use Prim.Native.Nat.{ℕ, zero, suc}
use mathlib.Core.List.{List}
use lib.IntN.{ℤ}
use Rattle.definitions.specs.Rule.{State, Reached, Contexts, with_step, visited}
use Rattle.rule_laws.specs.Reads.{state_of}
use Rattle.rule_laws.specs.SideBySide.{ends, Both, cut, arrive, InStep}
use Rattle.rule_laws.specs.SameNodes.{Same, same}
use Rattle.rule_laws.specs.Mapped.{mapped, mapped_made, mapping, MappedHooks}
use Rattle.rule_laws.proofs.Lockstep.{both_here, evaluations_in_step}
use Rattle.rule_laws.proofs.SameNodes.{node_alike, tags_same, fields_due, ends_equal, formal_same, call_same}

module _ {C S T : Type 0} (f : S → T) (M : Contexts C S) (N : Contexts C T) (t : List ℕ) (rs : List ℤ) (hooks : MappedHooks f M N) where
  step_both : (left : ℕ) (m : S) (go : State S → Reached C S) (go' : State T → Reached C T)
      → ((v : State S) → Both (mapping f) (state_of left m) (go v) (go' (mapped f v)))
      → Both (mapping f) (state_of left m) (with_step left m go) (with_step left (f m) go')
  unfolding with_step
  step_both zero m go go' h = both_here (mapping f) (state_of 0 m) ends
  step_both (suc left) m go go' h = h (state_of left m)

  unopened : {k k' : ℕ} {c c' : C} (left : ℕ) (m : S) → Same k c k' c'
      → Both (mapping f) (state_of left m) (visited M t rs zero k c (state_of left m)) (visited N t rs zero k' c' (state_of left (f m)))
  unfolding visited with_step
  unopened zero m same = both_here (mapping f) (state_of 0 m) ends
  unopened (suc left) m same = both_here (mapping f) (state_of (suc left) m) ends

  in_step : InStep (mapping f) M t rs N t rs
  in_step =
      record {
        alike = λ {w} h. node_alike (mapped_made f) t rs w h;
        tags = λ h. tags_same t h;
        fields = λ {w} h i. fields_due (mapped_made f) t w h i;
        step = λ w go go' h. step_both w.left w.store go go' (λ v. h v tt);
        unopened = λ n e. rw (sym e) (record { both = λ w k m c d h. unopened w.left w.store h });
        opened = λ n n' e. record { rest = n; is = sym e; nested = refl };
        formals_both = λ n n' e h w v s g. formal_same (mapped_made f) M N w v (hooks.formal_mapped h v) g;
        calls_both = λ n n' e h w v s g. call_same (mapped_made f) M N w v (hooks.call_mapped h v) g;
      }

  mapped_by : {w : State S} {r : Reached C S} {q : Reached C T} → Both (mapping f) w r q → q ≡ record { ending = r.ending; state = mapped f r.state }
  mapped_by (cut h) = absurd h
  mapped_by (arrive v l e) = rw (ends_equal (mapped_made f) e) refl

  -- at all nestings and from all states
  pub visit_mapped : (nesting : ℕ) (s : State S) (k : ℕ) (c : C)
      → visited N t rs nesting k c (mapped f s) ≡ record { ending = (visited M t rs nesting k c s).ending; state = mapped f (visited M t rs nesting k c s).state }
  visit_mapped nesting s k c = mapped_by ((evaluations_in_step (mapping f) in_step nesting nesting refl).both s k k c c same)
