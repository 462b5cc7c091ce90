-- What a visit does before and after the function of its node's kind: the two stops, a step counted, and the node by its kind.
use mathlib.Core.Path.{◌≡◌, refl, sym, ◌∙◌}
use Prim.Native.Nat.{ℕ, ◌+◌, ◌*◌, ◌-◌, ◌<◌}
use mathlib.Core.List.{List}
use native.Mathlib.Omega.{arith}
use denote.MutBor.{MutBor}
use Rattle.definitions.specs.Numbers.{no_step, no_nesting}
use Rattle.definitions.specs.Layouts.{node_record}
use Rattle.definitions.specs.Rule.{ended}
use Rattle.live_counts.specs.declared.Counts.{Counts}
use Rattle.run.specs.Packed.{Outcome, outcome_in}
use Rattle.run.specs.States.{below, above, ending_of, NodeIs, Visitable, Evaluable, Visits, Evaluates}
use Rattle.run.proofs.Outcomes.{reached_as}
use Rattle.run.proofs.Counting.{leaving, context_taken, visit_taken}
use Rattle.run.proofs.Steps.{visit_no_step, visit_no_nesting}

-- the counts with one step less
abbrev pub counted : Counts → Counts
counted counts = leaving (counts.left - 1) counts

module _ {b tab : List ℕ} {limits at : ℕ} {counts : Counts} where
  module _ {x : ℕ} {cells : MutBor (List ℕ)} {o : Outcome} (a : Visitable b tab limits at counts cells.now) where
    pub no_step_left : counts.left ≡ 0 → outcome_in x ≡ o → ending_of o ≡ ended no_step → Visits b tab limits at counts cells x counts cells
    no_step_left z f g =
        record {
          same = λ rs h. reached_as _ _ _ f g ∙ sym (visit_no_step b rs (above limits) (below at) (above at) _ (below limits) counts.left z);
          stays = refl;
        }

    pub no_nesting_left : (counts.left ≡ 0 → ⊥) → below limits ≡ 0 → outcome_in x ≡ o → ending_of o ≡ ended no_nesting
        → Visits b tab limits at counts cells x counts cells
    no_nesting_left l z f g =
        record {
          same = λ rs h. reached_as _ _ _ f g ∙ sym (visit_no_nesting b rs (above limits) (below at) (above at) _ (below limits) counts.left l z);
          stays = refl;
        }

  -- what the function of a kind asks
  module _ {bytes : List ℕ} {t : ℕ} (a : (2 * counts.left ≡ t) × Visitable b tab limits at counts bytes) where
    abbrev pub KindAsked : ℕ → Type 0
    KindAsked kind = (2 * (counted counts).left + 1 < t) × Evaluable b tab (limits - 1) at (counted counts) bytes kind

    pub kind_asked : {kind : ℕ} → (counts.left ≡ 0 → ⊥) → (below limits ≡ 0 → ⊥) → NodeIs b (node_record b (below at)) (below at) kind → KindAsked kind
    kind_asked l n h = (
      let e = a.0 in omega arith,
      record { equipped = a.1.equipped; node = h; context = context_taken limits _ n a.1.context },
    )

-- a step was counted: what the function of a kind gives is returned
pub record Counted (b tab : List ℕ) (limits at : ℕ) (counts : Counts) (cells : MutBor (List ℕ)) : Type 0 where
  pub returned : {x : ℕ} {counts' : Counts} {cells' : MutBor (List ℕ)} → Evaluates b tab (limits - 1) at (counted counts) cells x counts' cells'
      → Visits b tab limits at counts cells x counts' cells'

module _ {b tab : List ℕ} {limits at : ℕ} {counts : Counts} {bytes : List ℕ} (a : Visitable b tab limits at counts bytes) where
  pub step_counted : {cells : MutBor (List ℕ)} → (counts.left ≡ 0 → ⊥) → (below limits ≡ 0 → ⊥) → Counted b tab limits at counts cells
  step_counted l n = record { returned = visit_taken l n }
