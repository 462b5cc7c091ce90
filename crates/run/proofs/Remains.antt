-- What remains of working out a node: where the function of a kind stands after what it did, and how it ends or goes on from there.
use mathlib.Core.Path.{◌≡◌, refl, sym, ◌∙◌}
use Prim.Native.Nat.{ℕ, ◌+◌, ◌*◌, ◌≤◌, ◌<◌}
use mathlib.Core.List.{List}
use native.Mathlib.Omega.{arith}
use lib.IntN.{ℤ}
use denote.MutBor.{MutBor}
use Rattle.definitions.specs.Layouts.{nodes}
use Rattle.definitions.specs.Rule.{Ending, Reached, reach}
use Rattle.live_counts.specs.declared.Counts.{Counts}
use Rattle.lent_rule.specs.Lent.{Lent}
use Rattle.run.specs.NodeTable.{ReadingsIn}
use Rattle.run.specs.Packed.{Outcome, outcome_in}
use Rattle.run.specs.States.{below, above, ending_of, counted_state, visits, evaluates, Equipped, InContext, Visitable, Evaluable, Visits, Evaluates}
use Rattle.run.proofs.Outcomes.{reached_as}
use Rattle.run.proofs.Counting.{visitable_at, visits_at}

-- the node of `at` worked out, from counts and lent bytes
abbrev pub worked_out : List ℕ → List ℤ → ℕ → ℕ → Counts → List ℕ → Reached ℕ Lent
worked_out b rs limits at counts cells =
    evaluates b rs (above limits) (below limits) (below at) (above at) (counted_state counts cells)

-- what the function of a kind may assume, at the measure t
abbrev pub Asked : List ℕ → List ℕ → ℕ → ℕ → ℕ → Counts → List ℕ → ℕ → Type 0
Asked b tab t limits at counts bytes kind = (2 * counts.left + 1 ≡ t) × Evaluable b tab limits at counts bytes kind

pub asked_falls : {b tab : List ℕ} {t limits at : ℕ} {counts : Counts} {bytes : List ℕ} {kind : ℕ} → Asked b tab t limits at counts bytes kind
    → 2 * counts.left < t
asked_falls a = let e = a.0 in omega arith

-- whatever readings the table holds, working out the node of `at` has come to `next`, with the counts and the cells that there are
-- now; the measure of a visit from there is below t, and its context stands
pub record Remains (b tab : List ℕ) (t limits at : ℕ) (counts : Counts) (cells : MutBor (List ℕ)) (counts' : Counts) (cells' : MutBor (List ℕ))
    (next : List ℤ → Reached ℕ Lent) : Type 0 where
  pub equipped : Equipped b tab
  pub same : (rs : List ℤ) → ReadingsIn b rs tab → worked_out b rs limits at counts cells.now ≡ next rs
  pub falls : 2 * counts'.left < t
  pub context : InContext b (above limits) (above at) counts' cells'.now
  pub stays : cells'.ref_ptr ≡ cells.ref_ptr

-- the node ends as it is
pub node_ends : {b tab : List ℕ} {limits at : ℕ} {counts : Counts} {cells : MutBor (List ℕ)} {kind x : ℕ} {e : Ending ℕ} {o : Outcome}
    → Evaluable b tab limits at counts cells.now kind
    → ((rs : List ℤ) → ReadingsIn b rs tab → worked_out b rs limits at counts cells.now ≡ reach e (counted_state counts cells.now))
    → outcome_in x ≡ o → ending_of o ≡ e → Evaluates b tab limits at counts cells x counts cells
node_ends a s f g =
    record { same = λ rs h. reached_as _ _ _ f g ∙ sym (s rs h); stays = refl }

module _ {b tab : List ℕ} {t limits at : ℕ} {counts : Counts} {cells : MutBor (List ℕ)} {counts' : Counts} {cells' : MutBor (List ℕ)} where
  -- the same, said otherwise
  pub remains_as : {next next' : List ℤ → Reached ℕ Lent} → Remains b tab t limits at counts cells counts' cells' next
      → ((rs : List ℤ) → next rs ≡ next' rs) → Remains b tab t limits at counts cells counts' cells' next'
  remains_as r e =
      record { equipped = r.equipped; same = λ rs h. r.same rs h ∙ e rs; falls = r.falls; context = r.context; stays = r.stays }

  -- an end: its outcome is returned
  pub remains_ends : {e : Ending ℕ} {x : ℕ} {o : Outcome}
      → Remains b tab t limits at counts cells counts' cells' (λ rs. reach e (counted_state counts' cells'.now))
      → outcome_in x ≡ o → ending_of o ≡ e → Evaluates b tab limits at counts cells x counts' cells'
  remains_ends r f g =
      record {
        same = λ rs h. reached_as _ _ _ f g ∙ sym (r.same rs h);
        stays = r.stays;
      }

-- what another context stands in there
pub at_context : {b : List ℕ} {cells_allowed u w : ℕ} {counts : Counts} {bytes : List ℕ} → InContext b cells_allowed u counts bytes → w ≤ counts.most
    → InContext b cells_allowed w counts bytes
at_context c h = record { standing = c.standing; written = h }

-- it goes on to the visit of node k under context w
pub record Onward (b tab : List ℕ) (t limits at : ℕ) (counts : Counts) (cells : MutBor (List ℕ)) (counts' : Counts) (cells' : MutBor (List ℕ))
    (k w : ℕ) : Type 0 where
  pub remains : Remains b tab t limits at counts cells counts' cells'
      (λ rs. visits b rs (above limits) (below limits) k w (counted_state counts' cells'.now))
  pub there : k < nodes b
  pub written : w ≤ counts'.most

module _ {b tab : List ℕ} {t limits at : ℕ} {counts : Counts} {cells : MutBor (List ℕ)} {counts' : Counts} {cells' : MutBor (List ℕ)} where
  module _ {k w p : ℕ} (r : Onward b tab t limits at counts cells counts' cells' k w) (e : (below p ≡ k) × (above p ≡ w)) where
    -- what the visit asks, and what it gives is returned
    pub visit_asked : (2 * counts'.left < t) × Visitable b tab limits p counts' cells'.now
    visit_asked = (r.remains.falls, visitable_at e r.remains.equipped r.there (at_context r.remains.context r.written))

    pub visit_returned : {x : ℕ} {counts'' : Counts} {cells'' : MutBor (List ℕ)} → Visits b tab limits p counts' cells' x counts'' cells''
        → Evaluates b tab limits at counts cells x counts'' cells''
    visit_returned v =
        record {
          same = λ rs h. visits_at e v rs h ∙ sym (r.remains.same rs h);
          stays = v.stays ∙ r.remains.stays;
        }
