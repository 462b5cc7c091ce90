-- Laws of the counts and limits of a visit: a step and a nesting taken, and a visit at a pair of node and context.
use mathlib.Core.Path.{◌≡◌, refl, ◌∙◌}
use Prim.Native.Nat.{ℕ, ◌+◌, ◌*◌, ◌-◌, ◌≤◌, ◌<◌}
use mathlib.Core.List.{List}
use native.Mathlib.Omega.{arith}
use lib.IntN.{ℤ}
use lib.ListN.{length}
use denote.MutBor.{MutBor}
use Rattle.definitions.specs.Sizes.{most_nodes, most_nesting, most_cells, cell_size}
use Rattle.definitions.specs.Layouts.{nodes}
use Rattle.definitions.specs.Rule as Rule
use Rattle.definitions.specs.Rule.{Reached}
use Rattle.live_counts.specs.declared.Counts.{Counts}
use Rattle.lent_rule.specs.Lent.{Lent}
use Rattle.lent_rule.proofs.Stands.{start_stands}
use Rattle.run.specs.NodeTable.{ReadingsIn}
use Rattle.run.specs.States.{below, above, lent_of, reached_of, counted_state, visits, Equipped, InContext, Visitable, Visits, Evaluates}
use Rattle.run.proofs.Steps.{visit_counted}

-- the counts with another number of steps left
abbrev pub leaving : ℕ → Counts → Counts
leaving v counts = record { left = v; live = counts.live; most = counts.most; oldest = counts.oldest }

-- one nesting less
taken_below : (limits : ℕ) → (below limits ≡ 0 → ⊥) → below (limits - 1) ≡ below limits - 1
taken_below limits h = omega arith

taken_above : (limits : ℕ) → (below limits ≡ 0 → ⊥) → above (limits - 1) ≡ above limits
taken_above limits h = omega arith

-- what a context stands in stays, with a step and a nesting taken
pub context_taken : {b : List ℕ} {w : ℕ} {counts : Counts} {bytes : List ℕ} (limits v : ℕ) → (below limits ≡ 0 → ⊥) → InContext b (above limits) w counts bytes
    → InContext b (above (limits - 1)) w (leaving v counts) bytes
context_taken {b} {counts = counts} {bytes = bytes} limits v h c =
    record { standing = rw (taken_above limits h) c.standing; written = c.written }

-- a node worked out with its step and nesting taken is its visit
pub visit_taken : {b tab : List ℕ} {limits at : ℕ} {counts : Counts} {cells : MutBor (List ℕ)} {x : ℕ} {counts' : Counts} {cells' : MutBor (List ℕ)}
    → (counts.left ≡ 0 → ⊥) → (below limits ≡ 0 → ⊥)
    → Evaluates b tab (limits - 1) at (leaving (counts.left - 1) counts) cells x counts' cells'
    → Visits b tab limits at counts cells x counts' cells'
visit_taken {b} {limits = limits} {at = at} {counts = counts} {cells = cells} h g e =
    record {
      same = λ rs held. e.same rs held
          ∙ rw (taken_above limits g, taken_below limits g)
          (visit_counted b rs (above limits) (below at) (above at) (lent_of counts cells.now) (below limits) counts.left h g);
      stays = e.stays;
    }

-- the visit of node k under context w, by the number p that holds both: that it may be made, and what it gives
module _ {b tab : List ℕ} {p k w : ℕ} {counts : Counts} (at : (below p ≡ k) × (above p ≡ w)) where
  pub visitable_at : {limits : ℕ} {bytes : List ℕ} → Equipped b tab → k < nodes b → InContext b (above limits) w counts bytes
      → Visitable b tab limits p counts bytes
  visitable_at q h c = record { equipped = q; there = rw at.0 h; context = rw at.1 c }

  pub visits_at : {limits x : ℕ} {cells : MutBor (List ℕ)} {counts' : Counts} {cells' : MutBor (List ℕ)}
      → Visits b tab limits p counts cells x counts' cells' → (rs : List ℤ) → ReadingsIn b rs tab
      → reached_of x counts' cells'.now ≡ visits b rs (above limits) (below limits) k w (counted_state counts cells.now)
  visits_at v rs h = rw (at.0, at.1) at (v.same rs h)

-- the first visit of a run: its limits, function 0's body under the empty context
limits_below : (nesting cells_allowed : ℕ) → nesting < 65536 → below (nesting + 65536 * cells_allowed) ≡ nesting
limits_below nesting cells_allowed h = omega arith

limits_above : (nesting cells_allowed : ℕ) → nesting < 65536 → above (nesting + 65536 * cells_allowed) ≡ cells_allowed
limits_above nesting cells_allowed h = omega arith

first_at : (first : ℕ) → first < 65536 → (below first ≡ first) × (above first ≡ 0)
first_at first h = (omega arith, omega arith)

pub first_there : (n first : ℕ) → n ≤ most_nodes → first < n → below first < n
first_there n first l h = rw (first_at first (omega arith)).0 h

pub first_context : (b : List ℕ) (nesting cells_allowed n first steps : ℕ) (before : List ℕ) → nesting ≤ most_nesting → n ≤ most_nodes → first < n
    → cells_allowed ≤ most_cells → cell_size * cells_allowed ≤ length before
    → InContext b (above (nesting + 65536 * cells_allowed)) (above first) (record { left = steps; live = 0; most = 0; oldest = 0 }) before
first_context b nesting cells_allowed n first steps before l m h ceiling lends =
    record {
      standing = rw (limits_above nesting cells_allowed (omega arith)) (start_stands before ceiling lends);
      written = rw (first_at first (omega arith)).1 (omega arith);
    }

pub first_visit : (b : List ℕ) (rs : List ℤ) (nesting cells_allowed n first : ℕ) (s : Rule.State Lent) (q : Reached ℕ Lent) → nesting ≤ most_nesting → n ≤ most_nodes → first < n
    → q ≡ visits b rs (above (nesting + 65536 * cells_allowed)) (below (nesting + 65536 * cells_allowed)) (below first) (above first) s → q ≡ visits b rs cells_allowed nesting first 0 s
first_visit b rs nesting cells_allowed n first s q l m h f =
    let e = first_at first (omega arith) in
    f ∙ rw (limits_above nesting cells_allowed (omega arith), limits_below nesting cells_allowed (omega arith), e.0, e.1) refl
