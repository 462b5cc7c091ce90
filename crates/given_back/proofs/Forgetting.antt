-- With the list of visits to actuals forgotten, the rule that has it is the rule that a run follows. Of any translation file.
use mathlib.Core.Path.{◌≡◌, sym}
use Prim.Native.Nat.{ℕ, suc}
use mathlib.Core.List.{List}
use mathlib.Core.Option.{Option, none, some}
use mathlib.Core.Bool.{Bool, true, false}
use lib.IntN.{ℤ}
use lib.Dec.{ltb}
use Rattle.definitions.specs.Numbers.{no_actual}
use Rattle.definitions.specs.Layouts.{body_of}
use Rattle.definitions.specs.FormalPlaces.{position_of}
use Rattle.definitions.specs.TranslationNodes.{actual}
use Rattle.definitions.specs.Rule.{value, ended, integer, constructor, State, Reached, Visit, reach, node_due, where_cell, visited}
use Rattle.definitions.specs.Cells.{Entry, Cell, cell_of, entry_at, remembered, recalled, where_own, under_cell}
use Rattle.definitions.specs.LiveCells.{LiveCells, keeping_live, formal_by_live_cells, with_live_cell, closed, call_by_live_cells, by_live_cells, live_evaluation}
use Rattle.definitions.specs.Run.{rule_end}
use Rattle.definitions.specs.declared.Layout.TheVariants.{Translation}
use Rattle.rule_laws.specs.SideBySide.{SideBySide, integers, constructors, ends, Both, cut, arrive, Beside}
use Rattle.rule_laws.specs.SameNodes.{same}
use Rattle.rule_laws.specs.Mapped.{mapping, MappedHooks}
use Rattle.rule_laws.proofs.Lockstep.{both_back, both_here}
use Rattle.rule_laws.proofs.Mapped.{visit_mapped}
use Rattle.given_back.specs.ListedVisits.{Listed, none_listed, forgotten, forgetting, on_store, listing, keeping_listed, formal_listed, numbering}
use Rattle.given_back.specs.ListedVisits.{with_cell_listed, closed_listed, call_listed, by_listed, listed_evaluation, every_position, listed_end}

abbrev store_of : Listed → LiveCells
store_of m = m.store

abbrev unlisted : SideBySide ℕ Listed ℕ LiveCells
unlisted = mapping store_of

-- a visit from another state
visit_from : {visit : Visit ℕ Listed} {visit' : Visit ℕ LiveCells} → Beside unlisted visit visit' → (s u : State Listed) (k w : ℕ)
    → Both unlisted s (visit k w u) (visit' k w (forgotten u))
visit_from f s u k w = both_back unlisted {v = u} tt (f.both u k k w w same)

-- an actual, whose visit is listed
actual_forgotten : {visit : Visit ℕ Listed} {visit' : Visit ℕ LiveCells} → Beside unlisted visit visit' → (s : State Listed) (w i v : ℕ) (o : Option ℕ)
    → Both unlisted s (node_due o no_actual s (λ n. visit n v (listing w i s))) (node_due o no_actual (forgotten s) (λ n. visit' n v (forgotten s)))
unfolding node_due listing
actual_forgotten f s w i v none = both_here unlisted s ends
actual_forgotten f s w i v (some n) = visit_from f s (listing w i s) n v

remembered_forgotten : (w i : ℕ) {s : State Listed} {r : Reached ℕ Listed} {q : Reached ℕ LiveCells} → Both unlisted s r q
    → Both unlisted s (remembered (keeping_listed every_position) w i r) (remembered keeping_live w i q)
unfolding remembered reach keeping_listed keeping_live
remembered_forgotten w i (cut h) = absurd h
remembered_forgotten w i (arrive v l (integers {z})) = arrive (on_store (keeping_live w i (value (integer z))) v) tt integers
remembered_forgotten w i (arrive v l (constructors {k} {c} same)) = arrive (on_store (keeping_live w i (value (constructor k c))) v) tt (constructors same)
remembered_forgotten w i (arrive v l ends) = arrive v tt ends

recalled_forgotten : (s : State Listed) (y : Entry) {r : Reached ℕ Listed} {q : Reached ℕ LiveCells} → Both unlisted s r q
    → Both unlisted s (recalled y s r) (recalled y (forgotten s) q)
unfolding recalled
recalled_forgotten s none d = d
recalled_forgotten s (some (integer z)) d = both_here unlisted s integers
recalled_forgotten s (some (constructor k w)) d = both_here unlisted s (constructors same)

own_forgotten : (s : State Listed) (x : Bool) (w i : ℕ) (y : Entry) {r : Reached ℕ Listed} {q : Reached ℕ LiveCells} → Both unlisted s r q
    → Both unlisted s (where_own (keeping_listed every_position) x w i y s r) (where_own keeping_live x w i y (forgotten s) q)
unfolding where_own
own_forgotten s true w i y d = recalled_forgotten s y (remembered_forgotten w i d)
own_forgotten s false w i y d = d

closed_forgotten : (m : LiveCells) {s : State Listed} {r : Reached ℕ Listed} {q : Reached ℕ LiveCells} → Both unlisted s r q
    → Both unlisted s (closed_listed m r) (closed m q)
unfolding closed_listed closed reach
closed_forgotten m (cut h) = absurd h
closed_forgotten m (arrive v l (integers {z})) = arrive (closed_listed m (reach (value (integer z)) v)).state tt integers
closed_forgotten m (arrive v l (constructors {k} {c} same)) = arrive (closed_listed m (reach (value (constructor k c)) v)).state tt (constructors same)
closed_forgotten m (arrive v l (ends {n})) = arrive (closed_listed m (reach (ended n) v)).state tt ends

module _ (b : List ℕ) where
  under_forgotten : {visit : Visit ℕ Listed} {visit' : Visit ℕ LiveCells} → Beside unlisted visit visit'
      → (s : State Listed) (p w : ℕ) (o : Option Cell)
      → Both unlisted s (under_cell (keeping_listed every_position) b (λ n v t. visit n v (listing w (position_of b p) t)) p w o s)
      (under_cell keeping_live b visit' p w o (forgotten s))
  unfolding under_cell
  under_forgotten f s p w none = both_here unlisted s ends
  under_forgotten f s p w (some c) =
      own_forgotten s _ w (position_of b p) (entry_at c (position_of b p)) (actual_forgotten f s w (position_of b p) c.previous (actual b p c.label))

  call_forgotten : {visit : Visit ℕ Listed} {visit' : Visit ℕ LiveCells} → Beside unlisted visit visit' → (s : State Listed) (l f w : ℕ) (x : Bool)
      → Both unlisted s
      (where_cell x s (λ t. closed_listed t.store.store (visit (body_of Translation b f) (suc t.store.store.live) (with_cell_listed l w f t))))
      (where_cell x (forgotten s) (λ t. closed t.store (visit' (body_of Translation b f) (suc t.store.live) (with_live_cell l w f t))))
  unfolding where_cell numbering with_live_cell
  call_forgotten h s l f w false = both_here unlisted s ends
  call_forgotten h s l f w true =
      closed_forgotten s.store.store (visit_from h s (with_cell_listed l w f s) (body_of Translation b f) (suc s.store.store.live))

  hooks : (cells_allowed : ℕ) → MappedHooks store_of (by_listed b every_position cells_allowed) (by_live_cells b cells_allowed)
  unfolding by_listed formal_listed call_listed by_live_cells formal_by_live_cells call_by_live_cells
  hooks cells_allowed =
      record {
        formal_mapped = λ f s p w. under_forgotten f s p w (cell_of s.store.store.cells w);
        call_mapped = λ h s l f w. call_forgotten h s l f w (ltb s.store.store.live cells_allowed);
      }

-- with the list forgotten, a visit is the rule's, from any state, of any file
pub visit_forgotten : (b : List ℕ) (rs : List ℤ) (cells_allowed nesting : ℕ) (s : State Listed) (k w : ℕ)
    → forgetting (visited (by_listed b every_position cells_allowed) b rs nesting k w s) ≡ visited (by_live_cells b cells_allowed) b rs nesting k w (forgotten s)
visit_forgotten b rs cells_allowed nesting s k w =
    sym (visit_mapped store_of (by_listed b every_position cells_allowed) (by_live_cells b cells_allowed) b rs (hooks b cells_allowed) nesting s k w)

-- so the whole evaluation
pub list_forgotten : (b : List ℕ) (rs : List ℤ) (steps nesting cells_allowed : ℕ)
    → forgetting (listed_end b rs steps nesting cells_allowed) ≡ rule_end b rs steps nesting cells_allowed
unfolding listed_end listed_evaluation rule_end live_evaluation
list_forgotten b rs steps nesting cells_allowed =
    visit_forgotten b rs cells_allowed nesting (record { left = steps; store = none_listed }) (body_of Translation b 0) 0
