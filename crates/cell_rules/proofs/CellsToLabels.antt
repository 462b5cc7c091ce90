-- The relation over labels follows the rule: a visit of a cell that is not stopped, from cells in order, has a derivation under the
-- labels that the cell stands for, with the same end and at least its steps and cells.
use mathlib.Core.Path.{◌≡◌, refl}
use Prim.Native.Nat.{ℕ, suc}
use mathlib.Core.List.{List, [], ◌∷◌, ◌++◌}
use mathlib.Core.Option.{Option, none, some}
use mathlib.Core.Bool.{Bool, true, false, true≢false}
use lib.IntN.{ℤ}
use lib.ListN.{length, get_elem?}
use lib.Dec.{ltb, eqb}
use borrow.Author.Tests.{eqb-true}
use Rattle.definitions.specs.Numbers.{no_actual, is_stop}
use Rattle.definitions.specs.Ranges as Ranges
use Rattle.definitions.specs.Layouts.{body_of}
use Rattle.definitions.specs.FormalPlaces.{function_of, position_of}
use Rattle.definitions.specs.TranslationNodes.{formal, call, actual}
use Rattle.definitions.specs.Rule.{Visit, reach, node_due, visited}
use Rattle.definitions.specs.Rule.{where_cell}
use Rattle.definitions.specs.Cells.{Entry, Cell, new_cell, cell_of, entry_at, keeping, remembered, recalled, where_own, under_cell, formal_by_cells, with_cell, call_by_cells, by_cells}
use Rattle.definitions.specs.declared.Layout.TheVariants.{Translation}
use Rattle.rule_laws.specs.Derivations.{formal_actual, formal_beyond, formal_outside, call_body}
use Rattle.rule_laws.specs.Reads.{state_of, an_end}
use Rattle.rule_laws.specs.Found.{stopped, Found, Finding, FindingHooks}
use Rattle.rule_laws.proofs.Arrivals.{arrives_alone, arrives_after}
use Rattle.rule_laws.proofs.Found.{found, visits_found}
use Rattle.cell_rules.specs.Contexts.{cell_heads, Stands, outermost, within}
use Rattle.cell_rules.specs.InOrder.{InOrder}
use Rattle.cell_rules.proofs.InOrder.{recalls}
use Rattle.cell_rules.proofs.CellReads.{spends_call, cell_reads, added_stands, arrives_recalled, arrives_remembered}

module _ (t : List ℕ) (rs : List ℤ) where
  module _ (n : ℕ) {visit : Visit ℕ (List Cell)} (ih : Finding (cell_reads t rs) rs n visit) (k left : ℕ) (m : List Cell) (order : InOrder t rs m) where
    -- a formal under a cell, whose label may name an actual
    module _ (p : ℕ) (x : Cell) {ws : List ℕ} (stands : Stands cell_heads m x.previous ws) where
      -- that another function's call made
      foreign_found : (o : Option ℕ) → actual t p x.label ≡ o
          → stopped (node_due o no_actual (state_of left m) (λ j. visit j x.previous (state_of left m))).ending ≡ false
          → Found (cell_reads t rs) rs (formal p) k (x.label ∷ ws) (suc n) (state_of (suc left) m)
          (node_due o no_actual (state_of left m) (λ j. visit j x.previous (state_of left m)))
      unfolding node_due
      foreign_found none e h = found _ rs (formal_beyond e) (arrives_alone _ k (record { stands = stands; order = order }) an_end)
      foreign_found (some j) e h =
          let c = (ih.finds j x.previous (state_of left m) (record { stands = stands; order = order }) h).comes in
          found _ rs (formal_actual e c.visits) (arrives_after _ c.arrives)

      -- that its own function's call made
      own_found : (c : ℕ) (y : Entry) (o : Option ℕ) → get_elem? m c ≡ some x → function_of t p ≡ x.callee → entry_at x (position_of t p) ≡ y
          → actual t p x.label ≡ o
          → stopped (recalled y (state_of left m) (remembered keeping (suc c) (position_of t p) (node_due o no_actual (state_of left m) (λ j. visit j x.previous (state_of left m))))).ending ≡ false
          → Found (cell_reads t rs) rs (formal p) k (x.label ∷ ws) (suc n) (state_of (suc left) m)
          (recalled y (state_of left m) (remembered keeping (suc c) (position_of t p) (node_due o no_actual (state_of left m) (λ j. visit j x.previous (state_of left m)))))
      unfolding recalled remembered keeping node_due reach
      own_found c (some v) o there own y e h =
          let d = recalls t rs p c x order there own y stands in
          found _ rs (formal_actual d.named d.visits) (arrives_recalled t rs d.trace order d.shows)
      own_found c none none there own y e h = found _ rs (formal_beyond e) (arrives_alone _ k (record { stands = stands; order = order }) an_end)
      own_found c none (some j) there own y e h =
          let d = (ih.finds j x.previous (state_of left m) (record { stands = stands; order = order }) h).comes in
          found _ rs (formal_actual e d.visits) (arrives_after _ (arrives_remembered t rs p c x there own e stands d.visits d.arrives))

      where_found : (c : ℕ) (y : Bool) → get_elem? m c ≡ some x → eqb (function_of t p) x.callee ≡ y
          → stopped (where_own keeping y (suc c) (position_of t p) (entry_at x (position_of t p)) (state_of left m)
          (node_due (actual t p x.label) no_actual (state_of left m) (λ j. visit j x.previous (state_of left m)))).ending ≡ false
          → Found (cell_reads t rs) rs (formal p) k (x.label ∷ ws) (suc n) (state_of (suc left) m)
          (where_own keeping y (suc c) (position_of t p) (entry_at x (position_of t p)) (state_of left m)
          (node_due (actual t p x.label) no_actual (state_of left m) (λ j. visit j x.previous (state_of left m))))
      unfolding where_own
      where_found c true there e h = own_found c (entry_at x (position_of t p)) (actual t p x.label) there (eqb-true _ _ e) refl refl h
      where_found c false there e h = foreign_found (actual t p x.label) refl h

    formal_found : (p : ℕ) {w : ℕ} {ws : List ℕ} → Stands cell_heads m w ws
        → stopped (under_cell keeping t visit p w (cell_of m w) (state_of left m)).ending ≡ false
        → Found (cell_reads t rs) rs (formal p) k ws (suc n) (state_of (suc left) m) (under_cell keeping t visit p w (cell_of m w) (state_of left m))
    unfolding under_cell cell_of
    formal_found p outermost h = found _ rs formal_outside (arrives_alone _ k (record { stands = outermost; order = order }) an_end)
    formal_found p (within {c} {x} {ws} e l q s) h =
        let s' : Stands cell_heads m x.previous ws = rw q s in
        rw (e, ← l) (where_found p x s' c (eqb (function_of t p) x.callee) e refl (rw e at h))

    -- a call, where there may be a cell left
    call_found : (l f w : ℕ) {ws : List ℕ} (y : Bool) → Stands cell_heads m w ws
        → stopped (where_cell y (state_of left m) (λ s. visit (body_of Translation t f) (suc (length s.store)) (with_cell l w f s))).ending ≡ false
        → Found (cell_reads t rs) rs (call l f) k ws (suc n) (state_of (suc left) m)
        (where_cell y (state_of left m) (λ s. visit (body_of Translation t f) (suc (length s.store)) (with_cell l w f s)))
    unfolding where_cell with_cell is_stop Ranges.within reach
    call_found l f w false s h = absurd (true≢false h)
    call_found l f w true s h =
        let c = new_cell l w f in
        let g = (ih.finds (body_of Translation t f) (suc (length m)) (state_of left (m ++ (c ∷ []))) (added_stands t rs l f (record { stands = s; order = order })) h).comes in
        found _ rs (call_body g.visits) (record { went = spends_call c g.arrives.went; shows = g.arrives.shows })

  module _ (cells_allowed : ℕ) where
    hooks : FindingHooks (cell_reads t rs) rs (by_cells t cells_allowed)
    unfolding by_cells formal_by_cells call_by_cells
    hooks =
        record {
          formal_found = λ n ih k p left w m e s h. formal_found n ih k left m s.order p s.stands h;
          call_found = λ n ih k l f left w m e s h. call_found n ih k left m s.order l f w (ltb (length m) cells_allowed) s.stands h;
        }

    -- a visit of cells that is not stopped is one of labels
    pub finds_all : (nesting : ℕ) → Finding (cell_reads t rs) rs nesting (visited (by_cells t cells_allowed) t rs nesting)
    finds_all nesting = visits_found (cell_reads t rs) rs (by_cells t cells_allowed) hooks nesting
