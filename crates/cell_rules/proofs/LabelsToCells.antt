-- The rule follows the relation over labels: where a derivation ends, the visit of a cell that stands for its labels ends alike, from
-- cells in order and at all allowances that have room for the trace.
use mathlib.Core.Path.{◌≡◌, refl, sym, ◌∙◌}
use Prim.Native.Nat.{ℕ, suc}
use mathlib.Core.List.{List, [], ◌∷◌, ◌++◌}
use mathlib.Core.Option.{none, some, none-ne-some}
use mathlib.Core.Bool.{Bool, true, false}
use native.Mathlib.Omega.{arith}
use lib.IntN.{ℤ}
use lib.ListN.{length, get_elem?, length-append}
use lib.Dec.{eqb}
use borrow.Author.Tests.{lt-ltb, eqb-true}
use Rattle.definitions.specs.Numbers.{no_actual}
use Rattle.definitions.specs.Layouts.{body_of}
use Rattle.definitions.specs.FormalPlaces.{function_of, position_of}
use Rattle.definitions.specs.TranslationNodes.{translation_node_of, actual}
use Rattle.definitions.specs.Rule.{Ending, ended, Visit, reach, node_due, visited}
use Rattle.definitions.specs.Rule.{where_cell}
use Rattle.definitions.specs.Cells.{Entry, Cell, new_cell, cell_of, entry_at, keeping, remembered, recalled, where_own, under_cell, formal_by_cells, with_cell, call_by_cells, by_cells}
use Rattle.definitions.specs.declared.Layout.TheVariants.{Translation}
use Rattle.rule_laws.specs.Derivations.{Trace, alone, after, after_call, Derivation}
use Rattle.rule_laws.specs.Reads.{state_of, an_end, Arrives}
use Rattle.rule_laws.specs.Reached.{Allowed, Reaching, ReachingHooks}
use Rattle.rule_laws.proofs.Arrivals.{arrives_alone, arrives_after}
use Rattle.rule_laws.proofs.Reached.{visits_reached}
use Rattle.cell_rules.specs.Contexts.{cell_heads, Stands, outermost, within}
use Rattle.cell_rules.specs.InOrder.{InOrder, StandsInOrder}
use Rattle.cell_rules.proofs.Unique.{visits_one}
use Rattle.cell_rules.proofs.InOrder.{recalls}
use Rattle.cell_rules.proofs.CellReads.{spends_call, cell_reads, added_stands, arrives_recalled, arrives_remembered}

module _ (t : List ℕ) (rs : List ℤ) (cells_allowed : ℕ) where
  module _ (n : ℕ) (visit : Visit ℕ (List Cell)) (k left : ℕ) (m : List Cell) (order : InOrder t rs m) where
    -- a formal whose label names an actual
    module _ (p : ℕ) {j : ℕ} {ws : List ℕ} {a : Trace} {e : Ending (List ℕ)} (v : Derivation t rs (translation_node_of t j) j ws a e)
        (ih : Reaching (cell_reads t rs) rs cells_allowed n visit j ws a e) (room : Allowed (cell_reads t rs) cells_allowed a n (state_of left m)) where
      own_reached : (c : ℕ) (x : Cell) (y : Entry) → get_elem? m c ≡ some x → function_of t p ≡ x.callee → entry_at x (position_of t p) ≡ y
          → actual t p x.label ≡ some j → Stands cell_heads m x.previous ws
          → Arrives (cell_reads t rs) (suc n) (state_of (suc left) m) (after a) e
          (recalled y (state_of left m) (remembered keeping (suc c) (position_of t p) (visit j x.previous (state_of left m))))
      unfolding recalled
      own_reached c x (some u) there own y h s =
          let d = recalls t rs p c x order there own y s in
          let i : d.node ≡ j = (let z = sym d.named ∙ h in cc) in
          let f : Derivation t rs (translation_node_of t j) j ws d.trace d.ending = rw i at d.visits in
          let g : d.ending ≡ e = visits_one j f v in
          arrives_recalled t rs a order (rw g at d.shows)
      own_reached c x none there own y h s =
          let f = ih.reaches x.previous (state_of left m) (record { stands = s; order = order }) room in
          arrives_after _ (arrives_remembered t rs p c x there own h s v f)

      where_reached : (c : ℕ) (x : Cell) (y : Bool) → get_elem? m c ≡ some x → eqb (function_of t p) x.callee ≡ y
          → actual t p x.label ≡ some j → Stands cell_heads m x.previous ws
          → Arrives (cell_reads t rs) (suc n) (state_of (suc left) m) (after a) e
          (where_own keeping y (suc c) (position_of t p) (entry_at x (position_of t p)) (state_of left m)
          (node_due (actual t p x.label) no_actual (state_of left m) (λ i. visit i x.previous (state_of left m))))
      unfolding where_own node_due
      where_reached c x true there o h s = rw h (own_reached c x (entry_at x (position_of t p)) there (eqb-true _ _ o) refl h s)
      where_reached c x false there o h s = rw h (arrives_after _ (ih.reaches x.previous (state_of left m) (record { stands = s; order = order }) room))

      actual_reached : {l w : ℕ} → Stands cell_heads m w (l ∷ ws) → actual t p l ≡ some j
          → Arrives (cell_reads t rs) (suc n) (state_of (suc left) m) (after a) e (formal_by_cells t visit p w (state_of left m))
      unfolding formal_by_cells under_cell cell_of
      actual_reached (within {c} {x} there l q s) h =
          let s' : Stands cell_heads m x.previous ws = rw q s in
          let h' : actual t p x.label ≡ some j = rw l h in
          rw there (where_reached c x (eqb (function_of t p) x.callee) there refl h' s')

    -- a formal whose label names none
    own_beyond : (p c : ℕ) (x : Cell) (y : Entry) {ws : List ℕ} → get_elem? m c ≡ some x → function_of t p ≡ x.callee → entry_at x (position_of t p) ≡ y
        → actual t p x.label ≡ none → Stands cell_heads m x.previous ws
        → Arrives (cell_reads t rs) (suc n) (state_of (suc left) m) alone (ended no_actual)
        (recalled y (state_of left m) (remembered keeping (suc c) (position_of t p) (reach (ended no_actual) (state_of left m))))
    unfolding recalled remembered keeping reach
    own_beyond p c x (some u) there own y h s = absurd (none-ne-some _ (sym h ∙ (recalls t rs p c x order there own y s).named))
    own_beyond p c x none there own y h s = arrives_alone _ k (record { stands = s; order = order }) an_end

    where_beyond : (p c : ℕ) (x : Cell) (y : Bool) {ws : List ℕ} → get_elem? m c ≡ some x → eqb (function_of t p) x.callee ≡ y
        → actual t p x.label ≡ none → Stands cell_heads m x.previous ws
        → Arrives (cell_reads t rs) (suc n) (state_of (suc left) m) alone (ended no_actual)
        (where_own keeping y (suc c) (position_of t p) (entry_at x (position_of t p)) (state_of left m)
        (node_due (actual t p x.label) no_actual (state_of left m) (λ i. visit i x.previous (state_of left m))))
    unfolding where_own node_due
    where_beyond p c x true there o h s = rw h (own_beyond p c x (entry_at x (position_of t p)) there (eqb-true _ _ o) refl h s)
    where_beyond p c x false there o h s = rw h (arrives_alone _ k (record { stands = s; order = order }) an_end)

    beyond_reached : (p : ℕ) {l w : ℕ} {ws : List ℕ} → Stands cell_heads m w (l ∷ ws) → actual t p l ≡ none
        → Arrives (cell_reads t rs) (suc n) (state_of (suc left) m) alone (ended no_actual) (formal_by_cells t visit p w (state_of left m))
    unfolding formal_by_cells under_cell cell_of
    beyond_reached p (within {c} {x} {ws} there l q s) h =
        let s' : Stands cell_heads m x.previous ws = rw q s in
        let h' : actual t p x.label ≡ none = rw l h in
        rw there (where_beyond p c x (eqb (function_of t p) x.callee) there refl h' s')

    outside_reached : (p : ℕ) {w : ℕ} → Stands cell_heads m w []
        → Arrives (cell_reads t rs) (suc n) (state_of (suc left) m) alone (ended no_actual) (formal_by_cells t visit p w (state_of left m))
    unfolding formal_by_cells under_cell cell_of
    outside_reached p outermost = arrives_alone _ k (record { stands = outermost; order = order }) an_end

    call_reached : (l f w : ℕ) {ws : List ℕ} {a : Trace} {e : Ending (List ℕ)} → Stands cell_heads m w ws
        → Reaching (cell_reads t rs) rs cells_allowed n visit (body_of Translation t f) (l ∷ ws) a e
        → Allowed (cell_reads t rs) cells_allowed (after_call a) (suc n) (state_of (suc left) m)
        → Arrives (cell_reads t rs) (suc n) (state_of (suc left) m) (after_call a) e (call_by_cells t cells_allowed visit l f w (state_of left m))
    unfolding call_by_cells where_cell with_cell
    call_reached l f w s g q =
        let c = new_cell l w f in
        let r = g.reaches (suc (length m)) (state_of left (m ++ (c ∷ []))) (added_stands t rs l f (record { stands = s; order = order }))
        (record { depth = omega (arith, q.depth); steps = omega (arith, q.steps); cells = omega (arith, length-append m (c ∷ []), q.cells) }) in
        rw (lt-ltb (length m) cells_allowed (omega (arith, q.cells))) (record { went = spends_call c r.went; shows = r.shows })

  hooks : ReachingHooks (cell_reads t rs) rs cells_allowed (by_cells t cells_allowed)
  unfolding by_cells
  hooks =
      record {
        formal_actual = λ n {k = k} {p = p} left w m e s h v g q. actual_reached n (visited (by_cells t cells_allowed) t rs n) k left m s.order p v g q s.stands h;
        formal_beyond = λ n {k = k} {p = p} left w m e s h. beyond_reached n (visited (by_cells t cells_allowed) t rs n) k left m s.order p s.stands h;
        formal_outside = λ n {k = k} {p = p} left w m e s. outside_reached n (visited (by_cells t cells_allowed) t rs n) k left m s.order p s.stands;
        call_body = λ n {k = k} {l = l} {f = f} left w m e s g q. call_reached n (visited (by_cells t cells_allowed) t rs n) k left m s.order l f w s.stands g q;
      }

  -- a visit, at allowances that have room for its trace
  pub follows : (nesting left k w : ℕ) {ws : List ℕ} {store : List Cell} {a : Trace} {e : Ending (List ℕ)}
      → Derivation t rs (translation_node_of t k) k ws a e → StandsInOrder t rs store w ws → Allowed (cell_reads t rs) cells_allowed a nesting (state_of left store)
      → Arrives (cell_reads t rs) nesting (state_of left store) a e (visited (by_cells t cells_allowed) t rs nesting k w (state_of left store))
  follows nesting left k w {store} v s q =
      (visits_reached (cell_reads t rs) rs cells_allowed (by_cells t cells_allowed) hooks nesting v).reaches w (state_of left store) s q
