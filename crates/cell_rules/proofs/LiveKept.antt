-- What the rule that gives cells back keeps: a cell's memory, a new cell and the end of a call are the three places where its store changes.
use mathlib.Core.Path.{◌≡◌, refl}
use Prim.Native.Nat.{ℕ, zero, suc, ◌<◌}
use mathlib.Core.List.{List}
use mathlib.Core.Option.{Option, none, some, none-ne-some}
use mathlib.Core.Bool.{Bool, true, false}
use native.Mathlib.Nat.{le_refl}
use lib.IntN.{ℤ}
use lib.ListN.{get_elem?}
use lib.Dec.{ltb, eqb}
use borrow.Author.Tests.{ltb-true}
use Rattle.definitions.specs.Numbers.{no_cell, no_actual, is_stop, is_fault}
use Rattle.definitions.specs.Ranges.{within}
use Rattle.definitions.specs.Layouts.{body_of}
use Rattle.definitions.specs.FormalPlaces.{function_of, position_of}
use Rattle.definitions.specs.TranslationNodes.{formal, call, translation_node_of, actual}
use Rattle.definitions.specs.Rule.{Value, constructor, Ending, value, State, Reached, Visit, reach, where_cell, visited}
use Rattle.definitions.specs.Cells.{Entry, Cell, cell_of, entry_at, remembered, recalled, where_own, under_cell}
use Rattle.definitions.specs.LiveCells.{LiveCells, keeping_live, formal_by_live_cells, with_live_cell, closing, closed, call_by_live_cells, by_live_cells}
use Rattle.definitions.specs.declared.Layout.TheVariants.{Translation}
use Rattle.rule_laws.specs.Reads.{is_value}
use Rattle.rule_laws.specs.Keeps.{Keeps, Proper, an_integer, a_constructor, an_end, Kept, Keeping, KeepingHooks}
use Rattle.rule_laws.proofs.Keeps.{kept_here, kept_stop, kept_fault, kept_ended, kept_onward, kept_node, visit_keeps}

module _ {b : List ℕ} {rs : List ℤ} (K : Keeps b rs ℕ LiveCells) (cells_allowed : ℕ) where
  open K use {Becomes, onward, At, Built}

  -- what is owed: of a formal's actual under the tail, of what a cell remembers and comes to remember, of a new cell, and of a call's end
  pub record LiveKept : Type 0 where
    pub built_onward : {m n : LiveCells} {k w : ℕ} → Becomes true m n → Built m k w → Built n k w
    pub actual_at : {m : LiveCells} {k p c n : ℕ} {x : Cell} → translation_node_of b k ≡ formal p → At m k (suc c) → get_elem? m.cells c ≡ some x
        → actual b p x.label ≡ some n → At m n x.previous
    pub recalled_proper : {m : LiveCells} {k c : ℕ} {x : Cell} {v : Value ℕ} (i : ℕ) → At m k (suc c) → get_elem? m.cells c ≡ some x → entry_at x i ≡ some v
        → Proper K m (value v)
    pub remembers : {v : Value ℕ} (s : State LiveCells) (w i : ℕ) → Proper K s.store (value v) → Becomes true s.store (keeping_live w i (value v) s).store
    pub grows : {k l f w : ℕ} (s : State LiveCells) → translation_node_of b k ≡ call l f → At s.store k w → s.store.live < cells_allowed
        → Becomes true s.store (with_live_cell l w f s).store
    pub body_at : {k l f w : ℕ} (s : State LiveCells) → translation_node_of b k ≡ call l f → At s.store k w → s.store.live < cells_allowed
        → At (with_live_cell l w f s).store (body_of Translation b f) (suc s.store.live)
    pub closes : {x : Bool} {m n : LiveCells} {k w : ℕ} (e : Ending ℕ) → At m k w → Becomes x m n → Becomes x m (closing m e n)
    pub built_closed : {m n : LiveCells} {k w j c : ℕ} → At m k w → Becomes true m n → Built n j c → Built (closing m (value (constructor j c)) n) j c

  module _ (H : LiveKept) where
    memory_kept : {s : State LiveCells} {r : Reached ℕ LiveCells} (w i : ℕ) → Kept K s r → Kept K s (remembered keeping_live w i r)
    unfolding remembered reach keeping_live
    memory_kept {s} {r} w i g = from g.proper g.becomes
      where
        from : {e : Ending ℕ} → Proper K r.state.store e → Becomes (is_value e) s.store r.state.store → Kept K s (reach e (keeping_live w i e r.state))
        from (an_integer n) b =
            record { falls = g.falls; becomes = onward b (H.remembers r.state w i (an_integer n)); proper = an_integer n }
        from (a_constructor x) b =
            let t = H.remembers r.state w i (a_constructor x) in
            record { falls = g.falls; becomes = onward b t; proper = a_constructor (H.built_onward t x) }
        from (an_end h) b = kept_ended K g.falls b h

    own_kept : (t : Bool) (w i : ℕ) (o : Entry) (s : State LiveCells) {r : Reached ℕ LiveCells} → ((v : Value ℕ) → o ≡ some v → Proper K s.store (value v))
        → Kept K s r → Kept K s (where_own keeping_live t w i o s r)
    unfolding where_own recalled
    own_kept false w i o s p g = g
    own_kept true w i none s p g = memory_kept w i g
    own_kept true w i (some v) s p g = kept_here K s (p v refl)

    closed_kept : {s : State LiveCells} {r : Reached ℕ LiveCells} (k w : ℕ) → At s.store k w → Kept K s r → Kept K s (closed s.store r)
    unfolding closed reach
    closed_kept {s} {r} k w a g = record { falls = g.falls; becomes = H.closes r.ending a g.becomes; proper = from g.proper g.becomes }
      where
        from : {e : Ending ℕ} → Proper K r.state.store e → Becomes (is_value e) s.store r.state.store
            → Proper K (closing s.store e r.state.store) e
        from (an_integer n) b = an_integer n
        from (a_constructor x) b = a_constructor (H.built_closed a b x)
        from (an_end h) b = an_end h

    module _ (visit : Visit ℕ LiveCells) (ih : Keeping K visit) where
      cell_kept : (k p w : ℕ) (s : State LiveCells) (o : Option Cell) → cell_of s.store.cells w ≡ o → translation_node_of b k ≡ formal p → At s.store k w
          → Kept K s (under_cell keeping_live b visit p w o s)
      unfolding under_cell cell_of is_fault within
      cell_kept k p w s none q e a = kept_fault K s no_actual refl
      cell_kept k p zero s (some x) q e a = absurd (none-ne-some _ q)
      cell_kept k p (suc c) s (some x) q e a =
          own_kept (eqb (function_of b p) x.callee) (suc c) (position_of b p) (entry_at x (position_of b p)) s
          (λ v f. H.recalled_proper (position_of b p) a q f)
          (kept_node K s (actual b p x.label) no_actual _ refl (λ n f. ih.keeps n x.previous s (H.actual_at e a q f)))

      call_kept : (k l f w : ℕ) (s : State LiveCells) (t : Bool) → ltb s.store.live cells_allowed ≡ t → translation_node_of b k ≡ call l f → At s.store k w
          → Kept K s (where_cell t s (λ u. closed u.store (visit (body_of Translation b f) (suc u.store.live) (with_live_cell l w f u))))
      unfolding where_cell with_live_cell is_stop within
      call_kept k l f w s false q e a = kept_stop K s no_cell refl
      call_kept k l f w s true q e a =
          let h = ltb-true s.store.live cells_allowed q in
          closed_kept k w a
          (kept_onward K (le_refl s.left) (H.grows s e a h)
          (ih.keeps (body_of Translation b f) (suc s.store.live) (with_live_cell l w f s) (H.body_at s e a h)))

    hooks : KeepingHooks K (by_live_cells b cells_allowed)
    unfolding by_live_cells formal_by_live_cells call_by_live_cells
    hooks =
        record {
          formal_keeps = λ n ih k p w s e a. cell_kept (visited (by_live_cells b cells_allowed) b rs n) ih k p w s (cell_of s.store.cells w) refl e a;
          call_keeps = λ n ih k l f w s e a.
              call_kept (visited (by_live_cells b cells_allowed) b rs n) ih k l f w s (ltb s.store.live cells_allowed) refl e a;
        }

    pub live_keep : (n : ℕ) → Keeping K (visited (by_live_cells b cells_allowed) b rs n)
    live_keep n = visit_keeps K (by_live_cells b cells_allowed) hooks n
