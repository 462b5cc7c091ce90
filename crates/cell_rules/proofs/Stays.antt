-- An end of the rule that a run follows that is no stop stays at all larger allowances, each of the three at least as large, with so many
-- more steps left over: of any translation file.
use mathlib.Core.Path.{◌≡◌, refl, sym}
use Prim.Native.Nat.{ℕ, suc, ◌+◌, ◌-◌, ◌≤◌}
use mathlib.Core.List.{List}
use mathlib.Core.Option.{Option, none, some}
use mathlib.Core.Bool.{Bool, true, false, true≢false}
use native.Mathlib.Omega.{arith}
use lib.IntN.{ℤ}
use lib.Dec.{ltb}
use borrow.Author.Tests.{ltb-true, ltb-false}
use Rattle.definitions.specs.Numbers.{no_actual, is_stop}
use Rattle.definitions.specs.Ranges.{within}
use Rattle.definitions.specs.Layouts.{body_of}
use Rattle.definitions.specs.TranslationNodes.{actual}
use Rattle.definitions.specs.Rule.{Ending, value, ended, integer, constructor, State, Reached, Visit, reach, where_cell}
use Rattle.definitions.specs.Cells.{Entry, Cell, cell_of, Keeping, remembered, recalled, where_own, under_cell}
use Rattle.definitions.specs.LiveCells.{LiveCells, no_live_cells, keeping_live, formal_by_live_cells, with_live_cell, closed, call_by_live_cells, by_live_cells, live_evaluation}
use Rattle.definitions.specs.Run.{rule_end}
use Rattle.definitions.specs.declared.Layout.TheVariants.{Translation}
use Rattle.rule_laws.specs.Found.{stopped}
use Rattle.rule_laws.specs.SideBySide.{integers, constructors, ends, Both, cut, arrive, Beside}
use Rattle.rule_laws.specs.SameNodes.{same}
use Rattle.rule_laws.specs.Later.{later, more_steps, LaterHooks}
use Rattle.rule_laws.proofs.Lockstep.{both_back, both_here, both_due, due_itself}
use Rattle.rule_laws.proofs.Later.{visit_later}

-- where there is room, there is with more cells allowed
room_kept : (k cells_allowed cells_allowed' : ℕ) (x : Bool) → cells_allowed ≤ cells_allowed' → ltb k cells_allowed' ≡ x → ltb k cells_allowed ≡ true → x ≡ true
room_kept k cells_allowed cells_allowed' true more e h = refl
room_kept k cells_allowed cells_allowed' false more e h = absurd (omega (arith, more, ltb-true k cells_allowed h, ltb-false k cells_allowed' e))

-- what a formal does with what is kept of contexts, and where a cell is due, for any of them
module _ {S : Type 0} (n : ℕ) where
  recalled_later : (s : State S) (y : Entry) {r q : Reached ℕ S} → Both (more_steps n) s r q → Both (more_steps n) s (recalled y s r) (recalled y (later n s) q)
  unfolding recalled
  recalled_later s none b = b
  recalled_later s (some (integer z)) b = both_here (more_steps n) s integers
  recalled_later s (some (constructor k w)) b = both_here (more_steps n) s (constructors same)

  -- what is kept changes in both, or in neither
  module _ (keep : Keeping S) (kept : (w i : ℕ) (e : Ending ℕ) (s : State S) → keep w i e (later n s) ≡ later n (keep w i e s)) where
    remembered_later : (w i : ℕ) {s : State S} {r q : Reached ℕ S} → Both (more_steps n) s r q → Both (more_steps n) s (remembered keep w i r) (remembered keep w i q)
    unfolding remembered reach
    remembered_later w i (cut h) = cut h
    remembered_later w i (arrive v l (integers {z})) = rw (kept w i (value (integer z)) v) (arrive (keep w i (value (integer z)) v) tt integers)
    remembered_later w i (arrive v l (constructors {k} {c} same)) =
        rw (kept w i (value (constructor k c)) v) (arrive (keep w i (value (constructor k c)) v) tt (constructors same))
    remembered_later w i (arrive v l (ends {n = x})) = rw (kept w i (ended x) v) (arrive (keep w i (ended x) v) tt ends)

    own_later : (s : State S) (x : Bool) (w i : ℕ) (y : Entry) {r q : Reached ℕ S} → Both (more_steps n) s r q
        → Both (more_steps n) s (where_own keep x w i y s r) (where_own keep x w i y (later n s) q)
    unfolding where_own
    own_later s true w i y b = recalled_later s y (remembered_later w i b)
    own_later s false w i y b = b

    under_later : (t : List ℕ) {visit visit' : Visit ℕ S} → Beside (more_steps n) visit visit' → (s : State S) (p w : ℕ) (o : Option Cell)
        → Both (more_steps n) s (under_cell keep t visit p w o s) (under_cell keep t visit' p w o (later n s))
    unfolding under_cell
    under_later t f s p w none = both_here (more_steps n) s ends
    under_later t f s p w (some c) =
        own_later s _ w _ _ (both_due (more_steps n) s c.previous c.previous no_actual f
        (due_itself (more_steps n) s c.previous c.previous (actual t p c.label) (λ j e. same)))

  cell_later : (s : State S) (x y : Bool) (go go' : State S → Reached ℕ S) → (x ≡ true → y ≡ true)
      → Both (more_steps n) s (go s) (go' (later n s)) → Both (more_steps n) s (where_cell x s go) (where_cell y (later n s) go')
  unfolding where_cell reach is_stop within
  cell_later s false y go go' h b = cut refl
  cell_later s true false go go' h b = absurd (true≢false (sym (h refl)))
  cell_later s true true go go' h b = b

  room_later : (cells_allowed cells_allowed' : ℕ) → cells_allowed ≤ cells_allowed' → (k : ℕ) (s : State S) (go go' : State S → Reached ℕ S)
      → Both (more_steps n) s (go s) (go' (later n s))
      → Both (more_steps n) s (where_cell (ltb k cells_allowed) s go) (where_cell (ltb k cells_allowed') (later n s) go')
  room_later cells_allowed cells_allowed' more k s go go' b =
      cell_later s (ltb k cells_allowed) (ltb k cells_allowed') go go' (room_kept k cells_allowed cells_allowed' (ltb k cells_allowed') more refl) b

-- the rule that a run follows
module _ (n : ℕ) where
  keeping_later : (w i : ℕ) (e : Ending ℕ) (s : State LiveCells) → keeping_live w i e (later n s) ≡ later n (keeping_live w i e s)
  unfolding keeping_live
  keeping_later w i (value v) s = refl
  keeping_later w i (ended x) s = refl

  -- what a call leaves
  closed_later : (before : LiveCells) {s : State LiveCells} {r q : Reached ℕ LiveCells} → Both (more_steps n) s r q
      → Both (more_steps n) s (closed before r) (closed before q)
  unfolding closed reach
  closed_later before (cut h) = cut h
  closed_later before (arrive v l (integers {z})) = arrive (closed before (reach (value (integer z)) v)).state tt integers
  closed_later before (arrive v l (constructors {k} {c} same)) = arrive (closed before (reach (value (constructor k c)) v)).state tt (constructors same)
  closed_later before (arrive v l (ends {n = x})) = arrive (closed before (reach (ended x) v)).state tt ends

  hooks : (t : List ℕ) (cells_allowed cells_allowed' : ℕ) → cells_allowed ≤ cells_allowed' → LaterHooks (by_live_cells t cells_allowed) (by_live_cells t cells_allowed') n
  unfolding by_live_cells formal_by_live_cells call_by_live_cells with_live_cell
  hooks t cells_allowed cells_allowed' more =
      record {
        formal_later = λ f s p w. under_later n keeping_live keeping_later t f s p w (cell_of s.store.cells w);
        call_later = λ g s l f w.
            room_later n cells_allowed cells_allowed' more s.store.live s _ _
            (closed_later s.store
            (both_back (more_steps n) {v = with_live_cell l w f s} tt
            (g.both (with_live_cell l w f s) (body_of Translation t f) (body_of Translation t f) (suc s.store.live) (suc s.store.live) same)));
      }

module _ (t : List ℕ) (rs : List ℤ) {nesting cells_allowed nesting' cells_allowed' : ℕ} (deeper : nesting ≤ nesting') (more : cells_allowed ≤ cells_allowed') where
  pub rule_end_stays : (steps steps' : ℕ) → steps ≤ steps' → stopped (rule_end t rs steps nesting cells_allowed).ending ≡ false
      → rule_end t rs steps' nesting' cells_allowed'
      ≡ record {
        ending = (rule_end t rs steps nesting cells_allowed).ending;
        state = later (steps' - steps) (rule_end t rs steps nesting cells_allowed).state;
      }
  unfolding rule_end live_evaluation
  rule_end_stays steps steps' h g =
      let n = steps' - steps in
      let e : steps + n ≡ steps' = omega arith in
      rw e at (visit_later (by_live_cells t cells_allowed) (by_live_cells t cells_allowed') t rs n (hooks n t cells_allowed cells_allowed' more) nesting nesting' deeper
      (record { left = steps; store = no_live_cells }) (body_of Translation t 0) 0 g)
