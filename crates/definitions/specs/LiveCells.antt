-- Cells given back (document 02, request 9: "The cell allowance now limits live cells"), and the evaluation rule with them, which a run
-- follows.
use Rattle.std.specs.Prelude.{ℕ, zero, suc, min, List, [], ◌∷◌, cond, ℤ, ltb, leb}
use Rattle.definitions.specs.Layouts.{body_of}
use Rattle.definitions.specs.Rule.{Value, integer, constructor, Ending, value, ended, State, Reached, Visit, Contexts, reach, where_cell, visited}
use Rattle.definitions.specs.Cells.{Cell, new_cell, cell_of, with_value, Keeping, under_cell}
use Rattle.definitions.specs.declared.Layout.TheVariants.{Translation}

-- the cells written, of which the first `live` are alive: as many as were alive together at most. `oldest` is the oldest cell in which a
-- constructor was remembered since the newest open call was made, or the cell of that call where that is older; 0 where no call is open
pub record LiveCells : Type 0 where
  pub cells : List Cell
  pub live : ℕ
  pub oldest : ℕ

abbrev pub no_live_cells : LiveCells
no_live_cells = record { cells = []; live = 0; oldest = 0 }

-- the oldest cell, once the cell of context w remembers a value
unfoldable pub older : Value ℕ → ℕ → ℕ → ℕ
older (integer z) w oldest = oldest
older (constructor k c) w oldest = min oldest w

-- "a value is remembered", as in `Cells`
unfoldable pub keeping_live : Keeping LiveCells
keeping_live w i (value v) s =
    let m = s.store in
    record { left = s.left; store = record { cells = with_value w i v m.cells; live = m.live; oldest = older v w m.oldest } }
keeping_live w i (ended n) s = s

unfoldable pub formal_by_live_cells : List ℕ → Visit ℕ LiveCells → ℕ → ℕ → State LiveCells → Reached ℕ LiveCells
formal_by_live_cells b visit p w s = under_cell keeping_live b visit p w (cell_of s.store.cells w) s

-- a list with an element written at place n, over the one there or at the end
unfoldable pub written : {A : Type 0} → List A → ℕ → A → List A
written [] n x = x ∷ []
written (y ∷ ys) zero x = x ∷ ys
written (y ∷ ys) (suc n) x = y ∷ written ys n x

-- the state with a cell more alive: cells are "used again, lowest number first"
unfoldable pub with_live_cell : ℕ → ℕ → ℕ → State LiveCells → State LiveCells
with_live_cell label w f s =
    let m = s.store in
    record { left = s.left; store = record { cells = written m.cells m.live (new_cell label w f); live = suc m.live; oldest = suc m.live } }

-- how many cells are alive after the visit of a call, whose own cell is `own`, where `before` were alive before it: "When the visit of a call
-- ends with a number, the cells made since that call, its own included, are given back .., unless during that visit a constructor was
-- remembered in a cell older than the call"
unfoldable pub live_after : Ending ℕ → ℕ → ℕ → ℕ → ℕ → ℕ
live_after (value (integer z)) own oldest before live = cond (leb own oldest) before live
live_after (value (constructor k c)) own oldest before live = live
live_after (ended n) own oldest before live = live

-- what a call leaves, by what was kept before it: "Giving back writes no byte"
unfoldable pub closing : LiveCells → Ending ℕ → LiveCells → LiveCells
closing before e m =
    record { cells = m.cells; live = live_after e (suc before.live) m.oldest before.live m.live; oldest = min before.oldest m.oldest }

unfoldable pub closed : LiveCells → Reached ℕ LiveCells → Reached ℕ LiveCells
closed before r = reach r.ending (record { left = r.state.left; store = closing before r.ending r.state.store })

-- "call: no cell left, stop 13; else add a cell and visit the body under it"
unfoldable pub call_by_live_cells : List ℕ → ℕ → Visit ℕ LiveCells → ℕ → ℕ → ℕ → State LiveCells → Reached ℕ LiveCells
call_by_live_cells b cells_allowed visit label f w s =
    where_cell (ltb s.store.live cells_allowed) s
    (λ t. closed t.store (visit (body_of Translation b f) (suc t.store.live) (with_live_cell label w f t)))

unfoldable pub by_live_cells : List ℕ → ℕ → Contexts ℕ LiveCells
by_live_cells b cells_allowed = record { at_formal = formal_by_live_cells b; at_call = call_by_live_cells b cells_allowed }

-- "It starts at function 0's body under the empty context": the rule, with its three allowances
unfoldable pub live_evaluation : List ℕ → List ℤ → ℕ → ℕ → ℕ → Reached ℕ LiveCells
live_evaluation b rs steps nesting cells_allowed =
    visited (by_live_cells b cells_allowed) b rs nesting (body_of Translation b 0) 0 (record { left = steps; store = no_live_cells })
