-- The rule that a run follows, over all cells that it makes, given back or not: a context is a serial number. Cells have serial numbers from 1
-- on in the order in which they are made. What a run gives back is counted, so that this rule stops where the run does, and visits to
-- actuals are listed.
use Rattle.std.specs.Prelude.{ℕ, suc, min, max, List, [], ◌∷◌, ◌++◌, ℤ, length, ltb}
use Rattle.definitions.specs.Layouts.{body_of}
use Rattle.definitions.specs.FormalPlaces.{position_of}
use Rattle.definitions.specs.Rule.{Ending, value, ended, State, Reached, Visit, Contexts, reach, where_cell, visited}
use Rattle.definitions.specs.Cells.{Cell, new_cell, cell_of, with_value, Keeping, under_cell}
use Rattle.definitions.specs.LiveCells.{older, live_after}
use Rattle.definitions.specs.declared.Layout.TheVariants.{Translation}

-- a visit to the actual of a formal: the cell that it is made for, by its serial number, and the formal's position
pub record ActualVisit : Type 0 where
  pub serial : ℕ
  pub position : ℕ

-- how many cells are alive in the run, the most that were, and the oldest cell in which a constructor was remembered, as in `LiveCells`
pub record Account : Type 0 where
  pub live : ℕ
  pub most : ℕ
  pub oldest : ℕ

-- the cells made, with the run's account, and the visits to actuals, the latest first
pub record SerialCells : Type 0 where
  pub cells : List Cell
  pub account : Account
  pub visits : List ActualVisit

abbrev pub no_serial_cells : SerialCells
no_serial_cells = record { cells = []; account = record { live = 0; most = 0; oldest = 0 }; visits = [] }

-- a visit to an actual is listed: for the cell of context w, at position i
unfoldable pub listing_serial : ℕ → ℕ → State SerialCells → State SerialCells
listing_serial w i s =
    let m = s.store in
    record { left = s.left; store = record { cells = m.cells; account = m.account; visits = record { serial = w; position = i } ∷ m.visits } }

-- "a value is remembered", as in `Cells`
unfoldable pub keeping_serial : Keeping SerialCells
keeping_serial w i (value v) s =
    let m = s.store in
    let a = m.account in
    record {
      left = s.left;
      store = record { cells = with_value w i v m.cells; account = record { live = a.live; most = a.most; oldest = older v w a.oldest }; visits = m.visits };
    }
keeping_serial w i (ended n) s = s

unfoldable pub formal_by_serials : List ℕ → Visit ℕ SerialCells → ℕ → ℕ → State SerialCells → Reached ℕ SerialCells
formal_by_serials b visit p w s =
    under_cell keeping_serial b (λ n v t. visit n v (listing_serial w (position_of b p) t)) p w (cell_of s.store.cells w) s

-- the account with one more alive, whose serial number is `own`, and after a call whose own cell that is
unfoldable pub opening_account : ℕ → Account → Account
opening_account own a = record { live = suc a.live; most = max a.most (suc a.live); oldest = own }

unfoldable pub closing_account : ℕ → Account → Ending ℕ → Account → Account
closing_account own before e a =
    record { live = live_after e own a.oldest before.live a.live; most = a.most; oldest = min before.oldest a.oldest }

-- the state with a cell added
unfoldable pub with_serial_cell : ℕ → ℕ → ℕ → State SerialCells → State SerialCells
with_serial_cell label w f s =
    let m = s.store in
    record {
      left = s.left;
      store = record { cells = m.cells ++ (new_cell label w f ∷ []); account = opening_account (suc (length m.cells)) m.account; visits = m.visits };
    }

-- what a call leaves: no cell is taken away
unfoldable pub closed_serial : SerialCells → Reached ℕ SerialCells → Reached ℕ SerialCells
closed_serial before r =
    let m = r.state.store in
    reach r.ending
    (record {
      left = r.state.left;
      store = record { cells = m.cells; account = closing_account (suc (length before.cells)) before.account r.ending m.account; visits = m.visits };
    })

unfoldable pub call_by_serials : List ℕ → ℕ → Visit ℕ SerialCells → ℕ → ℕ → ℕ → State SerialCells → Reached ℕ SerialCells
call_by_serials b cells_allowed visit label f w s =
    where_cell (ltb s.store.account.live cells_allowed) s
    (λ t. closed_serial t.store (visit (body_of Translation b f) (suc (length t.store.cells)) (with_serial_cell label w f t)))

unfoldable pub by_serials : List ℕ → ℕ → Contexts ℕ SerialCells
by_serials b cells_allowed = record { at_formal = formal_by_serials b; at_call = call_by_serials b cells_allowed }

-- the rule, with its three allowances, from no cells
unfoldable pub serial_evaluation : List ℕ → List ℤ → ℕ → ℕ → ℕ → Reached ℕ SerialCells
serial_evaluation b rs steps nesting cells_allowed =
    visited (by_serials b cells_allowed) b rs nesting (body_of Translation b 0) 0 (record { left = steps; store = no_serial_cells })
