-- The rule that a run follows, with the visits to actuals listed (document 02, request 8: "each formal of each cell has its actual visited
-- at most once"). With the list forgotten it is that rule. At which positions values are remembered is a parameter, so that rules that
-- remember less can be set beside it.
use Rattle.std.specs.Prelude.{ℕ, zero, suc, List, [], ◌∷◌, Bool, true, false, cond, ℤ, get_or, ltb}
use Rattle.definitions.specs.Layouts.{body_of}
use Rattle.definitions.specs.FormalPlaces.{position_of}
use Rattle.definitions.specs.Rule.{State, Reached, Visit, Contexts, reach, where_cell, visited}
use Rattle.definitions.specs.Cells.{cell_of, Keeping, under_cell}
use Rattle.definitions.specs.LiveCells.{LiveCells, no_live_cells, keeping_live, written, with_live_cell, closing}
use Rattle.definitions.specs.declared.Layout.TheVariants.{Translation}
use Rattle.given_back.specs.SerialCells.{ActualVisit}

-- the cells, the serial number of each, how many were made, and the visits to actuals, the latest first. Cells have serial numbers from 1
-- on in the order in which they are made; a cell keeps its own whatever its number is used for later
pub record Listed : Type 0 where
  pub store : LiveCells
  pub serials : List ℕ
  pub made : ℕ
  pub visits : List ActualVisit

abbrev pub none_listed : Listed
none_listed = record { store = no_live_cells; serials = []; made = 0; visits = [] }

-- with the list forgotten
abbrev pub forgotten : State Listed → State LiveCells
forgotten s = record { left = s.left; store = s.store.store }

abbrev pub forgetting : Reached ℕ Listed → Reached ℕ LiveCells
forgetting r = record { ending = r.ending; state = forgotten r.state }

-- what the rule does to what it keeps
abbrev pub on_store : (State LiveCells → State LiveCells) → State Listed → State Listed
on_store f s =
    let t = f (forgotten s) in
    record { left = t.left; store = record { store = t.store; serials = s.store.serials; made = s.store.made; visits = s.store.visits } }

-- the serial number of the cell of a context
abbrev pub serial_of : List ℕ → ℕ → ℕ
serial_of serials zero = 0
serial_of serials (suc c) = get_or serials c 0

-- a visit to an actual is listed: for the cell of context w, at position i
unfoldable pub listing : ℕ → ℕ → State Listed → State Listed
listing w i s =
    let m = s.store in
    record {
      left = s.left;
      store = record { store = m.store; serials = m.serials; made = m.made; visits = record { serial = serial_of m.serials w; position = i } ∷ m.visits };
    }

-- a formal, as in `LiveCells`
unfoldable pub keeping_listed : (ℕ → Bool) → Keeping Listed
keeping_listed remembers w i e s = cond (remembers i) (on_store (keeping_live w i e) s) s

unfoldable pub formal_listed : List ℕ → (ℕ → Bool) → Visit ℕ Listed → ℕ → ℕ → State Listed → Reached ℕ Listed
formal_listed b remembers visit p w s =
    under_cell (keeping_listed remembers) b (λ n v t. visit n v (listing w (position_of b p) t)) p w (cell_of s.store.store.cells w) s

-- a cell is made in place n: it has the next serial number
unfoldable pub numbering : ℕ → State Listed → State Listed
numbering n s =
    let m = s.store in
    record { left = s.left; store = record { store = m.store; serials = written m.serials n (suc m.made); made = suc m.made; visits = m.visits } }

-- a call, as in `LiveCells`
abbrev pub with_cell_listed : ℕ → ℕ → ℕ → State Listed → State Listed
with_cell_listed label w f s = numbering s.store.store.live (on_store (with_live_cell label w f) s)

unfoldable pub closed_listed : LiveCells → Reached ℕ Listed → Reached ℕ Listed
closed_listed before r =
    let m = r.state.store in
    reach r.ending
    (record { left = r.state.left; store = record { store = closing before r.ending m.store; serials = m.serials; made = m.made; visits = m.visits } })

unfoldable pub call_listed : List ℕ → ℕ → Visit ℕ Listed → ℕ → ℕ → ℕ → State Listed → Reached ℕ Listed
call_listed b cells_allowed visit label f w s =
    where_cell (ltb s.store.store.live cells_allowed) s
    (λ t. closed_listed t.store.store (visit (body_of Translation b f) (suc t.store.store.live) (with_cell_listed label w f t)))

unfoldable pub by_listed : List ℕ → (ℕ → Bool) → ℕ → Contexts ℕ Listed
by_listed b remembers cells_allowed = record { at_formal = formal_listed b remembers; at_call = call_listed b cells_allowed }

-- the rule, with its three allowances, from no cells
unfoldable pub listed_evaluation : List ℕ → (ℕ → Bool) → List ℤ → ℕ → ℕ → ℕ → Reached ℕ Listed
listed_evaluation b remembers rs steps nesting cells_allowed =
    visited (by_listed b remembers cells_allowed) b rs nesting (body_of Translation b 0) 0 (record { left = steps; store = none_listed })

-- the rule that a run follows remembers at every position
abbrev pub every_position : ℕ → Bool
every_position i = true

abbrev pub no_position : ℕ → Bool
no_position i = false

-- the rule that a run follows, with the list; the visits to actuals that it makes, and how many cells it makes
unfoldable pub listed_end : List ℕ → List ℤ → ℕ → ℕ → ℕ → Reached ℕ Listed
listed_end b rs steps nesting cells_allowed = listed_evaluation b every_position rs steps nesting cells_allowed

abbrev pub actual_visits : List ℕ → List ℤ → ℕ → ℕ → ℕ → List ActualVisit
actual_visits b rs steps nesting cells_allowed = (listed_end b rs steps nesting cells_allowed).state.store.visits

abbrev pub cells_made : List ℕ → List ℤ → ℕ → ℕ → ℕ → ℕ
cells_made b rs steps nesting cells_allowed = (listed_end b rs steps nesting cells_allowed).state.store.made
