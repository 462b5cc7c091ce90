-- The evaluation rule over lent bytes: contexts kept as cells of 68 bytes in the caller's buffer, with the count of those alive.
use Rattle.std.specs.Prelude.{ℕ, suc, min, max, List, Bool, true, false, ℤ, ltb, eqb}
use Rattle.std.proofs.Math.Option.{some}
use Rattle.definitions.specs.Numbers.{no_actual}
use Rattle.definitions.specs.Layouts.{body_of}
use Rattle.definitions.specs.FormalPlaces.{function_of, position_of}
use Rattle.definitions.specs.TranslationNodes.{actual}
use Rattle.definitions.specs.Rule.{Ending, value, ended, State, Reached, Visit, Contexts, reach, node_due, where_cell, visited}
use Rattle.definitions.specs.Cells.{Keeping, where_own}
use Rattle.definitions.specs.LiveCells.{older, live_after}
use Rattle.definitions.specs.CellBytes.{entry_words}
use Rattle.definitions.specs.Listing.{label_at, previous_at}
use Rattle.definitions.specs.declared.Layout.TheVariants.{Translation}
use Rattle.cells.specs.LentCells.{callee_at, entry_number, entry_of, entry_written, cell_added}

-- the lent bytes, how many cells are alive, the most that were alive together, and the oldest cell in which a constructor was remembered, as
-- in `LiveCells`
pub record Lent : Type 0 where
  pub bytes : List ℕ
  pub live : ℕ
  pub most : ℕ
  pub oldest : ℕ

-- no cell alive
abbrev pub none_alive : List ℕ → Lent
none_alive bytes = record { bytes = bytes; live = 0; most = 0; oldest = 0 }

-- "a value is remembered", never a stop or a fault
unfoldable pub keeping_lent : Keeping Lent
keeping_lent w i (value v) s =
    let m = s.store in
    record {
      left = s.left;
      store = record { bytes = entry_written m.bytes w i (entry_words (some v)); live = m.live; most = m.most; oldest = older v w m.oldest };
    }
keeping_lent w i (ended n) s = s

-- "formal: visit the actual that the head label names, under the tail"; the empty context has no head
unfoldable pub under_lent : List ℕ → Visit ℕ Lent → ℕ → ℕ → State Lent → Bool → Reached ℕ Lent
under_lent b visit p w s true = reach (ended no_actual) s
under_lent b visit p w s false =
    where_own keeping_lent (eqb (function_of b p) (callee_at s.store.bytes w)) w (position_of b p)
    (entry_of (entry_number s.store.bytes w (position_of b p))) s
    (node_due (actual b p (label_at s.store.bytes w)) no_actual s (λ n. visit n (previous_at s.store.bytes w) s))

unfoldable pub formal_by_lent : List ℕ → Visit ℕ Lent → ℕ → ℕ → State Lent → Reached ℕ Lent
formal_by_lent b visit p w s = under_lent b visit p w s (eqb w 0)

-- the state with a cell more alive
unfoldable pub with_lent_cell : ℕ → ℕ → ℕ → State Lent → State Lent
with_lent_cell label w f s =
    let m = s.store in
    let own = suc m.live in
    record { left = s.left; store = record { bytes = cell_added m.bytes m.live label w f; live = own; most = max m.most own; oldest = own } }

-- what a call leaves, by how many cells were alive before it and the oldest before it
unfoldable pub closing_lent : ℕ → ℕ → Ending ℕ → Lent → Lent
closing_lent before oldest e m =
    record {
      bytes = m.bytes;
      live = live_after e (suc before) m.oldest before m.live;
      most = m.most;
      oldest = min oldest m.oldest;
    }

unfoldable pub closed_lent : ℕ → ℕ → Reached ℕ Lent → Reached ℕ Lent
closed_lent before oldest r =
    reach r.ending (record { left = r.state.left; store = closing_lent before oldest r.ending r.state.store })

-- "call: no cell left, stop 13; else add a cell and visit the body under it"
unfoldable pub call_by_lent : List ℕ → ℕ → Visit ℕ Lent → ℕ → ℕ → ℕ → State Lent → Reached ℕ Lent
call_by_lent b cells_allowed visit label f w s =
    where_cell (ltb s.store.live cells_allowed) s
    (λ t. closed_lent t.store.live t.store.oldest (visit (body_of Translation b f) (suc t.store.live) (with_lent_cell label w f t)))

unfoldable pub by_lent : List ℕ → ℕ → Contexts ℕ Lent
by_lent b cells_allowed = record { at_formal = formal_by_lent b; at_call = call_by_lent b cells_allowed }

-- "It starts at function 0's body under the empty context": the rule, with its three allowances and the lent bytes
unfoldable pub lent_run : List ℕ → List ℤ → ℕ → ℕ → ℕ → List ℕ → Reached ℕ Lent
lent_run b rs steps nesting cells_allowed before =
    visited (by_lent b cells_allowed) b rs nesting (body_of Translation b 0) 0 (record { left = steps; store = none_alive before })
