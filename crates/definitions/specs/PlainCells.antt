-- The evaluation rule without remembering (document 01, "Run": "a context is a list of labels, kept as cells ..: label, number of the
-- previous cell (0 is the empty context; cells count from 1)"). Since document 02, request 7, a run follows the rule of `Cells`,
-- which remembers; this one tells what remembering saves.
use Rattle.std.specs.Prelude.{ℕ, zero, suc, List, [], ◌∷◌, ◌++◌, ℤ, length, ltb}
use Rattle.std.proofs.Math.Option.{Option, none, some}
use Rattle.std.proofs.Math.ListN.{get_elem?}
use Rattle.definitions.specs.Numbers.{no_actual}
use Rattle.definitions.specs.Layouts.{body_of}
use Rattle.definitions.specs.TranslationNodes.{actual}
use Rattle.definitions.specs.Rule.{State, Reached, Visit, Contexts, reach, ended, node_due, where_cell, visited}
use Rattle.definitions.specs.declared.Layout.TheVariants.{Translation}

pub record PlainCell : Type 0 where
  pub label : ℕ
  pub previous : ℕ

-- the cell of a context, none for the empty one
unfoldable pub plain_cell_of : List PlainCell → ℕ → Option PlainCell
plain_cell_of cs zero = none
plain_cell_of cs (suc c) = get_elem? cs c

-- "formal: visit the actual that the head label names, under the tail"; no head, or no such actual, is 18
unfoldable pub under_tail : List ℕ → Visit ℕ (List PlainCell) → ℕ → Option PlainCell → State (List PlainCell) → Reached ℕ (List PlainCell)
under_tail b visit p none s = reach (ended no_actual) s
under_tail b visit p (some c) s = node_due (actual b p c.label) no_actual s (λ n. visit n c.previous s)

unfoldable pub formal_by_plain_cells : List ℕ → Visit ℕ (List PlainCell) → ℕ → ℕ → State (List PlainCell) → Reached ℕ (List PlainCell)
formal_by_plain_cells b visit p w s = under_tail b visit p (plain_cell_of s.store w) s

-- the state with a cell added
unfoldable pub with_cell : ℕ → ℕ → State (List PlainCell) → State (List PlainCell)
with_cell label w s =
    record { left = s.left; store = s.store ++ (record { label = label; previous = w } ∷ []) }

-- "call: no cell left, stop 13; else add a cell and visit the body under it"
unfoldable pub call_by_plain_cells : List ℕ → ℕ → Visit ℕ (List PlainCell) → ℕ → ℕ → ℕ → State (List PlainCell) → Reached ℕ (List PlainCell)
call_by_plain_cells b cells_allowed visit label f w s =
    where_cell (ltb (length s.store) cells_allowed) s
    (λ t. visit (body_of Translation b f) (suc (length t.store)) (with_cell label w t))

unfoldable pub by_plain_cells : List ℕ → ℕ → Contexts ℕ (List PlainCell)
by_plain_cells b cells_allowed = record { at_formal = formal_by_plain_cells b; at_call = call_by_plain_cells b cells_allowed }

-- "It starts at function 0's body under the empty context": the rule, with its three allowances
unfoldable pub plain_evaluation : List ℕ → List ℤ → ℕ → ℕ → ℕ → Reached ℕ (List PlainCell)
plain_evaluation b rs steps nesting cells_allowed =
    visited (by_plain_cells b cells_allowed) b rs nesting (body_of Translation b 0) 0 (record { left = steps; store = [] })
