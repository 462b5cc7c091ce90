-- Contexts kept as cells that remember the values of formals (document 01, "Run"; document 02, request 7: "a cell remembers the value
-- of each formal"), and the evaluation rule over them. Since document 02, request 9, a run follows the rule of `LiveCells`, which gives
-- cells back; this one keeps them all.
use Rattle.std.specs.Prelude.{ℕ, zero, suc, List, [], ◌∷◌, ◌++◌, Bool, true, false, ℤ, length, get_or, set, replicate, ltb, eqb}
use Rattle.std.proofs.Math.Option.{Option, none, some}
use Rattle.std.proofs.Math.ListN.{get_elem?}
use Rattle.definitions.specs.Sizes.{most_fields}
use Rattle.definitions.specs.Numbers.{no_actual}
use Rattle.definitions.specs.Layouts.{body_of}
use Rattle.definitions.specs.FormalPlaces.{function_of, position_of}
use Rattle.definitions.specs.TranslationNodes.{actual}
use Rattle.definitions.specs.Rule.{Value, Ending, value, ended, State, Reached, Visit, Contexts, reach, node_due, where_cell, visited}
use Rattle.definitions.specs.declared.Layout.TheVariants.{Translation}

-- what a cell remembers at a position: a value, or nothing
abbrev pub Entry : Type 0
Entry = Option (Value ℕ)

-- "label, previous, then eight entries by position"; the callee is the function whose call made the cell
pub record Cell : Type 0 where
  pub label : ℕ
  pub previous : ℕ
  pub callee : ℕ
  pub entries : List Entry

-- "New cells have empty entries"
unfoldable pub new_cell : ℕ → ℕ → ℕ → Cell
new_cell label w f = record { label = label; previous = w; callee = f; entries = replicate most_fields none }

-- the cell of a context, none for the empty one
unfoldable pub cell_of : List Cell → ℕ → Option Cell
cell_of cs zero = none
cell_of cs (suc c) = get_elem? cs c

-- what a cell remembers at a position, and the cell that remembers a value there
unfoldable pub entry_at : Cell → ℕ → Entry
entry_at c i = get_or c.entries i none

unfoldable pub with_entry : ℕ → Value ℕ → Cell → Cell
with_entry i v c = record { label = c.label; previous = c.previous; callee = c.callee; entries = set c.entries i (some v) }

-- the cells with one changed
unfoldable pub changed : (Cell → Cell) → List Cell → ℕ → List Cell
changed f [] c = []
changed f (x ∷ cs) zero = f x ∷ cs
changed f (x ∷ cs) (suc c) = x ∷ changed f cs c

-- the cells in which the one of context w remembers a value
unfoldable pub with_value : ℕ → ℕ → Value ℕ → List Cell → List Cell
with_value zero i v cs = cs
with_value (suc c) i v cs = changed (with_entry i v) cs c

-- how what is kept, of type `S`, has the cell of a context remember at a position what a visit ended with
abbrev pub Keeping : Type 0 → Type 0
Keeping S = ℕ → ℕ → Ending ℕ → State S → State S

-- "a value is remembered": of a visit's end, a value and never a stop or a fault
unfoldable pub keeping : Keeping (List Cell)
keeping w i (value v) s = record { left = s.left; store = with_value w i v s.store }
keeping w i (ended n) s = s

unfoldable pub remembered : {S : Type 0} → Keeping S → ℕ → ℕ → Reached ℕ S → Reached ℕ S
remembered keep w i r = reach r.ending (keep w i r.ending r.state)

-- "if the head cell remembers it, that value is used, else .."
unfoldable pub recalled : {S : Type 0} → Entry → State S → Reached ℕ S → Reached ℕ S
recalled none s otherwise = otherwise
recalled (some v) s otherwise = reach (value v) s

-- "A formal visited under a cell that another function's call made remembers nothing", and uses nothing
unfoldable pub where_own : {S : Type 0} → Keeping S → Bool → ℕ → ℕ → Entry → State S → Reached ℕ S → Reached ℕ S
where_own keep false w i o s actual = actual
where_own keep true w i o s actual = recalled o s (remembered keep w i actual)

-- "formal: visit the actual that the head label names, under the tail"; no head, or no such actual, is 18
unfoldable pub under_cell : {S : Type 0} → Keeping S → List ℕ → Visit ℕ S → ℕ → ℕ → Option Cell → State S → Reached ℕ S
under_cell keep b visit p w none s = reach (ended no_actual) s
under_cell keep b visit p w (some c) s =
    where_own keep (eqb (function_of b p) c.callee) w (position_of b p) (entry_at c (position_of b p)) s
    (node_due (actual b p c.label) no_actual s (λ n. visit n c.previous s))

unfoldable pub formal_by_cells : List ℕ → Visit ℕ (List Cell) → ℕ → ℕ → State (List Cell) → Reached ℕ (List Cell)
formal_by_cells b visit p w s = under_cell keeping b visit p w (cell_of s.store w) s

-- the state with a cell added
unfoldable pub with_cell : ℕ → ℕ → ℕ → State (List Cell) → State (List Cell)
with_cell label w f s = record { left = s.left; store = s.store ++ (new_cell label w f ∷ []) }

-- "call: no cell left, stop 13; else add a cell and visit the body under it"
unfoldable pub call_by_cells : List ℕ → ℕ → Visit ℕ (List Cell) → ℕ → ℕ → ℕ → State (List Cell) → Reached ℕ (List Cell)
call_by_cells b cells_allowed visit label f w s =
    where_cell (ltb (length s.store) cells_allowed) s
    (λ t. visit (body_of Translation b f) (suc (length t.store)) (with_cell label w f t))

unfoldable pub by_cells : List ℕ → ℕ → Contexts ℕ (List Cell)
by_cells b cells_allowed = record { at_formal = formal_by_cells b; at_call = call_by_cells b cells_allowed }

-- "It starts at function 0's body under the empty context": the rule, with its three allowances
unfoldable pub evaluation : List ℕ → List ℤ → ℕ → ℕ → ℕ → Reached ℕ (List Cell)
evaluation b rs steps nesting cells_allowed =
    visited (by_cells b cells_allowed) b rs nesting (body_of Translation b 0) 0 (record { left = steps; store = [] })
