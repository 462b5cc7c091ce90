-- Cells without remembering, read as lists of labels: what a cell stands for at a cell allowance, and what a visit does to the cells.
use Rattle.std.specs.Prelude.{◌≡◌, ℕ, ◌+◌, ◌≤◌, List, length}
use Rattle.definitions.specs.Rule.{State}
use Rattle.definitions.specs.PlainCells.{PlainCell}
use Rattle.rule_laws.specs.Derivations.{Trace, depth_of, steps_of, cells_of}
use Rattle.cell_rules.specs.Contexts.{plain_heads, Stands, Kept}

-- cell w stands for these labels, and there is room for the cells
pub record StandsWithin (cells_allowed : ℕ) (cs : List PlainCell) (w : ℕ) (ws : List ℕ) : Type 0 where
  pub stands : Stands plain_heads cs w ws
  pub room : length cs ≤ cells_allowed

-- a visit with this trace, at a nesting and a cell allowance, takes its steps and cells, and keeps the cells that there were
pub record Takes (cells_allowed nesting : ℕ) (a : Trace) (s q : State (List PlainCell)) : Type 0 where
  pub depth : depth_of a ≤ nesting
  pub steps : s.left ≡ steps_of a + q.left
  pub cells : length q.store ≡ length s.store + cells_of a
  pub room : length q.store ≤ cells_allowed
  pub kept : Kept plain_heads s.store q.store
