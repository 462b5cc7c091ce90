-- Cells in order (document 02, request 7: "a cell remembers the value of each formal"): what a cell remembers at a formal's position is
-- what the actual that the cell's label names ends with under the labels of the previous cell.
use Rattle.std.specs.Prelude.{◌≡◌, ℕ, ◌+◌, ◌≤◌, List, ℤ, length}
use Rattle.std.proofs.Math.Option.{some}
use Rattle.std.proofs.Math.ListN.{get_elem?}
use Rattle.definitions.specs.FormalPlaces.{function_of, position_of}
use Rattle.definitions.specs.TranslationNodes.{translation_node_of, actual}
use Rattle.definitions.specs.Rule.{Value, Ending, value, State}
use Rattle.definitions.specs.Cells.{Cell, entry_at}
use Rattle.rule_laws.specs.Derivations.{Trace, steps_of, cells_of, Derivation}
use Rattle.rule_laws.specs.Reads.{Shows}
use Rattle.cell_rules.specs.Contexts.{Head, head_of, cell_heads, Stands, Kept}

module _ (t : List ℕ) (rs : List ℤ) where
  -- v is what the actual of the formal in position i of a cell with this head ends with
  pub record Derived (cs : List Cell) (h : Head) (i : ℕ) (v : Value ℕ) : Type 0 where
    pub formal : ℕ
    pub function : function_of t formal ≡ h.callee
    pub position : position_of t formal ≡ i
    pub node : ℕ
    pub named : actual t formal h.label ≡ some node
    pub labels : List ℕ
    pub stands : Stands cell_heads cs h.previous labels
    pub trace : Trace
    pub ending : Ending (List ℕ)
    pub visits : Derivation t rs (translation_node_of t node) node labels trace ending
    pub shows : Shows (λ k w ws. Stands cell_heads cs w ws) (value v) ending

  pub record InOrder (cs : List Cell) : Type 0 where
    pub entries : (c i : ℕ) (x : Cell) (v : Value ℕ) → get_elem? cs c ≡ some x → entry_at x i ≡ some v → Derived cs (head_of x) i v

  -- cell w stands for these labels, and the cells are in order
  pub record StandsInOrder (cs : List Cell) (w : ℕ) (ws : List ℕ) : Type 0 where
    pub stands : Stands cell_heads cs w ws
    pub order : InOrder cs

  -- a visit of labels with this trace takes at least the steps and cells of a visit of cells, which keeps the heads of the cells
  -- that there were and leaves the cells in order
  pub record Spends (a : Trace) (s q : State (List Cell)) : Type 0 where
    pub steps : s.left ≤ steps_of a + q.left
    pub cells : length q.store ≤ length s.store + cells_of a
    pub kept : Kept cell_heads s.store q.store
    pub order : InOrder q.store
