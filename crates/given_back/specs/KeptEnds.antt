-- What a run that gives cells back, and the rule over all cells made, have in common with the rule that gives none back: "The same sheet at
-- the same allowances never stops with 13 where it answered before" (document 02, request 9).
use Rattle.std.specs.Prelude.{◌≡◌, ℕ, ◌≤◌, List, length}
use Rattle.definitions.specs.Rule.{Reached}
use Rattle.definitions.specs.Cells.{Cell}
use Rattle.definitions.specs.LiveCells.{LiveCells}
use Rattle.definitions.specs.Run.{Answer, ending_outcome}
use Rattle.given_back.specs.SerialCells.{SerialCells}

-- of the rule over all cells made: one ending, as many steps left, the same cells
pub record KeptEnd (q : Reached ℕ SerialCells) (r : Reached ℕ (List Cell)) : Type 0 where
  pub ending : q.ending ≡ r.ending
  pub left : q.state.left ≡ r.state.left
  pub cells : q.state.store.cells ≡ r.state.store

-- of the run's rule: one outcome and value, as many steps left, and no more cells
pub record NoMoreCells (b : List ℕ) (r : Reached ℕ LiveCells) (q : Reached ℕ (List Cell)) : Type 0 where
  pub outcome : ending_outcome b r.ending ≡ ending_outcome b q.ending
  pub left : r.state.left ≡ q.state.left
  pub cells : length r.state.store.cells ≤ length q.state.store

-- answers with one outcome, value and number of steps, the second with no more cells
pub record SameButCells (x y : Answer) : Type 0 where
  pub outcome : y.outcome ≡ x.outcome
  pub value : y.value ≡ x.value
  pub steps : y.steps ≡ x.steps
  pub cells : y.cells ≤ x.cells
