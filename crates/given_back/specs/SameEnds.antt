-- What the rule that a run follows, and the same with the visits to actuals listed, have in common at their ends with the rule over serial
-- numbers: outcome, steps left and the most cells alive together; with the list also the cells made and the visits to actuals.
use Rattle.std.specs.Prelude.{◌≡◌, ℕ, ◌≤◌, List, length}
use Rattle.definitions.specs.Rule.{Reached}
use Rattle.definitions.specs.LiveCells.{LiveCells}
use Rattle.definitions.specs.Run.{ending_outcome}
use Rattle.given_back.specs.SerialCells.{SerialCells}
use Rattle.given_back.specs.ListedVisits.{Listed}

-- what the run's rule, with the list, and the rule over serial numbers end with; no more cells were alive together than were made
pub record SameRun (b : List ℕ) (r : Reached ℕ Listed) (q : Reached ℕ SerialCells) : Type 0 where
  pub outcome : ending_outcome b r.ending ≡ ending_outcome b q.ending
  pub left : r.state.left ≡ q.state.left
  pub most : length r.state.store.store.cells ≡ q.state.store.account.most
  pub made : r.state.store.made ≡ length q.state.store.cells
  pub few : length r.state.store.store.cells ≤ r.state.store.made
  pub visits : r.state.store.visits ≡ q.state.store.visits

-- so for the run's rule without the list
pub record SameEnd (b : List ℕ) (r : Reached ℕ LiveCells) (q : Reached ℕ SerialCells) : Type 0 where
  pub outcome : ending_outcome b r.ending ≡ ending_outcome b q.ending
  pub left : r.state.left ≡ q.state.left
  pub most : length r.state.store.cells ≡ q.state.store.account.most
  pub few : length r.state.store.cells ≤ length q.state.store.cells
