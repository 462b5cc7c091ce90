-- What two runs that go alike have in common (document 02, request 4): "Outcome, value, steps and number of cells of any sheet's
-- run are those of the old labelling".
use Rattle.std.specs.Prelude.{◌≡◌, ℕ, List, ℤ, length}
use Rattle.definitions.specs.Rule.{Reached}
use Rattle.definitions.specs.LiveCells.{LiveCells}
use Rattle.definitions.specs.Run.{Answer, ending_outcome, rule_end}
use Rattle.given_back.specs.SerialCells.{SerialCells}

-- ends of the rule over files t and u: outcome and value, steps left, the most cells alive together
pub record SameEnds (t u : List ℕ) (r q : Reached ℕ LiveCells) : Type 0 where
  pub outcome : ending_outcome t r.ending ≡ ending_outcome u q.ending
  pub left : r.state.left ≡ q.state.left
  pub cells : length r.state.store.cells ≡ length q.state.store.cells

-- ends of the rule over cells by serial number: outcome and value, steps left, the run's account
pub record SameSerialEnds (t u : List ℕ) (r q : Reached ℕ SerialCells) : Type 0 where
  pub outcome : ending_outcome t r.ending ≡ ending_outcome u q.ending
  pub left : r.state.left ≡ q.state.left
  pub account : r.state.store.account ≡ q.state.store.account

-- the rule's, with these readings and allowances
abbrev pub SameRuns : List ℕ → List ℕ → List ℤ → ℕ → ℕ → ℕ → Type 0
SameRuns t u rs steps nesting cells_allowed = SameEnds t u (rule_end t rs steps nesting cells_allowed) (rule_end u rs steps nesting cells_allowed)

-- answers, refusals included
pub record SameAnswers (x y : Answer) : Type 0 where
  pub outcome : x.outcome ≡ y.outcome
  pub value : x.value ≡ y.value
  pub steps : x.steps ≡ y.steps
  pub cells : x.cells ≡ y.cells
