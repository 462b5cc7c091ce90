-- A rule's outcomes and values, as a function of its three allowances.
use Rattle.std.specs.Prelude.{◌≡◌, ℕ}
use Rattle.definitions.specs.Outcomes.{Outcome}

-- this outcome and value is given at some step, nesting and cell allowances
pub record Gives (outcome : ℕ → ℕ → ℕ → Outcome) (a : Outcome) : Type 0 where
  pub steps : ℕ
  pub nesting : ℕ
  pub cells_allowed : ℕ
  pub gives : outcome steps nesting cells_allowed ≡ a
