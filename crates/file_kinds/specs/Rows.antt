-- The table of kinds in the code: a row has the least length, the step and the greatest length.
use Rattle.std.specs.Prelude.{◌≡◌, ℕ, ◌<◌, List, [], get_or}
use Rattle.definitions.specs.Kinds.{Row, row_of}
use Rattle.laws.proofs.KindRows.{kind_count}

pub record RowHeld (x : List ℕ) (r : Row) : Type 0 where
  pub least : get_or x 0 0 ≡ r.least
  pub step : get_or x 1 0 ≡ r.step
  pub greatest : get_or x 2 0 ≡ r.greatest

pub record RowsOf (table : List (List ℕ)) : Type 0 where
  pub entry : (k : ℕ) → k < kind_count → RowHeld (get_or table k []) (row_of k)
