-- The walk over a file's records (document 01, "Order": 2; record by record 1, 3, 1, 3, 4; then 3 for bytes left over).
use Rattle.std.specs.Prelude.{◌≡◌, ℕ, ◌+◌, ◌≤◌, List, length}
use Rattle.definitions.specs.Layouts.{first_node, due}
use Rattle.definitions.specs.Shape.{file_shape}
use Rattle.definitions.specs.declared.Layout.{Layout}
use Rattle.definitions.specs.Verdict.{Verdict, Accepted}
use Rattle.file_kinds.specs.Rows.{RowsOf}
use Rattle.file_records.specs.Index.{Indexed}

-- what a walk gives: the verdict on the file's shape, and where it is accepted the index of its records
pub record Walked (y : Layout) (b : List ℕ) (v : Verdict) (starts : List ℕ) : Type 0 where
  pub verdict : v ≡ file_shape y b
  pub index : v ≡ Accepted → Indexed b starts (due b)

-- record r of a walk, which starts at a place inside the file: the rows of the kinds, and the index up to this record
pub record WalkAt (rows : List (List ℕ)) (b starts : List ℕ) (first r at : ℕ) : Type 0 where
  pub kinds : RowsOf rows
  pub index : Indexed b starts (r + 1)
  pub nodes_from : first ≡ first_node b
  pub inside : at ≤ length b
