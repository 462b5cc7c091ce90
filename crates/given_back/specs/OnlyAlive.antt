-- What is alive refers to nothing that was given back: the constructor that comes out, the previous cell of each cell that is alive, and what
-- each remembers.
use Rattle.std.specs.Prelude.{◌≡◌, ℕ, ◌≤◌, ◌<◌}
use Rattle.std.proofs.Math.Option.{some}
use Rattle.definitions.specs.Rule.{Ending, value, constructor}
use Rattle.definitions.specs.Cells.{Cell, cell_of, entry_at}
use Rattle.definitions.specs.LiveCells.{LiveCells}

pub record OnlyAlive (e : Ending ℕ) (m : LiveCells) : Type 0 where
  pub comes : (k c : ℕ) → e ≡ value (constructor k c) → c ≤ m.live
  pub previous : (c : ℕ) (x : Cell) → c ≤ m.live → cell_of m.cells c ≡ some x → x.previous < c
  pub remembers : (c : ℕ) (x : Cell) (i k d : ℕ) → c ≤ m.live → cell_of m.cells c ≡ some x → entry_at x i ≡ some (constructor k d) → d ≤ m.live
