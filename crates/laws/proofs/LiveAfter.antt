-- No more cells are alive after a call than were before it or at its end.
use Prim.Native.Nat.{ℕ, ◌≤◌}
use mathlib.Core.Bool.{Bool, true, false, cond}
use lib.Dec.{leb}
use Rattle.definitions.specs.Rule.{Ending, value, ended, integer, constructor}
use Rattle.definitions.specs.LiveCells.{live_after}

pub live_after_law : (e : Ending ℕ) (own oldest before live n : ℕ) → before ≤ n → live ≤ n → live_after e own oldest before live ≤ n
unfolding live_after
live_after_law (value (integer z)) own oldest before live n p q = branch (leb own oldest)
  where
    branch : (x : Bool) → cond x before live ≤ n
    branch true = p
    branch false = q
live_after_law (value (constructor k c)) own oldest before live n p q = q
live_after_law (ended x) own oldest before live n p q = q
