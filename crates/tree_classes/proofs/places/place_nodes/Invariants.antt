-- `tree_classes::places::place_nodes` meets its contract. The loop's invariant: the nodes passed have their places in the table.
use Prim.Native.Nat.{◌≤◌}
use Rattle.tree_classes.specs.Keys.{entry_of}
use Rattle.tree_classes.specs.Places.{Placed}
use Rattle.tree_classes.proofs.places.place_nodes.Given as goal

abbrev pub invariant-loop-k : goal.invariant-loop-k
invariant-loop-k l = (l.k ≤ l.count) × Placed l.b (entry_of l.scrutinees) l.places l.k
