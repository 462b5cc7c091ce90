-- `tree_classes::numbering::number_nodes` meets its contract. The loop's invariant: the nodes passed are numbered and chained.
use Prim.Native.Nat.{◌≤◌}
use Rattle.tree_classes.specs.Chains.{Numbering}
use Rattle.tree_classes.proofs.numbering.number_nodes.Given as goal

abbrev pub invariant-loop-k : goal.invariant-loop-k
invariant-loop-k l = (l.k ≤ l.count) × Numbering l.b l.places l.classes l.lasts l.earlier l.k
