-- `call_labels::label_nodes` meets its contract. The loop's invariant: the nodes passed are labelled and counted.
use Prim.Native.Nat.{◌≤◌}
use Rattle.call_labels.specs.Tables.{Labels, Counts}
use Rattle.call_labels.proofs.label_nodes.Given as goal

abbrev pub invariant-loop-k : goal.invariant-loop-k
invariant-loop-k l = (l.k ≤ l.count) × Labels l.b l.labels l.k × Counts l.b l.counts l.k
