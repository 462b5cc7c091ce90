-- `translator::calls::order_calls` meets its contract. The loop's invariant: the calls among the nodes passed are in their places.
use Prim.Native.Nat.{◌≤◌}
use Rattle.translator.specs.Tables.{CallOrder}
use Rattle.translator.proofs.calls.order_calls.Given as goal

abbrev pub invariant-loop-k : goal.invariant-loop-k
invariant-loop-k l = (l.k ≤ l.count) × CallOrder l.b l.order l.k
