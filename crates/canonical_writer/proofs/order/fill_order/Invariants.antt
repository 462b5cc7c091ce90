-- `canonical_writer::order::fill_order` meets its contract. The loop's invariant: the nodes with the numbers passed are entered.
use Prim.Native.Nat.{◌≤◌}
use Rattle.definitions.specs.Layouts.{nodes}
use Rattle.canonical_writer.specs.Order.{OrderFrom}
use Rattle.canonical_writer.proofs.order.fill_order.Given as goal

abbrev pub invariant-loop-q : goal.invariant-loop-q
invariant-loop-q l = (l.q ≤ nodes l.b) × OrderFrom l.b l.order l.q
