-- `canonical_writer::order::enter_bodies` meets its contract. The loop's invariant: the bodies of the functions passed are entered.
use Rattle.canonical_writer.proofs.BodyOrder.{Bodies}
use Rattle.canonical_writer.proofs.order.enter_bodies.Given as goal

abbrev pub invariant-loop-f : goal.invariant-loop-f
invariant-loop-f l = Bodies l.b l.order l.count l.start l.f
