-- `canonical_writer::order::enter_children` meets its contract. The loop's invariant: the nodes that the fields passed name are entered.
use Rattle.canonical_writer.proofs.Passing.{Passing}
use Rattle.canonical_writer.proofs.ChildOrder.{Children}
use Rattle.canonical_writer.proofs.order.enter_children.Given as goal

abbrev pub invariant-loop-i : goal.invariant-loop-i
invariant-loop-i l = Passing l.b l.sizes l.rec l.q l.k l.node_kind l.count l.start l.i × Children l.b l.initial.order l.order l.q l.k l.start l.i
