-- `canonical_writer::writing::put_fields` meets its contract. The loop's invariant: the fields passed are written.
use Rattle.canonical_writer.proofs.Passing.{Passing}
use Rattle.canonical_writer.proofs.FieldWriting.{FieldsWritten}
use Rattle.canonical_writer.proofs.writing.put_fields.Given as goal

abbrev pub invariant-loop-i : goal.invariant-loop-i
invariant-loop-i l = Passing l.b l.sizes l.rec l.q l.k l.node_kind l.count l.start l.i × FieldsWritten l.b l.initial.out l.at l.q l.k l.i l.next l.out
