-- `canonical_writer::writing::copy` meets its contract. The loop's invariant: the bytes passed are copied.
use Rattle.canonical_writer.proofs.Copying.{Copying}
use Rattle.canonical_writer.proofs.writing.copy.Given as goal

abbrev pub invariant-loop-i : goal.invariant-loop-i
invariant-loop-i l = Copying l.b l.initial.out l.out l.end l.i
