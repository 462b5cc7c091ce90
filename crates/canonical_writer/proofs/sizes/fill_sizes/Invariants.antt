-- `canonical_writer::sizes::fill_sizes` meets its contract. The loop's invariant: the sizes of the nodes passed are in the table.
use Rattle.canonical_writer.proofs.SizeTable.{Sizing}
use Rattle.canonical_writer.proofs.sizes.fill_sizes.Given as goal

abbrev pub invariant-loop-k : goal.invariant-loop-k
invariant-loop-k l = Sizing l.b l.sizes l.count l.k
