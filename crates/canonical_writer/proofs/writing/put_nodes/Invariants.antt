-- `canonical_writer::writing::put_nodes` meets its contract. The loop's invariant: the nodes with the numbers passed are written.
use Rattle.translation_words.proofs.Writing.{PartsWritten}
use Rattle.canonical_writer.specs.Order.{entry_at, numbered_words}
use Rattle.canonical_writer.proofs.writing.put_nodes.Given as goal

abbrev pub invariant-loop-q : goal.invariant-loop-q
invariant-loop-q l = PartsWritten l.initial.out l.at (λ i. numbered_words l.b i (entry_at l.order i)) l.count l.q l.next l.out
