-- `canonical_writer::writing::put_nodes` meets its contract. The loop's invariant: the nodes with the numbers passed are written.
use Rattle.translation_words.proofs.Writing.{parts_begin, parts_go_on}
use Rattle.canonical_writer.proofs.writing.put_nodes.Goals as goal

pub loop-q-init : goal.loop-q-init
loop-q-init c = parts_begin

pub loop-q-preserved : goal.loop-q-preserved
loop-q-preserved c = parts_go_on c.loop-q.invariant c.loop-q-test.true c.put_node-next.ensures
