-- `translator::nodes::put_nodes` meets its contract. The loop's invariant: the nodes passed are written.
use Rattle.translation_words.proofs.Writing.{parts_begin, parts_go_on}
use Rattle.translator.proofs.nodes.put_nodes.Goals as goal

pub loop-k-init : goal.loop-k-init
loop-k-init c = parts_begin

pub loop-k-preserved : goal.loop-k-preserved
loop-k-preserved c =
    parts_go_on c.loop-k.invariant c.loop-k-test.true c.put_node-next.ensures
