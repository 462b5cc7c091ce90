-- `translator::nodes::put_node` meets its contract.
use Rattle.translator.proofs.NodeSteps.{node_read}
use Rattle.translator.proofs.nodes.put_node.Goals as goal

pub put_read-requires : goal.put_read-requires
put_read-requires c =
    let pre = c.requires in
    node_read pre.0 pre.1 c.first_node.ensures.0 c.indexed.ensures
