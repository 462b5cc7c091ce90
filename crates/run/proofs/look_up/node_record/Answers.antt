-- `run::look_up::node_record` meets its contract: the index reaches the node's record.
use Rattle.run.proofs.LookUps.{node_reached}
use Rattle.run.proofs.look_up.node_record.Goals as goal

pub returns : goal.returns
returns c =
    let pre = c.requires in
    let first_node = c.first_node in
    node_reached _ _ _ _ _ _ pre.0 pre.1 c.from.ensures first_node.ensures.0 c.indexed.ensures
