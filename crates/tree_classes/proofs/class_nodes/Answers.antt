-- `tree_classes::class_nodes` meets its contract: the second numbers are the first nodes with equal trees.
use Rattle.tree_classes.proofs.FirstNodes.{classes_first}
use Rattle.tree_classes.proofs.class_nodes.Goals as goal

pub returns : goal.returns
returns c =
    let pre = c.requires in
    classes_first pre.0.sheet.accepted c.place_nodes.ensures c.number_nodes.ensures c.class_scrutinees.ensures
    c.place_nodes-2.ensures c.number_nodes-2.ensures
