-- `tree_classes::numbering::number_node` meets its contract.
use mathlib.Core.Path.{refl}
use Rattle.tree_classes.specs.Keys.{entry_of}
use Rattle.tree_classes.proofs.NumberedNodes.{Chosen, likewise, anew, node_there, chain_begins, node_numbered}
use Rattle.tree_classes.proofs.numbering.number_node.Goals as goal
use Rattle.tree_classes.proofs.numbering.number_node.Goals.{in-Some, in-None}

pub find_same-found-requires : goal.find_same-found-requires
find_same-found-requires c =
    let pre = c.requires in
    let there = node_there pre c.first_node.ensures.0 c.indexed-rec.ensures in
    chain_begins pre there c.bucket-h.ensures.0 c.bucket-h.ensures.1 c.from.ensures

pub returns : goal.returns
returns c =
    let pre = c.requires in
    let there = node_there pre c.first_node.ensures.0 c.indexed-rec.ensures in
    let chosen : Chosen (entry_of c.args.classes.now) (entry_of c.args.places.now) c.args.b.now c.args.k c.match-found.classes = elim c.match-found.branch [
      | in-Some w ↦ rw w.classes-is (likewise w.in-Some.ensures.found.0 w.in-Some.ensures.found.1)
      | in-None w ↦ rw w.classes-is (anew (w.in-None.ensures.none refl))
    ] in
    node_numbered pre there c.bucket-h.ensures.0 c.bucket-h.ensures.1 refl chosen
