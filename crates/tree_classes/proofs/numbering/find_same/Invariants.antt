-- `tree_classes::numbering::find_same` meets its contract. The loop's invariant: the nodes of the chain that were passed have other keys.
use Rattle.tree_classes.proofs.Walks.{Walking}
use Rattle.tree_classes.proofs.numbering.find_same.Given as goal

abbrev pub invariant-loop-next : goal.invariant-loop-next
invariant-loop-next l = Walking l.b l.places l.classes l.k l.next

abbrev pub decreases-loop-next : goal.decreases-loop-next
decreases-loop-next l = l.next
