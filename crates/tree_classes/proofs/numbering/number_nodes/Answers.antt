-- `tree_classes::numbering::number_nodes` meets its contract. The loop's invariant: the nodes passed are numbered and chained.
use mathlib.Core.Path.{◌∙◌}
use native.Mathlib.Omega.{arith}
use Rattle.definitions.specs.declared.Layout.TheVariants.{Sheet}
use Rattle.accepted.proofs.Head.{nodes_limit}
use Rattle.tree_classes.proofs.NumberedNodes.{numbering_begins}
use borrow.Author.Rules.{rules}
use Rattle.tree_classes.proofs.numbering.number_nodes.Goals as goal

pub loop-k-init : goal.loop-k-init
loop-k-init c = (search rules, numbering_begins c.requires.1)

pub number_node-requires : goal.number_node-requires
number_node-requires c =
    let pre = c.requires in
    let count = c.from-count.ensures ∙ c.nodes.ensures in
    record {
      sheet = pre.0;
      before = c.loop-k.invariant.1;
      below = omega (arith, c.loop-k-test.true, count);
      narrow = omega (arith, c.loop-k-test.true, count, nodes_limit Sheet _ pre.0.file.accepted);
    }
