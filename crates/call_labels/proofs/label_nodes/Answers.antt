-- `call_labels::label_nodes` meets its contract. The loop's invariant: the nodes passed are labelled and counted.
use mathlib.Core.Path.{◌∙◌}
use native.Mathlib.Omega.{arith}
use Rattle.definitions.specs.declared.Layout.TheVariants.{Sheet}
use Rattle.accepted.proofs.Head.{nodes_limit}
use Rattle.call_labels.proofs.label_nodes.Goals as goal

pub label_node-requires : goal.label_node-requires
label_node-requires c =
    let pre = c.requires in
    let inv = c.loop-k.invariant in
    let count = c.from-count.ensures ∙ c.nodes.ensures in
    record {
      tables = pre.0;
      labelled = inv.1;
      counted = inv.2;
      below = omega (arith, c.loop-k-test.true, count);
      narrow = omega (arith, c.loop-k-test.true, count, nodes_limit Sheet _ pre.0.sheet.file.accepted);
    }
