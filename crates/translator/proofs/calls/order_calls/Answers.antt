-- `translator::calls::order_calls` meets its contract. The loop's invariant: the calls among the nodes passed are in their places.
use native.Mathlib.Omega.{arith}
use Rattle.definitions.specs.declared.Layout.TheVariants.{Sheet}
use Rattle.accepted.proofs.Head.{nodes_limit}
use borrow.Author.Rules.{rules}
use Rattle.translator.proofs.calls.order_calls.Goals as goal

pub place_node-requires : goal.place_node-requires
place_node-requires c =
    let pre = c.requires in
    record {
      tables = pre.0;
      ordered = c.loop-k.invariant.1;
      below = search rules;
      narrow = omega (
        arith,
        c.loop-k-test.true,
        c.from-count.ensures,
        c.nodes.ensures,
        nodes_limit Sheet _
            pre.0.trees.sheet.file.accepted,
      );
    }
