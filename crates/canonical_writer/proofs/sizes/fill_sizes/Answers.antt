-- `canonical_writer::sizes::fill_sizes` meets its contract. The loop's invariant: the sizes of the nodes passed are in the table.
use mathlib.Core.Path.{◌∙◌}
use native.Mathlib.Omega.{arith}
use Rattle.definitions.specs.declared.Layout.TheVariants.{Sheet}
use Rattle.accepted.proofs.Head.{nodes_limit}
use Rattle.canonical_writer.proofs.sizes.fill_sizes.Goals as goal

pub loop-k-init : goal.loop-k-init
loop-k-init c =
    let pre = c.requires in
    record {
      reached = omega arith;
      counts = c.from-count.ensures ∙ c.nodes.ensures;
      few = nodes_limit Sheet _ pre.0.file.accepted;
      sized = pre.1;
    }
