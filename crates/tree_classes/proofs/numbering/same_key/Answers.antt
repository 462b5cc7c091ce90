-- `tree_classes::numbering::same_key` meets its contract.
use native.Mathlib.Omega.{arith}
use Rattle.definitions.specs.declared.Layout.TheVariants.{Sheet}
use Rattle.file_records.proofs.Indices.{node_reached}
use Rattle.tree_classes.proofs.SameKeys.{places_same}
use Rattle.tree_classes.proofs.numbering.same_key.Goals as goal

pub returns-then-places-j : goal.returns-then-places-j
returns-then-places-j c =
    let pre = c.requires in
    let there = node_reached Sheet _ _ _ _ _ pre.sheet.file (omega (arith, pre.earlier, pre.below)) c.first_node.ensures.0 c.indexed.ensures in
    places_same _ _ _ _ _ c.if-places-j.true there pre.there c.same_values.ensures
