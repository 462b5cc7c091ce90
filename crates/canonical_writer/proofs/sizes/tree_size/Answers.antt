-- `canonical_writer::sizes::tree_size` meets its contract. The loop's invariant: the size so far is that of the fields passed, and one.
use mathlib.Core.Path.{ap}
use native.Mathlib.Omega.{arith}
use Rattle.definitions.specs.CanonicalSheet.{size_of}
use Rattle.definitions.specs.declared.Layout.TheVariants.{Sheet}
use Rattle.accepted.proofs.Head.{nodes_limit}
use Rattle.file_records.proofs.Indices.{node_reached}
use Rattle.canonical_writer.proofs.SizeLimits.{size_limit}
use Rattle.canonical_writer.proofs.FieldSteps.{first_field, next_field, none_passed, all_passed, plain_size, node_smaller, node_size, size_within, node_entry}
use Rattle.canonical_writer.proofs.sizes.tree_size.Goals as goal
use Rattle.canonical_writer.proofs.sizes.tree_size.Goals.{then-names_node, else-names_node}

pub loop-i-init : goal.loop-i-init
loop-i-init c =
    let pre = c.requires in
    let first_node = c.first_node in
    let indexed = c.indexed-rec in
    let there = node_reached Sheet _ _ _ _ _ pre.sheet.file pre.below first_node.ensures.0 indexed.ensures in
    let first = first_field there c.kind-node_kind.ensures c.field_count-count.ensures in
    (first, omega (arith, none_passed first))

pub bounds-sizes-from : goal.bounds-sizes-from
bounds-sizes-from c =
    let pre = c.requires in
    let if1 = c.if-names_node in
    let names_node = c.names_node in
    let loop_test = c.loop-i-test in
    let loop = c.loop-i in
    let x = node_smaller loop.invariant.0 pre.sheet.accepted pre.below loop_test.true names_node.ensures if1.true c.field_inside.ensures in
    omega (arith, x, c.from.ensures, pre.below, nodes_limit Sheet _ pre.sheet.file.accepted)

pub overflow_add-size : goal.overflow_add-size
overflow_add-size c =
    let pre = c.requires in
    let field_inside = c.field_inside in
    let if1 = c.if-names_node in
    let names_node = c.names_node in
    let taken = c.loop-i-test.true in
    let inv = c.loop-i.invariant in
    let accepted = pre.sheet.accepted in
    let entry = node_entry inv.0 accepted pre.below taken names_node.ensures if1.true field_inside.ensures pre.sized (omega arith) c.from.ensures in
    let size = node_size inv.0 accepted pre.below taken names_node.ensures if1.true field_inside.ensures in
    let within = size_within inv.0 accepted pre.below taken names_node.ensures if1.true field_inside.ensures in
    omega (arith, inv.1, entry, size, within, size_limit _ accepted pre.below, nodes_limit Sheet _ pre.sheet.file.accepted)

pub loop-i-preserved : goal.loop-i-preserved
loop-i-preserved c =
    let pre = c.requires in
    let names_node = c.names_node in
    let taken = c.loop-i-test.true in
    let inv = c.loop-i.invariant in
    let accepted = pre.sheet.accepted in (
      next_field inv.0 taken,
      elim c.if-names_node.branch [
        | then-names_node w ↦
            let entry = node_entry inv.0 accepted pre.below taken names_node.ensures w.if-names_node.true w.field_inside.ensures pre.sized (omega arith) w.from.ensures in
            let size = node_size inv.0 accepted pre.below taken names_node.ensures w.if-names_node.true w.field_inside.ensures in
            omega (arith, w.size-is, inv.1, entry, size)
        | else-names_node w ↦ omega (arith, w.size-is, inv.1, plain_size inv.0 names_node.ensures w.if-names_node.false)
      ],
    )

pub returns : goal.returns
returns c =
    let pre = c.requires in
    let inv = c.loop-i.invariant in
    omega (arith, inv.1, ap size_of (all_passed inv.0 pre.sheet.accepted pre.below c.loop-i-test.false))
