-- `canonical_writer::order::enter_children` meets its contract. The loop's invariant: the nodes that the fields passed name are entered.
use native.Mathlib.Omega.{arith}
use Rattle.definitions.specs.declared.Layout.TheVariants.{Sheet}
use Rattle.accepted.proofs.Head.{nodes_limit}
use Rattle.file_records.proofs.Indices.{node_reached}
use Rattle.canonical_writer.proofs.FieldSteps.{first_field}
use Rattle.canonical_writer.proofs.Passing.{node_few, own_size, size_room, passing_begins, passing_plain, child_few, child_size, passing_node}
use Rattle.canonical_writer.proofs.ChildOrder.{renumbered, children_begin, children_done, children_plain, children_node}
use Rattle.canonical_writer.proofs.order.enter_children.Goals as goal
use Rattle.canonical_writer.proofs.order.enter_children.Goals.{then-names_node, else-names_node}

pub bounds-order-q : goal.bounds-order-q
bounds-order-q c =
    let pre = c.requires in
    omega (arith, pre.below, nodes_limit Sheet _ pre.sheet.sheet.file.accepted)

pub bounds-sizes-k : goal.bounds-sizes-k
bounds-sizes-k c = node_few (renumbered c.requires c.from-k.ensures)

pub loop-i-init : goal.loop-i-init
loop-i-init c =
    let pre = c.requires in
    let from = c.from-k in
    let first_node = c.first_node in
    let indexed = c.indexed-rec in
    let kind = c.kind-node_kind in
    let field_count = c.field_count-count in
    let node = renumbered pre from.ensures in
    let there = node_reached Sheet _ _ _ _ _ pre.sheet.sheet.file node.numbered.below first_node.ensures.0 indexed.ensures in
    let size = own_size node c.from.ensures in (
      passing_begins node (first_field there kind.ensures field_count.ensures) (omega (arith, size, size_room node)),
      children_begin pre from.ensures (omega (arith, size, size_room node)),
    )

pub bounds-sizes-from : goal.bounds-sizes-from
bounds-sizes-from c =
    let inv = c.loop-i.invariant in
    let taken = c.loop-i-test.true in
    let names_node = c.names_node in
    let if1 = c.if-names_node in
    let field_inside = c.field_inside-x in
    child_few inv.0 taken names_node.ensures if1.true field_inside.ensures c.from-then-names_node.ensures

pub loop-i-preserved : goal.loop-i-preserved
loop-i-preserved c =
    let inv = c.loop-i.invariant in
    let taken = c.loop-i-test.true in
    let names_node = c.names_node in
    let names = names_node.ensures in
    elim c.if-names_node.branch [
      | then-names_node w ↦
          let yes = w.if-names_node.true in
          let size = child_size inv.0 taken names yes w.field_inside-x.ensures w.from-then-names_node.ensures w.from-start.ensures in (
            passing_node inv.0 taken names yes w.field_inside-x.ensures (omega (arith, w.start-is, size)),
            rw w.order-is (children_node inv.0 inv.1 taken names yes w.field_inside-x.ensures (omega (arith, w.start-is, size)) (omega (arith, w.start-is, size))),
          )
      | else-names_node w ↦
          let no = w.if-names_node.false in
          (rw w.start-is (passing_plain inv.0 taken names no), rw (w.order-is, w.start-is) (children_plain inv.0 inv.1 taken names no))
    ]

pub returns : goal.returns
returns c =
    let pre = c.requires in
    let from = c.from-k in
    let inv = c.loop-i.invariant in
    children_done pre from.ensures inv.0 inv.1 c.loop-i-test.false
