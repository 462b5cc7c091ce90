-- `canonical_writer::writing::put_fields` meets its contract. The loop's invariant: the fields passed are written.
use native.Mathlib.Omega.{arith}
use Rattle.canonical_writer.proofs.FieldSteps.{first_field}
use Rattle.canonical_writer.proofs.Passing.{number_few, own_size, size_room, passing_begins, passing_plain, child_few, child_size, passing_node}
use Rattle.canonical_writer.proofs.FieldWriting.{fields_begin, fields_end, fields_plain, fields_node}
use Rattle.canonical_writer.proofs.writing.put_fields.Goals as goal
use Rattle.canonical_writer.proofs.writing.put_fields.Goals.{then-names_node, else-names_node}

pub overflow_add-start : goal.overflow_add-start
overflow_add-start c = omega (arith, number_few c.requires.node)

pub loop-i-init : goal.loop-i-init
loop-i-init c =
    let pre = c.requires in
    let kind = c.kind-node_kind in
    let field_count = c.field_count-count in
    let size = own_size pre.node c.from.ensures in
    (passing_begins pre.node (first_field pre.there kind.ensures field_count.ensures) (omega (arith, size, size_room pre.node)), fields_begin)

pub bounds-sizes-old : goal.bounds-sizes-old
bounds-sizes-old c =
    let inv = c.loop-i.invariant in
    let taken = c.loop-i-test.true in
    let field_inside = c.field_inside in
    let from2 = c.from-old in
    child_few inv.0 taken c.names_node.ensures c.if-names_node.true field_inside.ensures from2.ensures

pub loop-i-preserved : goal.loop-i-preserved
loop-i-preserved c =
    let inv = c.loop-i.invariant in
    let taken = c.loop-i-test.true in
    let field_inside = c.field_inside in
    let from2 = c.from-old in
    let names = c.names_node.ensures in
    let put = c.put-next in
    elim c.if-names_node.branch [
      | then-names_node w ↦
          let yes = w.if-names_node.true in
          let size = child_size inv.0 taken names yes field_inside.ensures from2.ensures w.from-start.ensures in (
            passing_node inv.0 taken names yes field_inside.ensures (omega (arith, w.start-is, size)),
            fields_node inv.0 inv.1 taken names field_inside.ensures put.ensures yes (omega (arith, w.start-is, w.new-is, size)),
          )
      | else-names_node w ↦
          let no = w.if-names_node.false in (
            rw w.start-is (passing_plain inv.0 taken names no),
            fields_plain inv.0 inv.1 taken names field_inside.ensures put.ensures no (omega (arith, w.new-is, from2.ensures)),
          )
    ]

pub returns : goal.returns
returns c =
    let inv = c.loop-i.invariant in
    fields_end inv.0 inv.1 c.loop-i-test.false
