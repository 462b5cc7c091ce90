-- `canonical_writer::writing::put_node` meets its contract: the record of the node that is entered at the number.
use mathlib.Core.Path.{◌∙◌}
use Rattle.definitions.specs.declared.Layout.TheVariants.{Sheet}
use Rattle.file_records.proofs.Indices.{node_reached}
use Rattle.canonical_writer.proofs.NodeWriting.{number_few, renumbered, fields_few, node_written}
use Rattle.canonical_writer.proofs.writing.put_node.Goals as goal

pub bounds-order-q : goal.bounds-order-q
bounds-order-q c = number_few c.requires

pub put_start-fields-requires : goal.put_start-fields-requires
put_start-fields-requires c =
    let pre = c.requires in
    let from = c.from-k in
    let first_node = c.first_node in
    let indexed = c.indexed-rec in
    let node = renumbered pre from.ensures in
    let there = node_reached Sheet _ _ _ _ _ pre.tables.sheet.sheet.file node.numbered.below first_node.ensures.0 indexed.ensures in
    fields_few pre from.ensures there c.field_count.ensures

pub put_fields-requires : goal.put_fields-requires
put_fields-requires c =
    let pre = c.requires in
    let from = c.from-k in
    let first_node = c.first_node in
    let indexed = c.indexed-rec in
    let node = renumbered pre from.ensures in
    let there = node_reached Sheet _ _ _ _ _ pre.tables.sheet.sheet.file node.numbered.below first_node.ensures.0 indexed.ensures in
    record { node = node; there = there }

pub returns : goal.returns
returns c =
    let pre = c.requires in
    let from = c.from-k in
    let first_node = c.first_node in
    let indexed = c.indexed-rec in
    let node = renumbered pre from.ensures in
    let there = node_reached Sheet _ _ _ _ _ pre.tables.sheet.sheet.file node.numbered.below first_node.ensures.0 indexed.ensures in
    let kind = c.kind in
    let from2 = c.from in
    let field_count = c.field_count in
    let put_start = c.put_start-fields in
    let put_fields = c.put_fields in
    node_written pre from.ensures there put_start.ensures put_fields.ensures (from2.ensures ∙ kind.ensures) field_count.ensures
