-- `canonical_writer::writing::write` meets its contract: the sections are copied, and the nodes written after them.
use Rattle.canonical_writer.proofs.Promises.{sections_within, canonical_written}
use Rattle.canonical_writer.proofs.writing.write.Goals as goal

pub copy-requires : goal.copy-requires
copy-requires c =
    let pre = c.requires in
    let first_node = c.first_node in
    (sections_within pre.tables.sheet.sheet first_node.ensures.0 c.start_in-end.ensures.0, pre.room)

pub returns : goal.returns
returns c =
    let pre = c.requires in
    let first_node = c.first_node in
    let start_in = c.start_in-end in
    let copy = c.copy in
    let put_nodes = c.put_nodes in
    canonical_written pre.tables.sheet.sheet first_node.ensures.0 start_in.ensures.0 copy.ensures put_nodes.ensures
