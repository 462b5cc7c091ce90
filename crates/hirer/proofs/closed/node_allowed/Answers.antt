-- `hirer::closed::node_allowed` meets its contract, by the node's entry in the table.
use Rattle.hirer.proofs.Closing.{node_place, other_allowed, reading_narrow, reading_by}
use Rattle.hirer.proofs.closed.node_allowed.Goals as goal

pub entry-x-requires : goal.entry-x-requires
entry-x-requires c = let pre = c.requires in node_place pre.0 pre.1

pub returns-then-kind_in-ne-READING : goal.returns-then-kind_in-ne-READING
returns-then-kind_in-ne-READING c =
    let pre = c.requires in
    let entry = c.entry-x in
    other_allowed pre.0 pre.1 entry.ensures c.kind_in.ensures c.if-kind_in-ne-READING.true _

pub reading_allowed-requires : goal.reading_allowed-requires
reading_allowed-requires c =
    let pre = c.requires in
    let entry = c.entry-x in
    let kind_in = c.kind_in in
    reading_narrow pre.0 pre.1 entry.ensures kind_in.ensures c.if-kind_in-ne-READING.false c.first_in.ensures

pub returns : goal.returns
returns c =
    let pre = c.requires in
    let entry = c.entry-x in
    let kind_in = c.kind_in in
    reading_by pre.0 pre.1 entry.ensures kind_in.ensures c.if-kind_in-ne-READING.false c.first_in.ensures _ c.reading_allowed.ensures
