-- `run::node_table::entry_at` meets its contract, by the kind of the node.
use Rattle.run.proofs.Entries.{opens, formal_place, formal_record, formal_entry, node_within, function_there, node_place}
use Rattle.run.proofs.Entries.{entry_of_formal, entry_of_call, entry_of_list, entry_of_fields}
use Rattle.run.proofs.node_table.entry_at.Goals as goal

pub bounds-places-from : goal.bounds-places-from
bounds-places-from c =
    (formal_entry _ _ _ _ _ _ c.requires.0 c.requires.2 c.node_record-rec.ensures c.kind-kind.ensures _ _ _ c.requires.1 c.if-kind-eq-FORMAL.true
    c.field-first.ensures c.from-then-kind-eq-FORMAL.ensures).0

pub list_entry-requires : goal.list_entry-requires
list_entry-requires c = (
  opens _ _ _ c.requires.0,
  formal_record _ _ _ _ _ _ c.requires.0 c.requires.2 c.node_record-rec.ensures c.kind-kind.ensures _ _ _ c.if-kind-eq-FORMAL.true c.field-first.ensures
      c.from.ensures c.first_item.ensures.0,
)

pub returns-then-kind-eq-FORMAL : goal.returns-then-kind-eq-FORMAL
returns-then-kind-eq-FORMAL c =
    entry_of_formal _ _ _ _ _ _ c.node_record-rec.ensures c.kind-kind.ensures c.field-first.ensures _ _ c.if-kind-eq-FORMAL.true
    (formal_place _ _ _ _ c.from.ensures c.first_item.ensures.0)
    (formal_entry _ _ _ _ _ _ c.requires.0 c.requires.2 c.node_record-rec.ensures c.kind-kind.ensures _ _ _ c.requires.1 c.if-kind-eq-FORMAL.true
    c.field-first.ensures c.from-then-kind-eq-FORMAL.ensures).1
    c.list_entry.ensures

pub body-requires : goal.body-requires
body-requires c =
    (c.requires.0, function_there _ _ _ _ _ _ c.requires.0 c.requires.2 c.node_record-rec.ensures c.kind-kind.ensures _ c.if-kind-eq-CALL.true c.field-f.ensures)

pub returns-then-kind-eq-CALL : goal.returns-then-kind-eq-CALL
returns-then-kind-eq-CALL c =
    entry_of_call _ _ _ _ _ _ c.node_record-rec.ensures c.kind-kind.ensures c.field-first.ensures _ _ c.if-kind-eq-CALL.true c.field-f.ensures
    c.body.ensures c.entry_with.ensures

pub list_entry-requires-then-kind-ge-TUPLE : goal.list_entry-requires-then-kind-ge-TUPLE
list_entry-requires-then-kind-ge-TUPLE c =
    (opens _ _ _ c.requires.0, node_within _ _ _ _ c.requires.2 c.from-then-kind-ge-TUPLE.ensures c.first_node.ensures.0)

pub returns-then-kind-ge-TUPLE : goal.returns-then-kind-ge-TUPLE
returns-then-kind-ge-TUPLE c =
    entry_of_list _ _ _ _ _ _ c.node_record-rec.ensures c.kind-kind.ensures c.field-first.ensures _ c.if-kind-ge-TUPLE.true
    (node_place _ _ _ _ c.from-then-kind-ge-TUPLE.ensures c.first_node.ensures.0) c.list_entry-then-kind-ge-TUPLE.ensures

pub returns : goal.returns
returns c =
    entry_of_fields _ _ _ _ _ _ c.node_record-rec.ensures c.kind-kind.ensures c.field-first.ensures _ _ c.if-kind-eq-FORMAL.false
    c.if-kind-eq-CALL.false c.if-kind-ge-TUPLE.false c.field.ensures c.field-2.ensures c.entry_with-2.ensures
