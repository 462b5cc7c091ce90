-- `run::going_on::field_selected` meets its contract: the tag, or the field where there is one.
use Rattle.run.proofs.Choices.{tuple_room, fields_room, select_tag, field_found, field_missed}
use Rattle.run.proofs.EntryReads.{entry_room}
use Rattle.run.proofs.going_on.field_selected.Goals as goal

pub entry-requires : goal.entry-requires
entry-requires c = entry_room c.requires.equipped c.requires.node.below

pub entry-fields-requires : goal.entry-fields-requires
entry-fields-requires c = tuple_room c.requires

pub returns-then-i-eq0 : goal.returns-then-i-eq0
returns-then-i-eq0 c =
    select_tag c.requires c.entry.ensures c.second_in-i.ensures c.entry-fields.ensures c.if-i-eq0.true
    c.first_in.ensures c.packed.ensures c.tag.ensures

pub listed-requires : goal.listed-requires
listed-requires c =
    fields_room c.requires c.entry-fields.ensures c.second_in.ensures c.third_in.ensures

pub returns-in-Some : goal.returns-in-Some
returns-in-Some c =
    field_found c.requires c.entry.ensures c.second_in-i.ensures c.entry-fields.ensures _ c.if-i-eq0.false
    c.second_in.ensures c.third_in.ensures c.listed.ensures c.in-Some.is c.pair_of.ensures

pub returns-in-None : goal.returns-in-None
returns-in-None c =
    field_missed c.requires c.entry.ensures c.second_in-i.ensures c.entry-fields.ensures _ c.if-i-eq0.false
    c.second_in.ensures c.third_in.ensures c.listed.ensures c.in-None.is c.packed-in-None.ensures c.ended.ensures
