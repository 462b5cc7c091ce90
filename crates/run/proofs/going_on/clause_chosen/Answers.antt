-- `run::going_on::clause_chosen` meets its contract: the first clause with the tag, where there is one.
use Rattle.run.proofs.Choices.{tuple_room, clause_found, clause_missed}
use Rattle.run.proofs.EntryReads.{entry_room, clauses_fit}
use Rattle.run.proofs.going_on.clause_chosen.Goals as goal

pub entry-requires : goal.entry-requires
entry-requires c = tuple_room c.requires

pub entry-list-requires : goal.entry-list-requires
entry-list-requires c = entry_room c.requires.equipped c.requires.node.below

pub clause-requires : goal.clause-requires
clause-requires c = clauses_fit c.requires.equipped c.requires.node c.entry-list.ensures c.second_in.ensures c.third_in.ensures

pub returns-in-Some : goal.returns-in-Some
returns-in-Some c =
    clause_found c.requires _ _ c.entry.ensures c.first_in-tag.ensures c.entry-list.ensures
    c.second_in.ensures c.third_in.ensures c.clause.ensures c.found_at.ensures c.in-Some.is c.pair_of.ensures

pub returns-in-None : goal.returns-in-None
returns-in-None c =
    clause_missed c.requires _ _ c.entry.ensures c.first_in-tag.ensures c.entry-list.ensures
    c.second_in.ensures c.third_in.ensures c.clause.ensures c.found_at.ensures c.in-None.is c.packed.ensures c.ended.ensures
