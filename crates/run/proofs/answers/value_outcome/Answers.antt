-- `run::answers::value_outcome` meets its contract, case by case.
use Rattle.run.proofs.Answering.{node_in_table, shown_number, shown_constructor}
use borrow.Author.Rules.{rules}
use Rattle.run.proofs.answers.value_outcome.Goals as goal

pub entry-requires : goal.entry-requires
entry-requires c =
    let pre = c.requires in
    node_in_table _ _ _ c.in-Constructor.is (pre)

pub returns-in-Number : goal.returns-in-Number
returns-in-Number c = shown_number _ _ _ (record { sfits = search rules }) c.in-Number.is

pub returns-in-Constructor : goal.returns-in-Constructor
returns-in-Constructor c =
    shown_constructor _ _ _ _ _ _ c.in-Constructor.is c.entry.ensures c.first_in-tag.ensures
