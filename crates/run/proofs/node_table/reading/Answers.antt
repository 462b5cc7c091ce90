-- `run::node_table::reading` meets its contract.
use borrow.Author.Rules.{rules}
use Rattle.run.proofs.Outcomes.{number_as}
use Rattle.run.proofs.ReadingEntries.{reading_at}
use Rattle.run.proofs.node_table.reading.Goals as goal

pub returns : goal.returns
returns c =
    number_as _ _ (record { sfits = search rules })
    (reading_at c.args.tab.now _ _ _ c.from.ensures c.number_of.ensures)
