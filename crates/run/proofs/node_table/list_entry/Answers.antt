-- `run::node_table::list_entry` meets its contract.
use Rattle.run.proofs.Entries.{list_entry}
use borrow.Author.Rules.{rules}
use Rattle.run.proofs.node_table.list_entry.Goals as goal

pub returns : goal.returns
returns c = list_entry _ _ _ _ _ _ _ _ _ c.requires.0 c.requires.1
    c.start_in.ensures.0 (search rules) c.indexed.ensures c.field_count.ensures c.entry_with.ensures
