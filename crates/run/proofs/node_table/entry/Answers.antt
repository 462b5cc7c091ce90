-- `run::node_table::entry` meets its contract.
use Rattle.run.proofs.EntryReads.{entry_at}
use Rattle.run.proofs.node_table.entry.Goals as goal

pub returns : goal.returns
returns c =
    let args = c.args in
    entry_at args.tab.now _ _ c.from.ensures
