-- `run::node_table::fill_nodes` meets its contract: the entries of the nodes passed are right.
use Rattle.run.proofs.Entries.{FillingEntries}
use Rattle.run.proofs.node_table.fill_nodes.Given as goal

abbrev pub invariant-loop-k : goal.invariant-loop-k
invariant-loop-k l = FillingEntries l.b l.tab l.count l.k
