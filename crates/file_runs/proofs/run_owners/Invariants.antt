-- `file_runs::run_owners` meets its contract. The loop's invariant: the owners of the nodes passed are in the table.
use Rattle.file_runs.proofs.RunTables.{Owning}
use Rattle.file_runs.proofs.run_owners.Given as goal

abbrev pub invariant-loop-k : goal.invariant-loop-k
invariant-loop-k l = Owning l.b l.ends l.count l.owners l.f l.k
