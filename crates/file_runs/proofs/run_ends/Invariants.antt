-- `file_runs::run_ends` meets its contract. The loop's invariant: the ends of the runs passed are in the table, and the total is the last of them.
use Rattle.file_runs.proofs.RunTables.{FillingEnds}
use Rattle.file_runs.proofs.run_ends.Given as goal

abbrev pub invariant-loop-f : goal.invariant-loop-f
invariant-loop-f l = FillingEnds l.b l.starts l.first l.count l.j l.ends l.total l.f
