-- `hirer::closed::check_readings` meets its contract. The loop's invariant: the nodes passed are allowed.
use Rattle.hirer.proofs.Closing.{Closing}
use Rattle.hirer.proofs.closed.check_readings.Given as goal

abbrev pub invariant-loop-k : goal.invariant-loop-k
invariant-loop-k l = Closing l.file l.table l.set l.first l.count l.k
