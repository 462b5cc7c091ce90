-- `run::look_up::clause` meets its contract: the clauses passed have other tags.
use Rattle.run.proofs.LookUps.{Choosing}
use Rattle.run.proofs.look_up.clause.Given as goal

abbrev pub invariant-loop-j : goal.invariant-loop-j
invariant-loop-j l = Choosing l.b l.place l.tag l.count l.j
