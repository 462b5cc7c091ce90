-- `sheet_rules::patterns::clause_of` meets its contract. The loop's invariant: the clauses passed are not the one.
use Rattle.sheet_rules.proofs.ClauseTable.{ClauseLeft}
use Rattle.sheet_rules.proofs.patterns.clause_of.Given as goal

abbrev pub invariant-loop-j : goal.invariant-loop-j
invariant-loop-j l = ClauseLeft l.rec l.k l.j
