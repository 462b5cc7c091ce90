-- `sheet_rules::patterns::fill_clauses` meets its contract. The loop's invariant: the entries from node k on are right.
use Rattle.sheet_rules.proofs.PatternSteps.{FillingClauses}
use Rattle.sheet_rules.proofs.patterns.fill_clauses.Given as goal

abbrev pub invariant-loop-k : goal.invariant-loop-k
invariant-loop-k l = FillingClauses l.b l.starts l.ends l.owners l.parents l.held l.k
