-- `sheet_rules::patterns::patterns` meets its contract. The loop's invariant: the rules of the nodes passed are accepted.
use Rattle.sheet_rules.proofs.Ruling.{Ruling}
use Rattle.sheet_rules.specs.Clauses.{ClausesOf}
use Rattle.sheet_rules.specs.Seen.{TreesAccepted}
use Rattle.definitions.specs.SheetRules.{pattern}
use Rattle.sheet_rules.proofs.patterns.patterns.Given as goal

abbrev pub invariant-loop-k : goal.invariant-loop-k
invariant-loop-k l = Ruling l.b l.starts l.first l.count l.k (pattern l.b) × TreesAccepted l.b × ClausesOf l.b l.held
