-- `sheet_types::clauses_typed` meets its contract. The loop's invariant: the clauses so far are of the type.
use lib.Dec.{eqb}
use Rattle.definitions.specs.References.{clauses, clause_constructor}
use Rattle.definitions.specs.Types.{own_type}
use Rattle.laws.proofs.Tests.{Testing}
use Rattle.sheet_types.specs.Tables.{CaseAt}
use Rattle.sheet_types.proofs.clauses_typed.Given as goal

abbrev pub invariant-loop-j : goal.invariant-loop-j
invariant-loop-j l = Testing (λ i. eqb (own_type l.b (clause_constructor l.rec i)) l.t) (clauses l.rec) l.count l.j × CaseAt l.b l.starts l.k l.rec
