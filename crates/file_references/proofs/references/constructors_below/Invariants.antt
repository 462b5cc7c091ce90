-- `file_references::references::constructors_below` meets its contract. The loop's invariant: every constructor so far is below the limit.
use Rattle.laws.proofs.Tests.{Testing}
use Rattle.definitions.specs.References.{clauses, clause_constructor}
use lib.Dec.{ltb}
use Rattle.file_references.proofs.references.constructors_below.Given as goal

abbrev pub invariant-loop-j : goal.invariant-loop-j
invariant-loop-j l = Testing (λ i. ltb (clause_constructor l.rec i) l.limit) (clauses l.rec) l.count l.j
