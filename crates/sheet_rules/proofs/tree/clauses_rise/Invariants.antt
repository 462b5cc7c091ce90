-- `sheet_rules::tree::clauses_rise` meets its contract. The loop's invariant: the clauses so far rise.
use Rattle.laws.proofs.Tests.{Testing}
use Rattle.definitions.specs.References.{clauses, clause_constructor}
use lib.Dec.{ltb}
use Prim.Native.Nat.{◌-◌, suc}
use Rattle.sheet_rules.proofs.tree.clauses_rise.Given as goal

abbrev pub invariant-loop-j : goal.invariant-loop-j
invariant-loop-j l = Testing (λ i. ltb (clause_constructor l.rec i) (clause_constructor l.rec (suc i))) (clauses l.rec - 1) (l.j-end - 1) (l.j - 1)
