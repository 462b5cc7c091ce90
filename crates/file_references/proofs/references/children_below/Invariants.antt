-- `file_references::references::children_below` meets its contract. The loop's invariant: every node so far is below the limit.
use Rattle.laws.proofs.Tests.{Testing}
use Rattle.definitions.specs.References.{children, child}
use lib.Dec.{ltb}
use Rattle.file_references.proofs.references.children_below.Given as goal

abbrev pub invariant-loop-j : goal.invariant-loop-j
invariant-loop-j l = Testing (λ i. ltb (child l.rec i) l.limit) (children l.rec) l.count l.j
