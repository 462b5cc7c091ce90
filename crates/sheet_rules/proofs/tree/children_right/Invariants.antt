-- `sheet_rules::tree::children_right` meets its contract. The loop's invariant: the nodes named so far are right.
use Rattle.sheet_rules.specs.Nodes.{child_right}
use Rattle.laws.proofs.Tests.{Testing}
use Rattle.definitions.specs.References.{children}
use Rattle.sheet_rules.proofs.tree.children_right.Given as goal

abbrev pub invariant-loop-j : goal.invariant-loop-j
invariant-loop-j l = Testing (λ i. child_right l.b l.rec l.k i) (children l.rec) l.count l.j
