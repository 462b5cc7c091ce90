-- `file_references::references::children_below` meets its contract. The loop's invariant: every node so far is below the limit.
use Rattle.laws.proofs.Tests.{tests_begin, tests_go_on, tests_fail, tests_end, below_test, below_not}
use mathlib.Core.Path.{◌∙◌}
use native.Mathlib.Omega.{arith}
use Rattle.file_references.proofs.references.children_below.Goals as goal

pub loop-j-init : goal.loop-j-init
loop-j-init c = tests_begin c.children-count.ensures

pub child_inside-requires : goal.child_inside-requires
child_inside-requires c = (omega (arith, c.loop-j.invariant.count, c.loop-j-test.true), c.kind-k.ensures)

pub returns-then-limit-from : goal.returns-then-limit-from
returns-then-limit-from c =
    tests_fail c.loop-j.invariant c.loop-j-test.true (below_not (c.from.ensures ∙ c.child_inside.ensures) c.if-limit-from.true)

pub loop-j-preserved : goal.loop-j-preserved
loop-j-preserved c =
    tests_go_on c.loop-j.invariant c.loop-j-test.true (below_test (c.from.ensures ∙ c.child_inside.ensures) c.if-limit-from.false)

pub returns : goal.returns
returns c = tests_end c.loop-j.invariant c.loop-j-test.false
