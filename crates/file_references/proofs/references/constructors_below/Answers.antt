-- `file_references::references::constructors_below` meets its contract. The loop's invariant: every constructor so far is below the limit.
use Rattle.laws.proofs.Tests.{tests_begin, tests_go_on, tests_fail, tests_end, below_test, below_not}
use mathlib.Core.Path.{◌∙◌}
use Rattle.file_references.proofs.references.constructors_below.Goals as goal

pub loop-j-init : goal.loop-j-init
loop-j-init c = tests_begin c.clauses-count.ensures

pub returns-then-limit-from : goal.returns-then-limit-from
returns-then-limit-from c =
    let loop = c.loop-j in
    let loop_test = c.loop-j-test in
    tests_fail loop.invariant loop_test.true (below_not (c.from.ensures ∙ c.clause_constructor.ensures) c.if-limit-from.true)

pub loop-j-preserved : goal.loop-j-preserved
loop-j-preserved c =
    let loop = c.loop-j in
    let loop_test = c.loop-j-test in
    tests_go_on loop.invariant loop_test.true (below_test (c.from.ensures ∙ c.clause_constructor.ensures) c.if-limit-from.false)

pub returns : goal.returns
returns c = tests_end c.loop-j.invariant c.loop-j-test.false
