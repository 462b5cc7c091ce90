-- `sheet_rules::tree::clauses_rise` meets its contract. The loop's invariant: the clauses so far rise.
use Rattle.sheet_rules.proofs.TreeSteps.{clauses_fall, clauses_rise_here}
use Rattle.laws.proofs.Tests.{tests_begin, tests_go_on, tests_fail, tests_end}
use Rattle.definitions.specs.SheetRules.{clauses_rise}
use mathlib.Core.Path.{◌≡◌}
use Prim.Native.Nat.{◌+◌, ◌-◌}
use native.Mathlib.Omega.{arith}
use Rattle.sheet_rules.proofs.tree.clauses_rise.Goals as goal

pub loop-j-init : goal.loop-j-init
loop-j-init c = tests_begin (omega (arith, c.clauses-j-end.ensures))

pub returns-then-clause_constructor : goal.returns-then-clause_constructor
unfolding clauses_rise
returns-then-clause_constructor c =
    let loop = c.loop-j in
    tests_fail loop.invariant (omega (arith, loop.auto.j, c.loop-j-test.true))
    (clauses_fall _ loop.auto.j c.clause_constructor.ensures c.clause_constructor-in-loop-j.ensures c.if-clause_constructor.true)

pub loop-j-preserved : goal.loop-j-preserved
loop-j-preserved c =
    let loop = c.loop-j in
    let next : loop.j - 1 + 1 ≡ loop.j + 1 - 1 = omega (arith, loop.auto.j) in
    rw next at
    (tests_go_on loop.invariant (omega (arith, loop.auto.j, c.loop-j-test.true))
    (clauses_rise_here _ loop.auto.j c.clause_constructor.ensures c.clause_constructor-in-loop-j.ensures c.if-clause_constructor.false))

pub returns : goal.returns
unfolding clauses_rise
returns c = tests_end c.loop-j.invariant (omega (arith, c.loop-j-test.false))
