-- `sheet_types::clauses_typed` meets its contract. The loop's invariant: the clauses so far are of the type.
use mathlib.Core.Path.{refl, ◌∙◌}
use Rattle.laws.proofs.Tests.{tests_begin, tests_go_on, tests_fail, same_test, differ_test}
use Rattle.sheet_types.proofs.TypeSteps.{clause_type}
use Rattle.sheet_types.proofs.clauses_typed.Goals as goal

pub loop-j-init : goal.loop-j-init
loop-j-init c = (tests_begin c.clauses-count.ensures, c.requires)

pub returns-then-constructor_field-t : goal.returns-then-constructor_field-t
returns-then-constructor_field-t c =
    let loop = c.loop-j in
    let loop_test = c.loop-j-test in
    let own = clause_type loop.invariant.1 loop.invariant.0.count loop_test.true (c.from-c.ensures ∙ c.clause_constructor.ensures) c.constructor_field.ensures in
    tests_fail loop.invariant.0 loop_test.true (differ_test own refl c.if-constructor_field-t.true)

pub loop-j-preserved : goal.loop-j-preserved
loop-j-preserved c =
    let loop = c.loop-j in
    let loop_test = c.loop-j-test in
    let own = clause_type loop.invariant.1 loop.invariant.0.count loop_test.true (c.from-c.ensures ∙ c.clause_constructor.ensures) c.constructor_field.ensures in
    (tests_go_on loop.invariant.0 loop_test.true (same_test own refl c.if-constructor_field-t.false), loop.invariant.1)
