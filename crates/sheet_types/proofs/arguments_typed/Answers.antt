-- `sheet_types::arguments_typed` meets its contract. The loop's invariant: the arguments so far have the types declared.
use borrow.Author.Rules.{rules}
use mathlib.Core.Path.{refl, ◌∙◌}
use native.Mathlib.Omega.{arith}
use Rattle.laws.proofs.Tests.{tests_begin, tests_go_on, tests_fail, tests_end, same_test, differ_test}
use Rattle.laws.proofs.Types.{arguments_tested}
use Rattle.sheet_types.proofs.arguments_typed.Goals as goal

pub returns-then-n-lt1 : goal.returns-then-n-lt1
returns-then-n-lt1 c = arguments_tested _ _ _ (tests_end (tests_begin {n = 0} (omega (arith, c.field_count-n.ensures, c.if-n-lt1.true))) (omega arith))

pub loop-i-init : goal.loop-i-init
loop-i-init c = search (rules, tests_begin)

pub returns-then-type_in-field : goal.returns-then-type_in-field
returns-then-type_in-field c =
    arguments_tested _ _ _
    (tests_fail c.loop-i.invariant c.loop-i-test.true (differ_test (c.type_in.ensures ∙ rw c.field_inside.ensures refl) c.field.ensures c.if-type_in-field.true))

pub loop-i-preserved : goal.loop-i-preserved
loop-i-preserved c =
    tests_go_on c.loop-i.invariant c.loop-i-test.true (same_test (c.type_in.ensures ∙ rw c.field_inside.ensures refl) c.field.ensures c.if-type_in-field.false)

pub returns : goal.returns
returns c = search (rules, arguments_tested, tests_end)
