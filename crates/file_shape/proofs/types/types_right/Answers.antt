-- `file_shape::types::types_right` meets its contract. The loop's invariant: every type so far is in its range.
use mathlib.Core.Path.{refl, ◌∙◌}
use native.Mathlib.Omega.{arith}
use Rattle.laws.proofs.Tests.{tests_begin, tests_go_on, tests_fail, tests_end}
use Rattle.laws.proofs.TypedCounts.{type_test, type_not, types_other_count, types_tested}
use Rattle.file_shape.proofs.types.types_right.Goals as goal

pub returns-then-field_count-n : goal.returns-then-field_count-n
returns-then-field_count-n c = search types_other_count

pub returns-then-n-lt2 : goal.returns-then-n-lt2
returns-then-n-lt2 c =
    types_tested _ _ c.field_count.ensures c.if-field_count-n.false
    (tests_end (tests_begin {n = 0} (omega (arith, c.if-n-lt2.true))) (omega arith))

pub loop-i-init : goal.loop-i-init
loop-i-init c = tests_begin refl

pub field_inside-requires : goal.field_inside-requires
field_inside-requires c =
    let counted = c.field_count.ensures in
    omega (arith, counted, c.if-field_count-n.false, c.loop-i.invariant.count, c.loop-i-test.true)

pub returns-then-from-gt-MOST_TYPES : goal.returns-then-from-gt-MOST_TYPES
returns-then-from-gt-MOST_TYPES c =
    let loop = c.loop-i in
    let same = c.if-field_count-n.false in
    let counted = c.field_count.ensures in
    types_tested _ _ counted same
    (tests_fail loop.invariant c.loop-i-test.true (type_not (c.from.ensures ∙ c.field_inside.ensures) c.if-from-gt-MOST_TYPES.true))

pub loop-i-preserved : goal.loop-i-preserved
loop-i-preserved c =
    let loop = c.loop-i in
    tests_go_on loop.invariant c.loop-i-test.true (type_test (c.from.ensures ∙ c.field_inside.ensures) c.if-from-gt-MOST_TYPES.false)

pub returns : goal.returns
returns c =
    types_tested _ _ c.field_count.ensures c.if-field_count-n.false
    (tests_end c.loop-i.invariant c.loop-i-test.false)
