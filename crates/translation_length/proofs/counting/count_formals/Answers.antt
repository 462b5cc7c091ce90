-- `translation_length::counting::count_formals` meets its contract. The loop's invariant: the words of the formals of the functions passed are
-- summed.
use mathlib.Core.Path.{◌∙◌}
use native.Mathlib.Omega.{arith}
use Rattle.translation_length.proofs.WordCounts.{none_summed, one_summed, sum_within, all_summed, words_limit}
use Rattle.translation_length.proofs.counting.count_formals.Goals as goal

pub loop-f-init : goal.loop-f-init
loop-f-init c = none_summed

pub overflow_add-total : goal.overflow_add-total
overflow_add-total c =
    let pre = c.requires in
    let count = c.from-count.ensures ∙ c.functions.ensures in
    let within = sum_within c.loop-f.invariant c.loop-f-test.true c.count_function-total.ensures count in
    omega (arith, within, words_limit _ pre.sheet.accepted)

pub loop-f-preserved : goal.loop-f-preserved
loop-f-preserved c =
    one_summed c.loop-f.invariant c.loop-f-test.true c.count_function-total.ensures

pub returns : goal.returns
returns c =
    let pre = c.requires in
    let sum = all_summed c.loop-f.invariant c.loop-f-test.false (c.from-count.ensures ∙ c.functions.ensures) in
    (sum, omega (arith, sum, words_limit _ pre.sheet.accepted))
