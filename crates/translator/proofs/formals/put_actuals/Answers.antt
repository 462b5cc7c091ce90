-- `translator::formals::put_actuals` meets its contract. The loop's invariant: the arguments of the calls passed are written.
use mathlib.Core.Path.{refl}
use Rattle.translation_words.proofs.Writing.{parts_begin, parts_go_on, wrote_as, parts_end}
use Rattle.translator.proofs.FormalSteps.{range_right, place_small, argument_read, actuals_are}
use Rattle.translator.proofs.formals.put_actuals.Goals as goal

pub overflow_sub-count : goal.overflow_sub-count
overflow_sub-count c =
    let pre = c.requires in
    range_right pre c.from-first.ensures c.from.ensures

pub loop-j-init : goal.loop-j-init
loop-j-init c = parts_begin

pub bounds-order-first : goal.bounds-order-first
bounds-order-first c =
    let pre = c.requires in
    place_small pre c.from-first.ensures c.from.ensures c.loop-j-test.true

pub loop-j-preserved : goal.loop-j-preserved
loop-j-preserved c =
    let pre = c.requires in
    let argument = argument_read pre c.from-first.ensures c.from.ensures
    c.loop-j-test.true c.first_node-node.ensures.0 c.from-in-loop-j.ensures c.indexed-rec.ensures
    c.field.ensures c.from-in-loop-j-2.ensures in
    parts_go_on c.loop-j.invariant c.loop-j-test.true (wrote_as argument c.put-next.ensures)

pub returns : goal.returns
returns c =
    let pre = c.requires in
    let inv = c.loop-j.invariant in
    let actuals = actuals_are pre c.from-first.ensures c.from.ensures in
    wrote_as actuals (parts_end inv c.loop-j-test.false refl)
