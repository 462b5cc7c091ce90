-- `canonical_writer::order::enter_bodies` meets its contract. The loop's invariant: the bodies of the functions passed are entered.
use mathlib.Core.Path.{refl, ◌∙◌}
use native.Mathlib.Omega.{arith}
use Rattle.canonical_writer.proofs.BodyOrder.{bodies_begin, run_end_law, body_size, bodies_go_on, bodies_done}
use Rattle.canonical_writer.proofs.order.enter_bodies.Goals as goal

pub loop-f-init : goal.loop-f-init
loop-f-init c =
    let pre = c.requires in
    bodies_begin (c.from-count.ensures ∙ c.functions.ensures) pre.full (omega arith)

pub overflow_sub-body : goal.overflow_sub-body
overflow_sub-body c = omega (arith, run_end_law c.requires c.loop-f.invariant c.loop-f-test.true)

pub loop-f-preserved : goal.loop-f-preserved
loop-f-preserved c =
    let pre = c.requires in
    let taken = c.loop-f-test.true in
    let inv = c.loop-f.invariant in
    let body = c.from.ensures in
    let size = body_size pre inv taken body refl c.from-start.ensures in
    bodies_go_on pre inv taken body refl (omega (arith, size)) (omega (arith, size))

pub returns : goal.returns
returns c = bodies_done c.requires.accepted c.loop-f.invariant c.loop-f-test.false
