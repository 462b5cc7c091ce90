-- `file_shape::walk` meets its contract: the turns keep `Walking`, and each way out ends as `Walked` says.
use Rattle.file_shape.proofs.Walking.{begins, room_here, index_more, refused_here, goes_on, ends_there, bytes_left}
use Rattle.std.proofs.Common.{ap, ◌∙◌}
use Rattle.laws.proofs.Refusals.{passed_on}
use Rattle.definitions.specs.Refusals.{as_verdict}
use Rattle.file_shape.proofs.walk.Goals as goal

pub loop-r-init : goal.loop-r-init
loop-r-init c =
    let pre = c.requires in
    begins pre.0 pre.1 c.due-count.ensures.0

pub bounds-starts-r : goal.bounds-starts-r
bounds-starts-r c = room_here c.loop-r.invariant c.loop-r-test.true

pub shape_at-requires : goal.shape_at-requires
shape_at-requires c =
    let rows = c.rows-rows in
    let first_node = c.first_node-first in
    let loop = c.loop-r in
    let loop_test = c.loop-r-test in
    record { kinds = rows.ensures; index = index_more loop.invariant loop_test.true; nodes_from = first_node.ensures.0; inside = loop.invariant.inside }

pub returns-in_err-shape_at : goal.returns-in_err-shape_at
returns-in_err-shape_at c =
    let loop = c.loop-r in
    let loop_test = c.loop-r-test in
    let passed = passed_on c.from_residual.result c.in_err-shape_at.field-0.0 c.from_residual.ensures.1 in
    refused_here loop.invariant loop_test.true (passed ∙ c.in_err-shape_at.ensures) passed

pub loop-r-preserved : goal.loop-r-preserved
loop-r-preserved c =
    let loop = c.loop-r in
    let loop_test = c.loop-r-test in
    let shape_at = c.shape_at in
    goes_on loop.invariant loop_test.true shape_at.ensures (ap as_verdict c.in_ok-shape_at.was) (c.from-at.ensures ∙ c.word.ensures)

pub returns-then-at-b : goal.returns-then-at-b
returns-then-at-b c =
    let loop = c.loop-r in
    ends_there loop.invariant c.loop-r-test.false c.if-at-b.true

pub returns-else-at-b : goal.returns-else-at-b
returns-else-at-b c =
    let loop = c.loop-r in
    bytes_left loop.invariant c.loop-r-test.false c.if-at-b.false
