-- `run::look_up::body` meets its contract: the body is the node before the end of the run.
use Rattle.run.proofs.LookUps.{function_limit, end_least, body_reached}
use Rattle.run.proofs.look_up.body.Goals as goal

pub bounds-ends-from : goal.bounds-ends-from
bounds-ends-from c =
    let pre = c.requires in
    function_limit _ _ _ _ _ pre.0 pre.1 c.from.ensures

pub overflow_sub-result : goal.overflow_sub-result
overflow_sub-result c =
    let pre = c.requires in
    let from = c.from in
    end_least _ _ _ _ _ _ pre.0 pre.1 from.ensures c.from-end.ensures

pub returns : goal.returns
returns c =
    let pre = c.requires in
    let from = c.from in
    body_reached _ _ _ _ _ _ pre.0 pre.1 from.ensures c.from-end.ensures
