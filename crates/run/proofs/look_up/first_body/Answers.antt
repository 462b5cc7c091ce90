-- `run::look_up::first_body` meets its contract: the body is the last node of the first run.
use Rattle.run.proofs.LookUps.{first_count_least, first_body_reached}
use Rattle.run.proofs.look_up.first_body.Goals as goal

pub overflow_sub-result : goal.overflow_sub-result
overflow_sub-result c =
    let pre = c.requires in
    let first_function = c.first_function in
    first_count_least _ _ _ _ (pre) first_function.ensures.0 c.record.ensures c.field.ensures

pub returns : goal.returns
returns c =
    let pre = c.requires in
    let first_function = c.first_function in
    first_body_reached _ _ _ _ (pre) first_function.ensures.0 c.record.ensures c.field.ensures
