-- `run::answers::outcome` meets its contract, case by case.
use Rattle.run.proofs.Answering.{value_in_table, shown_value, shown_end}
use Rattle.run.proofs.answers.outcome.Goals as goal

pub value_outcome-requires : goal.value_outcome-requires
value_outcome-requires c =
    let pre = c.requires in
    value_in_table _ _ c.in-Ok.is (pre)

pub returns-in-Ok : goal.returns-in-Ok
returns-in-Ok c =
    shown_value _ _ _ _ c.in-Ok.is c.value_outcome.ensures

pub returns-in-Err : goal.returns-in-Err
returns-in-Err c = shown_end _ _ _ c.in-Err.is
