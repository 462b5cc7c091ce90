-- `run::answers::answered` meets its contract.
use Rattle.run.proofs.Answering.{answered_is}
use Rattle.run.proofs.answers.answered.Goals as goal

pub returns : goal.returns
returns c =
    let outcome = c.outcome in
    answered_is _ _ _ _ _ _ outcome.ensures
