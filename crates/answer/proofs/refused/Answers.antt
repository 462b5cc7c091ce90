-- `answer::refused` meets its contract.
use Rattle.answer.proofs.Records.{refusal_is}
use Rattle.answer.proofs.refused.Goals as goal

pub returns : goal.returns
returns c = refusal_is _ _
