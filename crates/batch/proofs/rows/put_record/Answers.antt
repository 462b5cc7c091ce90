-- `batch::rows::put_record` meets its contract.
use Rattle.batch.proofs.InTurn.{put_is}
use Rattle.batch.proofs.rows.put_record.Goals as goal

pub returns : goal.returns
returns c =
    put_is _ c.args.row c.args.a c.requires c.write_answer.ensures
