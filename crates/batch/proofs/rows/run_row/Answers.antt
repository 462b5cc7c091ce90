-- `batch::rows::run_row` meets its contract.
use Rattle.batch.proofs.InTurn.{ran_row}
use Rattle.batch.proofs.rows.run_row.Goals as goal

pub returns : goal.returns
returns c =
    let row_of = c.row_of-part in
    let run_table = c.run_table-answer in
    let put_record = c.put_record in
    (ran_row row_of.ensures run_table.ensures.0 put_record.ensures, run_table.ensures.1, run_table.ensures.2)
