-- `zifnora_c::zifnora_run_rows_slice` meets its contract.
use Rattle.zifnora_c.proofs.Coding.{rows_coded}
use Rattle.zifnora_c.proofs.zifnora_run_rows_slice.Goals as goal

pub returns : goal.returns
returns c =
    let rows = c.run_rows.ensures in
    (rows_coded rows.0 c.count_code.ensures.written, rows.1)
