-- `zifnora_c::zifnora_run_slice` meets its contract.
use mathlib.Core.Path.{refl}
use Rattle.zifnora_c.proofs.Coding.{run_short, run_written}
use Rattle.zifnora_c.proofs.zifnora_run_slice.Goals as goal

pub returns-then-short-ne0 : goal.returns-then-short-ne0
returns-then-short-ne0 c = (run_short _ _ c.record_code-short.ensures c.if-short-ne0.true, refl)

pub returns : goal.returns
returns c =
    let run = c.run-answer.ensures in
    (run_written _ _ c.record_code-short.ensures c.if-short-ne0.false run.0.answer run.0.cells c.write_answer.ensures, run.1)
