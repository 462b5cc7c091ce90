-- `zifnora_c::zifnora_translate_and_run_slice` meets its contract.
use mathlib.Core.Path.{refl}
use Rattle.zifnora_c.proofs.Coding.{join_short, join_written}
use Rattle.zifnora_c.proofs.zifnora_translate_and_run_slice.Goals as goal

pub returns-then-short-ne0 : goal.returns-then-short-ne0
returns-then-short-ne0 c = (join_short _ _ c.record_code-short.ensures c.if-short-ne0.true, refl)

pub returns : goal.returns
returns c =
    let run = c.translate_and_run-answer.ensures in
    (join_written _ _ c.record_code-short.ensures c.if-short-ne0.false run.0 c.write_answer.ensures, run.1)
