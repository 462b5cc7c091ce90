-- `run::run` meets its contract: the refusal of the file, or the run of its table.
use mathlib.Core.Path.{refl}
use Rattle.run.proofs.Answering.{file_refused, readable_by}
use Rattle.run.proofs.run.Goals as goal

pub run_table-requires : goal.run_table-requires
run_table-requires c = readable_by c.in-Ok.ensures

pub returns-in-Err : goal.returns-in-Err
returns-in-Err c = (file_refused _ _ _ _ _ _ _ c.in-Err.ensures c.from.ensures, refl)

pub returns-in-Ok : goal.returns-in-Ok
returns-in-Ok c = (c.run_table.ensures.0, c.run_table.ensures.1)
