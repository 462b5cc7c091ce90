-- `join::translate_and_run` meets its contract: a refusal, or the run of what the translator wrote.
use mathlib.Core.Path.{refl}
use native.Mathlib.Omega.{arith}
use Rattle.join.proofs.Joining.{refused, passed, written_size, joined}
use Rattle.join.proofs.translate_and_run.Goals as goal

pub returns-in-Err : goal.returns-in-Err
returns-in-Err c = (refused c.in-Err.ensures c.from.ensures, refl)

pub slice_bounds-run-end : goal.slice_bounds-run-end
slice_bounds-run-end c = let p = passed _ _ _ _ _ _ c.in-Ok.ensures in omega (arith, p)

pub slice_bounds-run-end-in-Ok : goal.slice_bounds-run-end-in-Ok
slice_bounds-run-end-in-Ok c = written_size (passed _ _ _ _ _ _ c.in-Ok.ensures) c.translate.ensures

pub returns-in-Ok : goal.returns-in-Ok
returns-in-Ok c = (joined (passed _ _ _ _ _ _ c.in-Ok.ensures) c.translate.ensures c.run.ensures.0, c.run.ensures.1)
