-- `file_shape::walk` meets its contract: the turns keep `Walking`, and each way out ends as `Walked` says.
use Rattle.file_shape.proofs.Walking.{Walking}
use Rattle.file_shape.proofs.walk.Given as goal

abbrev pub invariant-loop-r : goal.invariant-loop-r
invariant-loop-r l = Walking l.y l.b l.count l.starts l.at l.r
