-- `file_shape::file_shape` meets its contract: the size first, then the walk.
use Rattle.file_shape.proofs.Walking.{oversized}
use Rattle.file_shape.proofs.file_shape.Goals as goal

pub returns-then-file_limit-b : goal.returns-then-file_limit-b
returns-then-file_limit-b c = oversized c.file_limit.ensures c.if-file_limit-b.true
