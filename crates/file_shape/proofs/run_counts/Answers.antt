-- `file_shape::run_counts` meets its contract; at the last function the index holds every function's record.
use native.Mathlib.Omega.{arith}
use Rattle.file_records.proofs.Indices.{as_many}
use Rattle.file_shape.proofs.run_counts.Goals as goal

pub field_total-requires : goal.field_total-requires
field_total-requires c = as_many c.requires (omega arith)
