-- `file_kinds::rows` meets its contract: antt computes that the table holds the rows.
use Rattle.definitions.specs.Kinds.{row, rows, row_in, row_of}
use Rattle.definitions.specs.Lists.{all_of}
use Rattle.file_kinds.proofs.KindTable.{holds, rows_held}
use mathlib.Core.Path.{refl}
use Rattle.file_kinds.proofs.rows.Goals as goal

pub returns : goal.returns
unfolding all_of holds row rows row_in row_of
returns c = rows_held _ refl
