-- `file_records::records::next` meets its contract: a whole record ends inside the file, so the sum fits.
use Rattle.laws.proofs.Records.{next_whole, next_none, whole_inside}
use mathlib.Core.Path.{◌∙◌}
use native.Mathlib.Omega.{arith}
use Rattle.file_records.proofs.records.next.Goals as goal

pub overflow_add-result : goal.overflow_add-result
overflow_add-result c =
    let good = c.well_formed in
    let is_whole = c.is_whole in
    omega (arith, good, whole_inside _ _ _ _ is_whole.ensures c.if-is_whole.true (c.from.ensures ∙ c.word.ensures))

pub returns-then-is_whole : goal.returns-then-is_whole
returns-then-is_whole c =
    let is_whole = c.is_whole in
    next_whole _ _ _ _ is_whole.ensures c.if-is_whole.true (c.from.ensures ∙ c.word.ensures)

pub returns-else-is_whole : goal.returns-else-is_whole
returns-else-is_whole c = next_none _ _ _ c.is_whole.ensures c.if-is_whole.false
