-- `file_records::records::record_at` meets its contract: a whole record ends inside the file.
use Rattle.laws.proofs.Records.{whole_inside, record_part, record_none}
use mathlib.Core.Path.{◌∙◌}
use native.Mathlib.Omega.{arith}
use Rattle.file_records.proofs.records.record_at.Goals as goal

pub overflow_add-end : goal.overflow_add-end
overflow_add-end c =
    let good = c.well_formed in
    omega (arith, good, whole_inside _ _ _ _ c.is_whole.ensures c.if-is_whole.true (c.from.ensures ∙ c.word.ensures))

pub slice_bounds-result-end : goal.slice_bounds-result-end
slice_bounds-result-end c =
    whole_inside _ _ _ _ c.is_whole.ensures c.if-is_whole.true (c.from.ensures ∙ c.word.ensures)

pub returns-then-is_whole : goal.returns-then-is_whole
returns-then-is_whole c =
    let is_whole = c.is_whole in
    record_part _ _ _ _ is_whole.ensures c.if-is_whole.true (c.from.ensures ∙ c.word.ensures)

pub returns-else-is_whole : goal.returns-else-is_whole
returns-else-is_whole c =
    let is_whole = c.is_whole in
    record_none _ _ _ is_whole.ensures c.if-is_whole.false
