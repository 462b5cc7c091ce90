-- `translator::formals::put_formal` meets its contract: the start of the record, then the actuals.
use Rattle.translation_words.proofs.Writing.{wrote_record}
use Rattle.translator.proofs.FormalSteps.{range_right, actuals_length}
use Rattle.translator.proofs.formals.put_formal.Goals as goal

pub overflow_sub-count : goal.overflow_sub-count
overflow_sub-count c =
    let pre = c.requires in
    range_right pre c.from-2.ensures c.from.ensures

pub returns : goal.returns
returns c =
    let pre = c.requires in
    let length = actuals_length pre c.from-2.ensures c.from.ensures in
    wrote_record c.put_start-fields.ensures c.put_actuals.ensures length
