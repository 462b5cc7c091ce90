-- `translator::file::put_functions` meets its contract. The loop's invariant: the records of the functions passed are written.
use native.Mathlib.Omega.{arith}
use mathlib.Core.Path.{◌∙◌}
use Rattle.translation_words.proofs.Writing.{parts_begin, parts_go_on, wrote_as}
use Rattle.translator.proofs.FormalSteps.{function_words_law}
use Rattle.translator.proofs.file.put_functions.Goals as goal

pub loop-f-init : goal.loop-f-init
loop-f-init c = parts_begin

pub loop-f-preserved : goal.loop-f-preserved
loop-f-preserved c =
    let pre = c.requires in
    let words = function_words_law pre (omega arith) c.first_function-first.ensures.0
    c.indexed-rec.ensures (c.from.ensures ∙ c.field.ensures) (c.from-in-loop-f.ensures ∙ c.field-in-loop-f.ensures) in
    parts_go_on c.loop-f.invariant c.loop-f-test.true (wrote_as words c.put_two-next.ensures)
