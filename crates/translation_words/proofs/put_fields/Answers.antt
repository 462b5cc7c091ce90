-- `translation_words::put_fields` meets its contract. The loop's invariant: the fields passed are written.
use mathlib.Core.Path.{◌∙◌}
use Rattle.translation_words.proofs.Writing.{parts_begin, parts_go_on, wrote_element, parts_end}
use Rattle.translation_words.specs.Writing.{field_words}
use Rattle.translation_words.proofs.put_fields.Goals as goal

pub loop-j-init : goal.loop-j-init
loop-j-init c = parts_begin

pub loop-j-preserved : goal.loop-j-preserved
loop-j-preserved c =
    parts_go_on c.loop-j.invariant c.loop-j-test.true
    (wrote_element (c.from.ensures ∙ c.field.ensures) c.put-next.ensures)

pub shape_of-out : goal.shape_of-out
shape_of-out c = c.loop-j.invariant.wrote.kept

pub returns : goal.returns
unfolding field_words
returns c =
    let inv = c.loop-j.invariant in
    parts_end inv c.loop-j-test.false c.field_count-count.ensures
