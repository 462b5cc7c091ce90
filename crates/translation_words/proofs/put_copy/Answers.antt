-- `translation_words::put_copy` meets its contract: the record's start, then the fields of the other.
use mathlib.Core.Path.{◌∙◌}
use Rattle.translation_words.proofs.Writing.{wrote_copy}
use Rattle.translation_words.proofs.put_copy.Goals as goal

pub returns : goal.returns
returns c =
    wrote_copy _ c.put_start-fields.ensures c.put_fields.ensures
    (c.from.ensures ∙ c.kind.ensures) c.field_count.ensures
