-- `translation_words::put_two` meets its contract: the record's start, then its fields.
use mathlib.Core.Path.{refl}
use Rattle.translation_words.proofs.Writing.{wrote_record, wrote_then}
use Rattle.translation_words.proofs.put_two.Goals as goal

pub returns : goal.returns
returns c =
    wrote_record c.put_start-first.ensures (wrote_then c.put-second.ensures c.put.ensures)
    refl
