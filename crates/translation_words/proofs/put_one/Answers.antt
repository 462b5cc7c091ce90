-- `translation_words::put_one` meets its contract: the record's start, then its field.
use mathlib.Core.Path.{refl}
use Rattle.translation_words.proofs.Writing.{wrote_record}
use Rattle.translation_words.proofs.put_one.Goals as goal

pub returns : goal.returns
returns c =
    wrote_record c.put_start-first.ensures c.put.ensures refl
