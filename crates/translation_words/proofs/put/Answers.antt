-- `translation_words::put` meets its contract: the two bytes of a word, or a place that is not counted.
use Rattle.translation_words.proofs.Writing.{wrote_past, wrote_word}
use Rattle.translation_words.proofs.put.Goals as goal

pub returns-then-at-ge-TRANSLATION_BYTES : goal.returns-then-at-ge-TRANSLATION_BYTES
returns-then-at-ge-TRANSLATION_BYTES c = wrote_past c.if-at-ge-TRANSLATION_BYTES.true

pub returns : goal.returns
returns c =
    wrote_word c.put_byte.ensures c.put_byte-2.ensures
