-- `translation_words::put_start` meets its contract: two words, one after the other.
use Rattle.translation_words.proofs.Writing.{wrote_then}
use Rattle.translation_words.proofs.put_start.Goals as goal

pub returns : goal.returns
returns c =
    wrote_then c.put-fields.ensures c.put.ensures
