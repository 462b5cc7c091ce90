-- `file_fields::bytes::word32` meets its contract: where the place of the upper half is no number, the lower half is the whole.
use Rattle.laws.proofs.Bytes.{word32_words, word32_low}
use Rattle.definitions.specs.Bytes.{word}
use mathlib.Core.Path.{ap, ◌∙◌}
use native.Mathlib.Omega.{arith}
use Rattle.file_fields.proofs.bytes.word32.Goals as goal

pub returns-in-Some : goal.returns-in-Some
returns-in-Some c =
    word32_words _ _ _ _ (c.from-low.ensures ∙ c.word.ensures)
    (c.from.ensures ∙ c.word-in-Some.ensures ∙ ap (word c.args.b.now) c.in-Some.ensures.1)

pub returns-in-None : goal.returns-in-None
returns-in-None c = let past = c.in-None.ensures in word32_low _ _ _ (omega arith) (c.from-low.ensures ∙ c.word.ensures)
