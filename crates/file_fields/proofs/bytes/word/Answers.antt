-- `file_fields::bytes::word` meets its contract: a field that the file ends in has its upper byte past the end.
use Rattle.laws.proofs.Bytes.{word_last, word_past}
use mathlib.Core.Path.{◌∙◌}
use borrow.Author.Rules.{rules}
use Rattle.file_fields.proofs.bytes.word.Goals as goal

pub returns-then-at-b : goal.returns-then-at-b
returns-then-at-b c = word_last _ _ _ (search rules) (c.from.ensures ∙ c.byte.ensures)

pub returns : goal.returns
returns c = word_past _ _ c.if-at-b.false
