-- `file_fields::bytes::word_inside` meets its contract: the field that the two bytes are.
use Rattle.laws.proofs.Bytes.{word_bytes}
use mathlib.Core.Path.{refl, ◌∙◌}
use Rattle.file_fields.proofs.bytes.word_inside.Goals as goal

pub returns : goal.returns
returns c = c.field_of.ensures ∙ word_bytes _ _ _ _ refl refl
