-- `cells::cell::set_word` meets its contract: the lower byte, then the upper.
use mathlib.Core.Path.{refl}
use Rattle.file_fields.proofs.FieldWrites.{word_written}
use borrow.Author.Rules.{rules}
use Rattle.cells.proofs.cell.set_word.Goals as goal

pub returns : goal.returns
returns c = word_written _ _ (search rules) refl refl
