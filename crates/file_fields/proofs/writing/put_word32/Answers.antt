-- `file_fields::writing::put_word32` meets its contract: the lower word, then the upper where its place is a number.
use Rattle.file_fields.proofs.FieldWrites.{word32_written, word32_cut}
use native.Mathlib.Omega.{arith}
use Rattle.file_fields.proofs.writing.put_word32.Goals as goal

pub returns-in-Some : goal.returns-in-Some
returns-in-Some c = word32_written _ _ _ c.put_word.ensures c.in-Some.ensures.1 c.put_word-in-Some.ensures

pub returns-in_default : goal.returns-in_default
returns-in_default c = let past = c.in_default.ensures in word32_cut _ _ _ (omega arith) c.put_word.ensures
