-- `file_fields::writing::put_word` meets its contract: the lower byte, then the upper.
use Rattle.file_fields.proofs.FieldWrites.{bytes_written, word_past}
use Rattle.file_fields.proofs.writing.put_word.Goals as goal

pub returns-then-at-b : goal.returns-then-at-b
returns-then-at-b c = bytes_written _ _ _ c.to_le_bytes.ensures c.put_byte.ensures c.put_byte-then-at-b.ensures

pub returns-else-at-b : goal.returns-else-at-b
returns-else-at-b c = word_past _ _ _ c.if-at-b.false
