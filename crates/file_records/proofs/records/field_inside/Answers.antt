-- `file_records::records::field_inside` meets its contract: both bytes of the field are in the record.
use Rattle.laws.proofs.Records.{field_room}
use native.Mathlib.Omega.{arith}
use Rattle.file_records.proofs.records.field_inside.Goals as goal

pub overflow_mul-j : goal.overflow_mul-j
overflow_mul-j c = omega (arith, field_room _ _ c.requires)

pub overflow_add-j : goal.overflow_add-j
overflow_add-j c = omega (arith, field_room _ _ c.requires)

pub word_inside-requires : goal.word_inside-requires
word_inside-requires c = omega (arith, field_room _ _ c.requires)
