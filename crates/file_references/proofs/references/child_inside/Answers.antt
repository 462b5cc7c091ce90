-- `file_references::references::child_inside` meets its contract: the tests in the definition's order; the field is in the record.
use Rattle.laws.proofs.References.{child_other, child_first, child_second, room_other, room_first, room_second}
use Rattle.laws.proofs.Records.{field_room}
use native.Mathlib.Omega.{arith}
use Rattle.file_references.proofs.references.child_inside.Goals as goal

pub overflow_mul-j : goal.overflow_mul-j
overflow_mul-j c =
    let pre = c.requires in
    omega (arith, field_room _ _ (room_other _ pre.0 pre.1 c.every_other.ensures c.if-every_other.true))

pub field_inside-requires : goal.field_inside-requires
field_inside-requires c =
    let pre = c.requires in
    omega (arith, room_other _ pre.0 pre.1 c.every_other.ensures c.if-every_other.true)

pub returns-then-every_other : goal.returns-then-every_other
returns-then-every_other c = search child_other

pub field_inside-requires-then-from_first : goal.field_inside-requires-then-from_first
field_inside-requires-then-from_first c =
    let pre = c.requires in
    room_first _ pre.0 pre.1 c.every_other.ensures c.if-every_other.false c.from_first.ensures c.if-from_first.true

pub returns-then-from_first : goal.returns-then-from_first
returns-then-from_first c = search child_first

pub overflow_add-j : goal.overflow_add-j
overflow_add-j c =
    let pre = c.requires in
    omega (arith, field_room _ _ (room_second _ pre.0 pre.1 c.every_other.ensures c.if-every_other.false c.from_first.ensures c.if-from_first.false))

pub field_inside-requires-else-from_first : goal.field_inside-requires-else-from_first
field_inside-requires-else-from_first c =
    let pre = c.requires in
    omega (arith, room_second _ pre.0 pre.1 c.every_other.ensures c.if-every_other.false c.from_first.ensures c.if-from_first.false)

pub returns-else-from_first : goal.returns-else-from_first
returns-else-from_first c = search child_second
