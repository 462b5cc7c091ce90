-- The sign and the size of a number.
use Rattle.std.proofs.Common.{w32}
use mir.ValLaws.{to_z-of_z}
use Rattle.report.proofs.Digits.{integer_signed}
use Rattle.report.proofs.shown.SignedFromI32.from.Goals as goal

pub returns : goal.returns
returns c = rw (c.unsigned_abs.ensures.value, to_z-of_z w32 _ c.ranges.x) (integer_signed _)
