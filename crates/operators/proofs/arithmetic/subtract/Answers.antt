-- `operators::arithmetic::subtract` meets its contract: what wraps back to the first's bits is the bits of the difference.
use Rattle.operators.proofs.Conversions.{difference_number}
use Rattle.std.proofs.Common.{w32, rules}
use Rattle.operators.proofs.arithmetic.subtract.Goals as goal

pub returns : goal.returns
returns c = difference_number w32 c.ranges.x c.ranges.y
    c.bits_of.ensures c.bits_of-2.ensures (search rules) c.wrapping_sub_u32.ensures.value c.number_of.ensures
