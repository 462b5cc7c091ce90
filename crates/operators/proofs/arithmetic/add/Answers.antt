-- `operators::arithmetic::add` meets its contract: the sum of the bits, reduced, is the bits of the sum.
use Rattle.operators.proofs.Conversions.{sum_number}
use Rattle.std.proofs.Common.{w32}
use Rattle.operators.proofs.arithmetic.add.Goals as goal

pub returns : goal.returns
returns c =
    let fits = c.ranges in
    let bits_of = c.bits_of in
    let bits_of2 = c.bits_of-2 in
    sum_number w32 fits.x fits.y bits_of.ensures bits_of2.ensures c.wrapping_add_u32.ensures.value c.number_of.ensures
