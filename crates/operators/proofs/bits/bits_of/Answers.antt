-- `operators::bits::bits_of` meets its contract: 2 ^ 32 above a negative number are its bits, and any other is its own.
use Rattle.std.proofs.Common.{nat_abs, ap, arith, w32, w64}
use Rattle.operators.proofs.Conversions.{widened, sum_fits, sum_bits, own_bits, bits_cast}
use Rattle.operators.proofs.bits.bits_of.Goals as goal

pub overflow_cast-result : goal.overflow_cast-result
overflow_cast-result c = widened w32 w64 (omega arith) _ c.ranges.x

pub overflow_add-result : goal.overflow_add-result
overflow_add-result c = sum_fits _ c.ranges.x _ (omega arith) (omega arith)

pub overflow_cast-result-then-x-lt0 : goal.overflow_cast-result-then-x-lt0
overflow_cast-result-then-x-lt0 c =
    let fits = c.ranges in
    bits_cast c.args.x fits.x _ (sum_bits _ fits.x c.if-x-lt0.true)

pub overflow_cast-result-else-x-lt0 : goal.overflow_cast-result-else-x-lt0
overflow_cast-result-else-x-lt0 c =
    let fits = c.ranges in
    bits_cast c.args.x fits.x _ (own_bits _ fits.x c.if-x-lt0.false)

pub returns-then-x-lt0 : goal.returns-then-x-lt0
returns-then-x-lt0 c = ap nat_abs (sum_bits _ c.ranges.x c.if-x-lt0.true)

pub returns-else-x-lt0 : goal.returns-else-x-lt0
returns-else-x-lt0 c = ap nat_abs (own_bits _ c.ranges.x c.if-x-lt0.false)
