-- `operators::bits::number_of` meets its contract: from 2 ^ 31 on the number is 2 ^ 32 less.
use Rattle.operators.proofs.Conversions.{high_cast, high_number}
use Rattle.operators.proofs.Conversions.{wide_fits}
use Rattle.std.proofs.Common.{rules}
use Rattle.operators.proofs.bits.number_of.Goals as goal

pub overflow_sub-result : goal.overflow_sub-result
overflow_sub-result c = wide_fits c.args.n (search rules)

pub overflow_cast-result-else-n-lt2147483648-2 : goal.overflow_cast-result-else-n-lt2147483648-2
overflow_cast-result-else-n-lt2147483648-2 c = high_cast c.args.n c.if-n-lt2147483648.false (search rules)

pub returns-else-n-lt2147483648 : goal.returns-else-n-lt2147483648
returns-else-n-lt2147483648 c = high_number c.args.n c.if-n-lt2147483648.false (search rules)
