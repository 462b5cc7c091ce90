-- `answer::value_bits` meets its contract where the outcome is a number; the check finds the other cases alone.
use Rattle.answer.proofs.Records.{number_bits}
use Rattle.std.proofs.Common.{rules}
use Rattle.answer.proofs.value_bits.Goals as goal

pub returns-in-Number : goal.returns-in-Number
returns-in-Number c = number_bits (record { sfits = search rules }) c.in-Number.is c.bits_of.ensures
