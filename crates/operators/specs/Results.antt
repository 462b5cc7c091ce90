-- What an operator answers, as document 01 says it: a number, or a run fault by its number.
use Rattle.std.specs.Prelude.{ℕ, ℤ, Result, Ok, Err}
use Rattle.definitions.specs.Numbers.{zero_divisor, overflow}
use Rattle.definitions.specs.Operators as Operators
use Rattle.operators.specs.declared.Fault.{Fault}
use Rattle.operators.specs.declared.Fault.TheVariants.{ZeroDivisor, Overflow}

-- the table's number of each fault
abbrev pub fault_number : Fault → ℕ
fault_number ZeroDivisor = zero_divisor
fault_number Overflow = overflow

unfoldable pub computed_of : Result ℤ Fault → Operators.Computed
computed_of (Ok z) = Operators.gives z
computed_of (Err f) = Operators.faults (fault_number f)
