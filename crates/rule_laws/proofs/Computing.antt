-- An operator gives a number, or a fault: that of a product out of range, or that of a zero divisor.
use mathlib.Core.Path.{◌≡◌, refl}
use Prim.Native.Nat.{ℕ}
use mathlib.Core.Bool.{Bool, true, false, cond}
use lib.IntN.{ℤ, ◌*ℤ◌}
use lib.Dec.{eqb}
use borrow.Author.Tests.{eqb-true}
use mir.Syntax.{w32}
use Rattle.definitions.specs.Numbers.{zero_divisor, overflow}
use Rattle.definitions.specs.OperatorCodes
use Rattle.definitions.specs.Operators.{Computed, gives, faults, in_signed_range, is_zero, product, quotient, computed}

-- what operator o gives for x and y
pub data Result (o : ℕ) (x y : ℤ) : Computed → Type 0 where
  a_number : {z : ℤ} → Result o x y (gives z)
  out_of_range : o ≡ OperatorCodes.multiply → in_signed_range w32 (x *ℤ y) ≡ false → Result o x y (faults overflow)
  no_divisor : Result o x y (faults zero_divisor)

module _ (o : ℕ) (x y : ℤ) where
  either : (t : Bool) {c d : Computed} → (t ≡ true → Result o x y c) → (t ≡ false → Result o x y d) → Result o x y (cond t c d)
  either true h g = h refl
  either false h g = g refl

  pub computed_result : Result o x y (computed o x y)
  unfolding computed product quotient
  computed_result =
      either (eqb o OperatorCodes.add) (λ e. a_number)
      (λ e. either (eqb o OperatorCodes.subtract) (λ e. a_number)
      (λ e. either (eqb o OperatorCodes.multiply)
      (λ e. either (in_signed_range w32 (x *ℤ y)) (λ h. a_number) (out_of_range (eqb-true o OperatorCodes.multiply e)))
      (λ e. either (eqb o OperatorCodes.divide) (λ e. either (is_zero y) (λ h. no_divisor) (λ h. a_number))
      (λ e. either (eqb o OperatorCodes.less) (λ e. a_number)
      (λ e. either (eqb o OperatorCodes.equal) (λ e. a_number) (λ e. a_number))))))
