-- The operators (document 01, "Operators on signed 32 bits"; document 02, request 2).
use Rattle.std.specs.Prelude.{ℕ, suc, ◌-◌, ◌%◌, ◌^◌, Bool, false, cond, not, ◌&&◌, ℤ, pos, negsuc, ◌+ℤ◌, ◌-ℤ◌, ◌*ℤ◌, ltb, eqb}
use Rattle.std.specs.Int.Signed.{lt_z, quot_z}
use Rattle.std.specs.Int.{Width, w32}
use mir.Val.{bits, hbits, to_z}
use Rattle.definitions.specs.Numbers.{zero_divisor, overflow}
use Rattle.definitions.specs.OperatorCodes

-- what an operator gives: a number, or a run fault
pub data Computed : Type 0 where
  gives : ℤ → Computed
  faults : ℕ → Computed

-- the remainder of a number modulo 2 ^ w, and "reduced modulo 2^32 into the range", at any width
unfoldable pub residue : Width → ℤ → ℕ
residue w (pos n) = n % 2 ^ bits w
residue w (negsuc n) = 2 ^ bits w - suc (n % 2 ^ bits w)

unfoldable pub reduced : Width → ℤ → ℤ
reduced w z = to_z w (residue w z)

-- whether a number is in the signed range of a width, from -2 ^ (w - 1) to 2 ^ (w - 1) - 1; `negsuc n` is -(n + 1)
unfoldable pub in_signed_range : Width → ℤ → Bool
in_signed_range w (pos n) = ltb n (2 ^ hbits w)
in_signed_range w (negsuc n) = ltb n (2 ^ hbits w)

-- whether a number is zero; whether two are equal: neither is less
unfoldable pub is_zero : ℤ → Bool
is_zero (pos n) = eqb n 0
is_zero (negsuc n) = false

unfoldable pub equal : ℤ → ℤ → Bool
equal x y = not (lt_z x y) && not (lt_z y x)

unfoldable pub truth : Bool → ℤ
truth t = pos (cond t 1 0)

-- "Multiplication whose exact product is outside signed 32 bits shall end the run": at any width
unfoldable pub product : Width → ℤ → ℤ → Computed
product w x y = cond (in_signed_range w (x *ℤ y)) (gives (x *ℤ y)) (faults overflow)

-- "3 divide, towards zero, and -2,147,483,648 by -1 gives itself"
unfoldable pub quotient : Width → ℤ → ℤ → Computed
quotient w x y = cond (is_zero y) (faults zero_divisor) (gives (reduced w (quot_z x y)))

-- the operator of a code; no accepted file has a code above the greatest, which gives 0
unfoldable pub computed : ℕ → ℤ → ℤ → Computed
computed code x y =
    cond (eqb code OperatorCodes.add) (gives (reduced w32 (x +ℤ y)))
    (cond (eqb code OperatorCodes.subtract) (gives (reduced w32 (x -ℤ y)))
    (cond (eqb code OperatorCodes.multiply) (product w32 x y)
    (cond (eqb code OperatorCodes.divide) (quotient w32 x y)
    (cond (eqb code OperatorCodes.less) (gives (truth (lt_z x y)))
    (cond (eqb code OperatorCodes.equal) (gives (truth (equal x y))) (gives (pos 0)))))))
