-- Numbers that four bytes hold: those of signed 32 bits. Literals, readings, tags and what operators give are.
use mathlib.Core.Path.{◌≡◌, refl}
use Prim.Native.Nat.{ℕ, ◌<◌}
use mathlib.Core.Bool.{Bool, true, false, cond}
use native.Mathlib.Omega.{arith}
use lib.IntN.{ℤ, pos, ◌*ℤ◌}
use lib.Signed.{lt_z}
use lib.Dec.{eqb}
use mir.Syntax.{w32}
use mir.Val.{to_z, SFits}
use Rattle.definitions.specs.OperatorCodes
use Rattle.definitions.specs.Numbers.{overflow}
use Rattle.definitions.specs.Operators.{Computed, gives, faults, residue, reduced, in_signed_range, is_zero, equal, truth, product, quotient, computed}
use Rattle.operators.proofs.Residues.{reduced_held, read_held}
use Rattle.operators.proofs.Products.{range_fits_law}
use Rattle.lent_rule.specs.Standing.{Narrow}

pub narrow_held : {z : ℤ} → SFits w32 z → Narrow z
unfolding reduced
narrow_held {z} f = record { back = reduced_held w32 z f }

pub narrow_read : (n : ℕ) → Narrow (to_z w32 n)
narrow_read n = narrow_held (read_held w32 n)

-- a number of 16 bits
pub word_fits : (n : ℕ) → n < 65536 → SFits w32 (pos n)
word_fits n h = record { sfits = omega arith }

-- what an operator gives
data ComputedFits : Computed → Type 0 where
  a_number : {z : ℤ} → SFits w32 z → ComputedFits (gives z)
  a_fault : {n : ℕ} → ComputedFits (faults n)

either : (t : Bool) {c d : Computed} → ComputedFits c → ComputedFits d → ComputedFits (cond t c d)
either true h g = h
either false h g = g

reduced_fits : (z : ℤ) → ComputedFits (gives (reduced w32 z))
unfolding reduced
reduced_fits z = a_number (read_held w32 (residue w32 z))

truth_fits : (t : Bool) → ComputedFits (gives (truth t))
unfolding truth
truth_fits true = a_number (word_fits 1 (omega arith))
truth_fits false = a_number (word_fits 0 (omega arith))

product_fits : (z : ℤ) (t : Bool) → in_signed_range w32 z ≡ t → ComputedFits (cond t (gives z) (faults overflow))
product_fits z true e = a_number (range_fits_law w32 z e)
product_fits z false e = a_fault

result_fits : (o : ℕ) (x y : ℤ) → ComputedFits (computed o x y)
unfolding computed product quotient
result_fits o x y =
    either (eqb o OperatorCodes.add) (reduced_fits _)
    (either (eqb o OperatorCodes.subtract) (reduced_fits _)
    (either (eqb o OperatorCodes.multiply) (product_fits (x *ℤ y) (in_signed_range w32 (x *ℤ y)) refl)
    (either (eqb o OperatorCodes.divide) (either (is_zero y) a_fault (reduced_fits _))
    (either (eqb o OperatorCodes.less) (truth_fits (lt_z x y))
    (either (eqb o OperatorCodes.equal) (truth_fits (equal x y)) (a_number (word_fits 0 (omega arith))))))))

given_fits : {c : Computed} {z : ℤ} → ComputedFits c → c ≡ gives z → SFits w32 z
given_fits {c} {z} (a_number {z = x} h) e = let s : x ≡ z = cc e in rw s at h
given_fits a_fault e = absurd (let z : ◌≡◌ {A = ℕ} 0 1 = cc in omega arith)

pub computed_fits : {z : ℤ} (o : ℕ) (x y : ℤ) → computed o x y ≡ gives z → SFits w32 z
computed_fits o x y e = given_fits (result_fits o x y) e
