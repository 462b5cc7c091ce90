-- Division by cases on the signs, at every width: the quotient is held unless the lowest number is divided by -1.
use Rattle.std.proofs.Common.{◌≡◌, ℕ, zero, suc, ◌-◌, ◌/◌, ◌^◌, ◌<◌, ◌≤◌, true, false, ℤ, pos, negsuc, neg_ℤ, sym, refl, ap, ◌∙◌, subst, mod-eq_of_lt, div-le_self, div-one, arith, pow_pos, SFits, to_z, of_z, le-ltb, ne_eqb}
use native.Mathlib.Nat.{div-lt_self}
use lib.Signed.{mag, quot_z}
use mir.Syntax.{Width}
use mir.Val.{bits, hbits}
use mir.ValLaws.{to_z-of_z, pow-bits}
use Rattle.definitions.specs.Numbers.{zero_divisor}
use Rattle.definitions.specs.Operators.{gives, faults, residue, reduced, is_zero, quotient}
use Rattle.operators.proofs.Residues.{reduced_held}

-- the size of a number that is negated
pub negated_size : (r a : ℕ) → r ≤ suc a → mag (neg_ℤ (pos r)) ≤ a
negated_size zero a h = omega arith
negated_size (suc r) a h = omega arith

module _ (w : Width) where
  -- a number by its bits: 0, -1, the lowest
  is_zero_law : (y : ℤ) → SFits w y → of_z w y ≡ 0 → y ≡ pos 0
  is_zero_law (pos n) f e = ap pos e
  is_zero_law (negsuc n) f e = absurd (omega (arith, pow-bits w, f.sfits, e))

  is_minus_one : (y : ℤ) → SFits w y → of_z w y ≡ 2 ^ bits w - 1 → y ≡ negsuc 0
  is_minus_one (pos n) f e = absurd (omega (arith, pow-bits w, pow_pos (hbits w), f.sfits, e))
  is_minus_one (negsuc n) f e = ap negsuc (omega (arith, pow-bits w, pow_pos (hbits w), f.sfits, e))

  is_lowest : (x : ℤ) → SFits w x → of_z w x ≡ 2 ^ hbits w → x ≡ negsuc (2 ^ hbits w - 1)
  is_lowest (pos n) f e = absurd (omega (arith, f.sfits, e))
  is_lowest (negsuc n) f e = ap negsuc (omega (arith, pow-bits w, pow_pos (hbits w), f.sfits, e))

  both_negative : (a b : ℕ) → a < 2 ^ hbits w → (suc a ≡ 2 ^ hbits w → b ≡ 0 → ⊥) → suc a / suc b < 2 ^ hbits w
  both_negative a zero h k = rw (div-one (suc a)) (let n : suc a ≡ 2 ^ hbits w → ⊥ = λ e. k e refl in omega arith)
  both_negative a (suc b) h k = let d : suc a / suc (suc b) < suc a = div-lt_self (omega arith) (omega arith) in omega arith

  -- the quotient, by the signs
  quotient_held : (x y : ℤ) → SFits w x → (of_z w x ≡ 2 ^ hbits w → of_z w y ≡ 2 ^ bits w - 1 → ⊥) → SFits w (quot_z x y)
  quotient_held (pos a) (pos b) f k = record { sfits = let d = div-le_self a b in let h = f.sfits in omega arith }
  quotient_held (pos a) (negsuc b) f k =
      record { sfits = let d = div-le_self a (suc b) in let h = f.sfits in let m = negated_size (a / suc b) a (omega arith) in omega arith }
  quotient_held (negsuc a) (pos b) f k =
      record { sfits = let d = div-le_self (suc a) b in let h = f.sfits in let m = negated_size (suc a / b) a (omega arith) in omega arith }
  quotient_held (negsuc a) (negsuc b) f k =
      record {
        sfits = both_negative a b f.sfits
            (λ e z. k (omega (arith, pow-bits w, e)) (omega (arith, pow-bits w, pow_pos (hbits w), z)));
      }

  -- whether a number is zero, by its bits
  pub zero_bits : (y : ℤ) → SFits w y → of_z w y ≡ 0 → is_zero y ≡ true
  unfolding is_zero
  zero_bits y f e = rw (is_zero_law y f e) refl

  pub not_zero : (y : ℤ) → (of_z w y ≡ 0 → ⊥) → is_zero y ≡ false
  unfolding is_zero
  not_zero (pos n) k = ne_eqb n 0 k
  not_zero (negsuc n) k = refl

  lowest_reduced : reduced w (quot_z (negsuc (2 ^ hbits w - 1)) (negsuc 0)) ≡ negsuc (2 ^ hbits w - 1)
  unfolding reduced residue
  lowest_reduced =
      let p : 0 < 2 ^ hbits w = pow_pos (hbits w) in
      let e : suc (2 ^ hbits w - 1) / 1 ≡ 2 ^ hbits w = div-one (suc (2 ^ hbits w - 1)) ∙ omega arith in
      let k : 2 ^ hbits w < 2 ^ bits w = omega (arith, pow-bits w) in
      ap (λ (n : ℕ). to_z w (residue w (pos n))) e
      ∙ ap (to_z w) (mod-eq_of_lt k)
      ∙ rw (le-ltb (2 ^ hbits w) (2 ^ hbits w) (omega arith)) (ap negsuc (omega (arith, pow-bits w)))

  module _ (x y : ℤ) (f : SFits w x) (g : SFits w y) where
    pub zero_quotient : of_z w y ≡ 0 → faults zero_divisor ≡ quotient w x y
    unfolding quotient is_zero
    zero_quotient e = rw (is_zero_law y g e) refl

    pub lowest_quotient : of_z w y ≡ 2 ^ bits w - 1 → of_z w x ≡ 2 ^ hbits w → gives (to_z w (of_z w x)) ≡ quotient w x y
    unfolding quotient is_zero
    lowest_quotient ey ex =
        ap gives (to_z-of_z w x f ∙ is_lowest x f ex ∙ sym lowest_reduced)
        ∙ sym (ap (quotient w x) (is_minus_one y g ey) ∙ ap (λ (z : ℤ). quotient w z (negsuc 0)) (is_lowest x f ex))

    pub nonzero_divisor : (of_z w y ≡ 0 → ⊥) → 0 < of_z w y
    nonzero_divisor k = omega arith

    -- the quotient of the numbers as they are read back
    module _ (k : of_z w x ≡ 2 ^ hbits w → of_z w y ≡ 2 ^ bits w - 1 → ⊥) where
      read_quotient : quot_z (to_z w (of_z w x)) (to_z w (of_z w y)) ≡ quot_z x y
      read_quotient = ap (λ (z : ℤ). quot_z z (to_z w (of_z w y))) (to_z-of_z w x f) ∙ ap (quot_z x) (to_z-of_z w y g)

      pub quotient_fits : SFits w (quot_z (to_z w (of_z w x)) (to_z w (of_z w y)))
      quotient_fits = subst (λ (z : ℤ). SFits w z) (sym read_quotient) (quotient_held x y f k)

      pub plain_quotient : (of_z w y ≡ 0 → ⊥) → gives (to_z w (of_z w (quot_z (to_z w (of_z w x)) (to_z w (of_z w y))))) ≡ quotient w x y
      unfolding quotient
      plain_quotient n =
          rw (not_zero y n)
          (ap gives (to_z-of_z w _ quotient_fits ∙ read_quotient ∙ sym (reduced_held w (quot_z x y) (quotient_held x y f k))))
