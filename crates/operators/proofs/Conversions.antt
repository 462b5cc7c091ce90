-- How numbers and their bits go through 64 bits, and how an operator on the bits gives the number.
use Rattle.std.proofs.Common.{◌≡◌, ℕ, suc, ◌+◌, ◌-◌, ◌%◌, ◌^◌, ◌<◌, ◌≤◌, Bool, true, false, T, ℤ, pos, negsuc, ◌+ℤ◌, ◌-ℤ◌, nat_abs, sym, refl, ap, ◌∙◌, subst, mod-eq_of_lt, arith, w32, w64, Fits, SFits, to_z, of_z, ltb-true, le-ltb, lt-ltb}
use lib.Signed.{lt_z, non_neg}
use mir.Syntax.{Width}
use mir.Val.{bits, hbits}
use mir.ValLaws.{to_z-of_z, to_z-Fits}
use Rattle.definitions.specs.Operators.{residue, reduced}
use Rattle.operators.proofs.Residues.{residue_below, residue_sum, residue_difference}

-- a number from 2 ^ 31 on, read as signed 32 bits, is 2 ^ 32 less; the 64-bit difference that says so, and its range
wide_difference : (n : ℕ) → n < 4294967296 → to_z w64 n -ℤ pos 4294967296 ≡ negsuc (4294967296 - suc n)
wide_difference n h = rw (lt-ltb n 9223372036854775808 (omega arith), lt-ltb n 4294967296 h) refl

high_signed : (n : ℕ) → 2147483648 ≤ n → negsuc (4294967296 - suc n) ≡ to_z w32 n
high_signed n h = rw (le-ltb n 2147483648 h) refl

high_fits : (n : ℕ) → 2147483648 ≤ n → n < 4294967296 → SFits w32 (to_z w64 n -ℤ pos 4294967296)
high_fits n h k = rw (wide_difference n k) (record { sfits = omega arith })

pub wide_fits : (n : ℕ) → n < 4294967296 → SFits w64 (to_z w64 n -ℤ pos 4294967296)
wide_fits n k = rw (wide_difference n k) (record { sfits = omega arith })

-- a number of a width is one of a wider width
module _ (w v : Width) (wide : 2 ^ hbits w ≤ 2 ^ hbits v) (x : ℤ) (f : SFits w x) where
  pub widened : SFits v (to_z w (of_z w x))
  widened = rw (to_z-of_z w x f) (record { sfits = let h = f.sfits in omega arith })

  pub wide_back : to_z v (of_z v (to_z w (of_z w x))) ≡ x
  wide_back = to_z-of_z v (to_z w (of_z w x)) widened ∙ to_z-of_z w x f

-- 2 ^ 32 above a negative number are its bits
negative_bits : (x : ℤ) → SFits w32 x → lt_z x (pos 0) ≡ true → x +ℤ pos 4294967296 ≡ pos (residue w32 x)
unfolding residue
negative_bits (pos n) f e = absurd (omega (arith, ltb-true n 0 e))
negative_bits (negsuc n) f e =
    let h : n < 2147483648 = f.sfits in
    let k : n < 4294967296 = omega arith in
    rw (le-ltb 4294967296 (suc n) (omega arith), mod-eq_of_lt k) refl

positive_bits : (x : ℤ) → SFits w32 x → lt_z x (pos 0) ≡ false → x ≡ pos (residue w32 x)
unfolding residue
positive_bits (pos n) f e = let h : n < 2147483648 = f.sfits in let k : n < 4294967296 = omega arith in ap pos (sym (mod-eq_of_lt k))
positive_bits (negsuc n) f e = absurd (let z : ◌≡◌ {A = Bool} true false = e in let y : ◌≡◌ {A = ℕ} 0 1 = cc in omega arith)

-- a number of 32 bits and one from 2 ^ 31 to 2 ^ 33 have a sum of 64 bits
sum_narrow : (x : ℤ) (n : ℕ) → SFits w32 x → 2147483648 ≤ n → n ≤ 8589934592 → SFits w64 (x +ℤ pos n)
sum_narrow (pos m) n f h k = let g : m < 2147483648 = f.sfits in record { sfits = omega arith }
sum_narrow (negsuc m) n f h k =
    let g : m < 2147483648 = f.sfits in
    rw (le-ltb n (suc m) (omega arith)) (record { sfits = omega arith })

module _ (x : ℤ) (f : SFits w32 x) where
  -- the sign of a number, by the test of its bits
  pub low_test : {t : Bool} → lt_z (to_z w32 (of_z w32 x)) (pos 0) ≡ t → lt_z x (pos 0) ≡ t
  low_test {t} e = subst (λ (z : ℤ). lt_z z (pos 0) ≡ t) (to_z-of_z w32 x f) e

  -- the sum in 64 bits of a negative number and 2 ^ 32
  wide_sum : lt_z (to_z w32 (of_z w32 x)) (pos 0) ≡ true → to_z w64 (of_z w64 (to_z w32 (of_z w32 x))) +ℤ pos 4294967296 ≡ pos (residue w32 x)
  wide_sum e = ap (λ (z : ℤ). z +ℤ pos 4294967296) (wide_back w32 w64 (omega arith) x f) ∙ negative_bits x f (low_test e)

  pub sum_fits : (n : ℕ) → 2147483648 ≤ n → n ≤ 8589934592 → SFits w64 (to_z w64 (of_z w64 (to_z w32 (of_z w32 x))) +ℤ pos n)
  sum_fits n h k = subst (λ (z : ℤ). SFits w64 (z +ℤ pos n)) (sym (wide_back w32 w64 (omega arith) x f)) (sum_narrow x n f h k)

  pub sum_bits : lt_z (to_z w32 (of_z w32 x)) (pos 0) ≡ true
      → to_z w64 (of_z w64 (to_z w64 (of_z w64 (to_z w32 (of_z w32 x))) +ℤ pos 4294967296)) ≡ pos (residue w32 x)
  sum_bits e = to_z-of_z w64 _ (sum_fits 4294967296 (omega arith) (omega arith)) ∙ wide_sum e

  pub own_bits : lt_z (to_z w32 (of_z w32 x)) (pos 0) ≡ false → to_z w32 (of_z w32 x) ≡ pos (residue w32 x)
  own_bits e = to_z-of_z w32 x f ∙ positive_bits x f (low_test e)

  -- a number that is the bits may be cast
  pub bits_cast : (z : ℤ) → z ≡ pos (residue w32 x) → T (non_neg z) × Fits w32 (nat_abs z)
  bits_cast z e = subst (λ (v : ℤ). T (non_neg v) × Fits w32 (nat_abs v)) (sym e) (tt, record { fits = residue_below w32 x })

-- bits from 2 ^ 31 on, read as 2 ^ 32 less
pub high_cast : (n : ℕ) → 2147483648 ≤ n → n < 4294967296 → SFits w32 (to_z w64 (of_z w64 (to_z w64 n -ℤ pos 4294967296)))
high_cast n h k = rw (to_z-of_z w64 (to_z w64 n -ℤ pos 4294967296) (wide_fits n k)) (high_fits n h k)

pub high_number : (n : ℕ) → 2147483648 ≤ n → n < 4294967296
    → to_z w32 (of_z w32 (to_z w64 (of_z w64 (to_z w64 n -ℤ pos 4294967296)))) ≡ to_z w32 n
high_number n h k =
    to_z-of_z w32 _ (high_cast n h k)
    ∙ to_z-of_z w64 (to_z w64 n -ℤ pos 4294967296) (wide_fits n k)
    ∙ wide_difference n k
    ∙ high_signed n h

-- the operators on bits, at every width: what a number's bits were is read back, and the result's bits are the number's
module _ (w : Width) where
  bits_read : (x : ℤ) (a : ℕ) → SFits w x → a ≡ residue w (to_z w (of_z w x)) → a ≡ residue w x
  bits_read x a f e = e ∙ ap (residue w) (to_z-of_z w x f)

  number_read : (z r : ℤ) (n : ℕ) → n ≡ residue w z → r ≡ to_z w n → to_z w (of_z w r) ≡ reduced w z
  unfolding reduced
  number_read z r n e q =
      let s : r ≡ to_z w (residue w z) = q ∙ ap (to_z w) e in
      ap (λ (v : ℤ). to_z w (of_z w v)) s
      ∙ to_z-of_z w (to_z w (residue w z)) (to_z-Fits w (residue w z) (record { fits = residue_below w z }))

  module _ {x y r : ℤ} {a b n : ℕ} (f : SFits w x) (g : SFits w y) (ea : a ≡ residue w (to_z w (of_z w x))) (eb : b ≡ residue w (to_z w (of_z w y))) where
    pub sum_number : n ≡ (a + b) % 2 ^ bits w → r ≡ to_z w n → to_z w (of_z w r) ≡ reduced w (x +ℤ y)
    sum_number e =
        number_read (x +ℤ y) r n
        (e ∙ ap (λ (v : ℕ). (v + b) % 2 ^ bits w) (bits_read x a f ea) ∙ ap (λ (v : ℕ). (residue w x + v) % 2 ^ bits w) (bits_read y b g eb)
        ∙ residue_sum w x y)

    pub difference_number : n < 2 ^ bits w → (n + b) % 2 ^ bits w ≡ a → r ≡ to_z w n → to_z w (of_z w r) ≡ reduced w (x -ℤ y)
    difference_number h e =
        number_read (x -ℤ y) r n
        (residue_difference w x y n h (ap (λ (v : ℕ). (n + v) % 2 ^ bits w) (sym (bits_read y b g eb)) ∙ e ∙ bits_read x a f ea))
