-- The exact product of two numbers in a width that holds it, and whether it is in the range of their own, at every width.
use Rattle.std.proofs.Common.{◌≡◌, ℕ, suc, ◌-◌, ◌*◌, ◌^◌, ◌<◌, ◌≤◌, Bool, true, false, ℤ, pos, negsuc, ◌*ℤ◌, sym, refl, ap, ◌∙◌, subst, true≢false, mul-le-mul, arith, pow_pos, SFits, to_z, of_z, ltb-false, ltb-true, le-ltb, lt-ltb}
use lib.Signed.{mag, lt_z}
use mir.Syntax.{Width}
use mir.Val.{hbits}
use mir.ValLaws.{to_z-of_z}
use Rattle.definitions.specs.Numbers.{overflow}
use Rattle.definitions.specs.Operators.{gives, faults, in_signed_range, product}
use Rattle.operators.proofs.Conversions.{wide_back}
use Rattle.operators.proofs.Division.{negated_size}
use Rattle.operators.proofs.Answers.{read_both}

-- the size of a product of two numbers below a size
product_size : (h : ℕ) (x y : ℤ) → mag x < h → mag y < h → mag (x *ℤ y) ≤ h * h
product_size h (pos a) (pos b) p q = mul-le-mul (omega arith) (omega arith)
product_size h (pos a) (negsuc b) p q =
    let m : a * suc b ≤ h * h = mul-le-mul (omega arith) (omega arith) in negated_size (a * suc b) (h * h) (omega arith)
product_size h (negsuc a) (pos b) p q =
    let m : suc a * b ≤ h * h = mul-le-mul (omega arith) (omega arith) in negated_size (suc a * b) (h * h) (omega arith)
product_size h (negsuc a) (negsuc b) p q = mul-le-mul (omega arith) (omega arith)

-- two numbers of width w, each cast to width v and multiplied there
module _ (w v : Width) (wide : 2 ^ hbits w ≤ 2 ^ hbits v) (holds : 2 ^ hbits w * 2 ^ hbits w < 2 ^ hbits v) (x y : ℤ) (f : SFits w x) (g : SFits w y) where
  abbrev cast : ℤ → ℤ
  cast z = to_z v (of_z v (to_z w (of_z w z)))

  casts_back : cast x *ℤ cast y ≡ x *ℤ y
  casts_back = ap (λ (z : ℤ). z *ℤ cast y) (wide_back w v wide x f) ∙ ap (λ (z : ℤ). x *ℤ z) (wide_back w v wide y g)

  pub product_fits : SFits v (cast x *ℤ cast y)
  product_fits =
      subst (λ (z : ℤ). SFits v z) (sym casts_back)
      (record { sfits = let m = product_size (2 ^ hbits w) x y f.sfits g.sfits in omega arith })

  pub exact : to_z v (of_z v (cast x *ℤ cast y)) ≡ x *ℤ y
  exact = to_z-of_z v _ product_fits ∙ casts_back

-- the range, by its two ends
module _ (w : Width) where
  below_lowest : (z : ℤ) → lt_z z (negsuc (2 ^ hbits w - 1)) ≡ true → false ≡ in_signed_range w z
  unfolding in_signed_range
  below_lowest (pos n) e = absurd (true≢false (sym e))
  below_lowest (negsuc n) e = let h = ltb-true (2 ^ hbits w - 1) n e in sym (le-ltb n (2 ^ hbits w) (omega arith))

  from_lowest : (z : ℤ) → lt_z z (negsuc (2 ^ hbits w - 1)) ≡ false → lt_z z (pos (2 ^ hbits w)) ≡ in_signed_range w z
  unfolding in_signed_range
  from_lowest (pos n) e = refl
  from_lowest (negsuc n) e =
      let h = ltb-false (2 ^ hbits w - 1) n e in sym (lt-ltb n (2 ^ hbits w) (omega (arith, pow_pos (hbits w))))

  pub range_fits_law : (z : ℤ) → in_signed_range w z ≡ true → SFits w z
  unfolding in_signed_range
  range_fits_law (pos n) e = record { sfits = ltb-true n (2 ^ hbits w) e }
  range_fits_law (negsuc n) e = record { sfits = ltb-true n (2 ^ hbits w) e }

  -- of a number that another width holds
  module _ (v : Width) (z : ℤ) (f : SFits v z) where
    pub out_below : lt_z (to_z v (of_z v z)) (negsuc (2 ^ hbits w - 1)) ≡ true → false ≡ in_signed_range w z
    out_below e = below_lowest z (subst (λ (u : ℤ). lt_z u (negsuc (2 ^ hbits w - 1)) ≡ true) (to_z-of_z v z f) e)

    pub by_highest : lt_z (to_z v (of_z v z)) (negsuc (2 ^ hbits w - 1)) ≡ false → lt_z (to_z v (of_z v z)) (pos (2 ^ hbits w)) ≡ in_signed_range w z
    by_highest e =
        ap (λ (u : ℤ). lt_z u (pos (2 ^ hbits w))) (to_z-of_z v z f)
        ∙ from_lowest z (subst (λ (u : ℤ). lt_z u (negsuc (2 ^ hbits w - 1)) ≡ false) (to_z-of_z v z f) e)

-- the product of two numbers of width w as width v holds it, and the test of its range
module _ (w v : Width) {x y r : ℤ} {t : Bool} (f : SFits w x) (g : SFits w y) (held : mag r < 2 ^ hbits v) (e : r ≡ to_z w (of_z w x) *ℤ to_z w (of_z w y))
    (tested : t ≡ in_signed_range w (to_z v (of_z v r))) where
  read_product : to_z v (of_z v r) ≡ x *ℤ y
  read_product = to_z-of_z v r (record { sfits = held }) ∙ e ∙ read_both w x y f g (λ a b. a *ℤ b)

  pub range_cast : t ≡ true → SFits w (to_z v (of_z v r))
  range_cast h = range_fits_law w _ (sym tested ∙ h)

  -- the product's range
  in_range_law : {u : Bool} → t ≡ u → in_signed_range w (x *ℤ y) ≡ u
  in_range_law h = ap (in_signed_range w) (sym read_product) ∙ sym tested ∙ h

  pub product_given : t ≡ true → gives (to_z w (of_z w (to_z v (of_z v r)))) ≡ product w x y
  unfolding product
  product_given h = rw (in_range_law h) (ap gives (to_z-of_z w _ (range_cast h) ∙ read_product))

  pub product_overflows : t ≡ false → faults overflow ≡ product w x y
  unfolding product
  product_overflows h = rw (in_range_law h) refl
