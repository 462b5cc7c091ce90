-- The comparisons, and the operator that a code names.
use Rattle.std.proofs.Common.{◌≡◌, ℕ, suc, ◌-◌, ◌^◌, ◌<◌, ◌≤◌, Bool, true, false, not, ◌&&◌, eqb, ltb, ℤ, pos, negsuc, ◌+ℤ◌, ◌-ℤ◌, sym, refl, ap, ◌∙◌, true≢false, arith, w32, SFits, to_z, of_z, ltb-false, le-ltb, lt-ltb, eq-eqb, ne_eqb}
use native.Mathlib.Decide.{ℕ_discrete}
use lib.Signed.{mag, lt_z}
use mir.Syntax.{Width}
use mir.Val.{bits, hbits}
use mir.ValLaws.{to_z-of_z}
use Rattle.definitions.specs.OperatorCodes
use Rattle.definitions.specs.Operators.{gives, reduced, product, quotient, truth, equal, computed}

-- numbers as they are read back
module _ (w : Width) (x y : ℤ) (f : SFits w x) (g : SFits w y) where
  pub read_both : {A : Type 0} (h : ℤ → ℤ → A) → h (to_z w (of_z w x)) (to_z w (of_z w y)) ≡ h x y
  read_both h = ap (λ (z : ℤ). h z (to_z w (of_z w y))) (to_z-of_z w x f) ∙ ap (h x) (to_z-of_z w y g)

  pub less_true : lt_z (to_z w (of_z w x)) (to_z w (of_z w y)) ≡ true → pos 1 ≡ truth (lt_z x y)
  unfolding truth
  less_true e = ap truth (sym e ∙ read_both lt_z)

  pub less_false : lt_z (to_z w (of_z w x)) (to_z w (of_z w y)) ≡ false → pos 0 ≡ truth (lt_z x y)
  unfolding truth
  less_false e = ap truth (sym e ∙ read_both lt_z)

not_less_self : (x : ℤ) → lt_z x x ≡ false
not_less_self (pos n) = le-ltb n n (omega arith)
not_less_self (negsuc n) = le-ltb n n (omega arith)

pub equal_self : (x : ℤ) → equal x x ≡ true
unfolding equal
equal_self x = rw (not_less_self x) refl

apart : (a b : ℕ) → (a ≡ b → ⊥) → (t : Bool) → ltb a b ≡ t → (not (ltb a b) && not (ltb b a)) ≡ false
apart a b k true e = rw e refl
apart a b k false e =
    let h : b ≤ a = ltb-false a b e in
    let l : b < a = omega arith in
    rw (e, lt-ltb b a l) refl

-- what the test of two numbers says
pub equal_means : (x y : ℤ) → equal x y ≡ true → x ≡ y
unfolding equal
equal_means (pos a) (pos b) e = elim (ℕ_discrete a b) [ yes s ↦ ap pos s | no k ↦ absurd (true≢false (sym e ∙ apart a b k (ltb a b) refl)) ]
equal_means (pos a) (negsuc b) e = absurd (true≢false (sym e))
equal_means (negsuc a) (pos b) e = absurd (true≢false (sym e))
equal_means (negsuc a) (negsuc b) e = elim (ℕ_discrete b a) [ yes s ↦ ap negsuc (sym s) | no k ↦ absurd (true≢false (sym e ∙ apart b a k (ltb b a) refl)) ]

unequal : (w : Width) (x y : ℤ) → SFits w x → SFits w y → (of_z w x ≡ of_z w y → ⊥) → equal x y ≡ false
unfolding equal
unequal w (pos a) (pos b) f g k = apart a b k (ltb a b) refl
unequal w (pos a) (negsuc b) f g k = refl
unequal w (negsuc a) (pos b) f g k = refl
unequal w (negsuc a) (negsuc b) f g k = apart b a (λ e. k (ap (λ (n : ℕ). 2 ^ bits w - suc n) (sym e))) (ltb b a) refl

-- numbers are equal where their bits are
module _ (w : Width) (x y : ℤ) (f : SFits w x) (g : SFits w y) where
  same_bits : of_z w x ≡ of_z w y → equal x y ≡ true
  same_bits e =
      let s : x ≡ y = sym (to_z-of_z w x f) ∙ ap (to_z w) e ∙ to_z-of_z w y g in
      sym (ap (equal x) s) ∙ equal_self x

  pub equal_bits : eqb (of_z w x) (of_z w y) ≡ equal x y
  equal_bits = elim (ℕ_discrete (of_z w x) (of_z w y)) [
    | yes e ↦ eq-eqb (of_z w x) (of_z w y) e ∙ sym (same_bits e)
    | no k ↦ ne_eqb (of_z w x) (of_z w y) k ∙ sym (unequal w x y f g k)
  ]

  pub equal_true : of_z w x ≡ of_z w y → pos 1 ≡ truth (equal x y)
  unfolding truth
  equal_true e = ap truth (sym (same_bits e))

  pub equal_false : (of_z w x ≡ of_z w y → ⊥) → pos 0 ≡ truth (equal x y)
  unfolding truth
  equal_false k = ap truth (sym (unequal w x y f g k))

-- the result of an operator on numbers as they are read back
pub number_answer : (w : Width) {x y r : ℤ} (h : ℤ → ℤ → ℤ) → SFits w x → SFits w y → mag r < 2 ^ hbits w → r ≡ h (to_z w (of_z w x)) (to_z w (of_z w y))
    → gives (to_z w (of_z w r)) ≡ gives (h x y)
number_answer w {x} {y} {r} h f g k e = ap gives (to_z-of_z w r (record { sfits = k }) ∙ e ∙ read_both w x y f g h)

-- the operator that a code names
module _ (code : ℕ) (x y : ℤ) where
  pub code_add : code ≡ OperatorCodes.add → gives (reduced w32 (x +ℤ y)) ≡ computed code x y
  unfolding computed
  code_add e = rw e refl

  pub code_subtract : code ≡ OperatorCodes.subtract → gives (reduced w32 (x -ℤ y)) ≡ computed code x y
  unfolding computed
  code_subtract e = rw e refl

  pub code_multiply : code ≡ OperatorCodes.multiply → product w32 x y ≡ computed code x y
  unfolding computed
  code_multiply e = rw e refl

  pub code_divide : code ≡ OperatorCodes.divide → quotient w32 x y ≡ computed code x y
  unfolding computed
  code_divide e = rw e refl

  pub code_less : code ≡ OperatorCodes.less → gives (truth (lt_z x y)) ≡ computed code x y
  unfolding computed
  code_less e = rw e refl

  pub code_equal : code ≡ OperatorCodes.equal → gives (truth (equal x y)) ≡ computed code x y
  unfolding computed
  code_equal e = rw e refl

  pub code_none : (code ≡ OperatorCodes.add → ⊥) → (code ≡ OperatorCodes.subtract → ⊥) → (code ≡ OperatorCodes.multiply → ⊥)
      → (code ≡ OperatorCodes.divide → ⊥) → (code ≡ OperatorCodes.less → ⊥) → (code ≡ OperatorCodes.equal → ⊥)
      → gives (pos 0) ≡ computed code x y
  unfolding computed
  code_none a b c d e f =
      rw (
        ne_eqb code OperatorCodes.add a,
        ne_eqb code OperatorCodes.subtract b,
        ne_eqb code OperatorCodes.multiply c,
        ne_eqb code OperatorCodes.divide d,
        ne_eqb code OperatorCodes.less e,
        ne_eqb code OperatorCodes.equal f,
      ) refl
