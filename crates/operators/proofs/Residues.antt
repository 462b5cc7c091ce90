-- Remainders modulo 2 ^ w: how they go through sums and differences, at every width.
use Rattle.std.proofs.Common.{◌≡◌, ℕ, suc, ◌+◌, ◌-◌, ◌%◌, ◌^◌, ◌<◌, ◌≤◌, Bool, true, false, cond, ltb, ℤ, pos, negsuc, ◌+ℤ◌, ◌-ℤ◌, sym, refl, ap, ◌∙◌, add-zero, add_assoc, mod-lt, mod-eq_of_lt, add_comm, add-one, arith, pow_pos, Fits, SFits, to_z, of_z, ltb-false, ltb-true}
use native.Mathlib.Nat.{mod-mod, mod_self, zero-mod, add-mod}
use lib.IntN.{sub_ℕ, -ℤ-+ℤ_cancel}
use mir.Syntax.{Width}
use mir.Val.{bits, hbits, sel}
use mir.ValLaws.{to_z-of_z, of_z-to_z, to_z-Fits, half_full, pow-bits}
use Rattle.definitions.specs.Operators.{residue, reduced}

-- two numbers with the same remainder modulo m
record Congruent (m a b : ℕ) : Type 0 where
  pub same : a % m ≡ b % m

module _ {m a b : ℕ} where
  back : Congruent m a b → Congruent m b a
  back p = record { same = sym p.same }

  then : {c : ℕ} → Congruent m a b → Congruent m b c → Congruent m a c
  then p q = record { same = p.same ∙ q.same }

  -- sums of numbers with the same remainders have the same remainder
  plus : {c d : ℕ} → Congruent m a b → Congruent m c d → Congruent m (a + c) (b + d)
  plus {c} {d} p q =
      record { same = add-mod a c m ∙ ap (λ (x : ℕ). (x + c % m) % m) p.same ∙ ap (λ (x : ℕ). (b % m + x) % m) q.same ∙ sym (add-mod b d m) }

equal_same : {m a b : ℕ} → a ≡ b → Congruent m a b
equal_same {m} e = record { same = ap (λ (x : ℕ). x % m) e }

-- a number and its remainder
remainder_same : (m a : ℕ) → Congruent m (a % m) a
remainder_same m a = record { same = mod-mod a m }

-- a multiple of m goes
add_none : {m c : ℕ} (a : ℕ) → Congruent m c 0 → Congruent m (a + c) a
add_none a p = then (plus (equal_same refl) p) (equal_same (add-zero a))

-- what is added on both sides goes
cancel : {m a b : ℕ} (c : ℕ) → 0 < m → Congruent m (a + c) (b + c) → Congruent m a b
cancel {m} {a} {b} c h p =
    let d = m - c % m in
    let below : c % m < m = mod-lt c h in
    let none : Congruent m (c + d) 0 =
    then (plus (back (remainder_same m c)) (equal_same refl))
    (then (equal_same (omega arith)) (record { same = mod_self m ∙ sym (zero-mod m) })) in
    then (back (add_none a none))
    (then (equal_same (sym (add_assoc a c d)))
    (then (plus p (equal_same refl)) (then (equal_same (add_assoc b c d)) (add_none b none))))

-- two numbers below m with the same remainder are equal
below_same : {m a b : ℕ} → a < m → b < m → Congruent m a b → a ≡ b
below_same h k p = sym (mod-eq_of_lt h) ∙ p.same ∙ mod-eq_of_lt k

-- r stands for a number modulo m: with the size of a negative number it makes a multiple of m
abbrev ResidueOf : ℕ → ℤ → ℕ → Type 0
ResidueOf m (pos n) r = Congruent m n r
ResidueOf m (negsuc n) r = Congruent m (suc n + r) 0

stands_same : (m : ℕ) (z : ℤ) {r s : ℕ} → ResidueOf m z r → Congruent m r s → ResidueOf m z s
stands_same m (pos n) p q = then p q
stands_same m (negsuc n) p q = then (plus (equal_same refl) (back q)) p

-- what stands for a number is determined modulo m
stands_once : (m : ℕ) (z : ℤ) {r s : ℕ} → 0 < m → ResidueOf m z r → ResidueOf m z s → Congruent m r s
stands_once m (pos n) h p q = then (back p) q
stands_once m (negsuc n) {r} {s} h p q =
    cancel (suc n) h (then (equal_same (add_comm r (suc n))) (then p (then (back q) (equal_same (add_comm (suc n) s)))))

-- sums
difference_by : (m a b r s : ℕ) → Congruent m a r → Congruent m (b + s) 0 → (t : Bool) → ltb a b ≡ t
    → ResidueOf m (cond t (negsuc (b - suc a)) (pos (a - b))) (r + s)
difference_by m a b r s p q true e =
    let h : a < b = ltb-true a b e in
    let k = suc (b - suc a) in
    then (plus (equal_same refl) (plus (back p) (equal_same refl))) (then (equal_same (omega arith)) q)
difference_by m a b r s p q false e =
    let h : b ≤ a = ltb-false a b e in
    then (back (add_none (a - b) q)) (then (equal_same (omega arith)) (plus p (equal_same refl)))

difference_stands : (m a b r s : ℕ) → Congruent m a r → Congruent m (b + s) 0 → ResidueOf m (sub_ℕ a b) (r + s)
difference_stands m a b r s p q = difference_by m a b r s p q (ltb a b) refl

sum_stands : (m : ℕ) (x y : ℤ) (r s : ℕ) → ResidueOf m x r → ResidueOf m y s → ResidueOf m (x +ℤ y) (r + s)
sum_stands m (pos a) (pos b) r s p q = plus p q
sum_stands m (pos a) (negsuc b) r s p q = difference_stands m a (suc b) r s p q
sum_stands m (negsuc a) (pos b) r s p q = rw (add_comm r s) (difference_stands m b (suc a) s r q p)
sum_stands m (negsuc a) (negsuc b) r s p q = then (equal_same (omega arith)) (plus p q)

-- remainders modulo 2 ^ w
module _ (w : Width) where
  residue_stands : (z : ℤ) → ResidueOf (2 ^ bits w) z (residue w z)
  unfolding residue
  residue_stands (pos n) = back (remainder_same (2 ^ bits w) n)
  residue_stands (negsuc n) =
      let m = 2 ^ bits w in
      let below : n % m < m = mod-lt n (pow_pos (bits w)) in
      let size : Congruent m (suc n) (suc (n % m)) =
      then (equal_same (sym (add-one n)))
      (then (plus (back (remainder_same m n)) (equal_same refl)) (equal_same (add-one (n % m)))) in
      then (plus size (equal_same refl)) (then (equal_same (omega arith)) (record { same = mod_self m ∙ sym (zero-mod m) }))

  pub residue_below : (z : ℤ) → residue w z < 2 ^ bits w
  unfolding residue
  residue_below (pos n) = mod-lt n (pow_pos (bits w))
  residue_below (negsuc n) = let h : 0 < 2 ^ bits w = pow_pos (bits w) in omega arith

  residue_is : (z : ℤ) (r : ℕ) → r < 2 ^ bits w → ResidueOf (2 ^ bits w) z r → r ≡ residue w z
  residue_is z r h p = below_same h (residue_below z) (stands_once (2 ^ bits w) z (pow_pos (bits w)) p (residue_stands z))

  pub residue_sum : (x y : ℤ) → (residue w x + residue w y) % 2 ^ bits w ≡ residue w (x +ℤ y)
  residue_sum x y =
      let m = 2 ^ bits w in
      let v = residue w x + residue w y in
      residue_is (x +ℤ y) (v % m) (mod-lt v (pow_pos (bits w)))
      (stands_same m (x +ℤ y) (sum_stands m x y (residue w x) (residue w y) (residue_stands x) (residue_stands y))
      (back (remainder_same m v)))

  -- the number that, with the second's remainder added, wraps back to the first's
  pub residue_difference : (x y : ℤ) (r : ℕ) → r < 2 ^ bits w → (r + residue w y) % 2 ^ bits w ≡ residue w x → r ≡ residue w (x -ℤ y)
  residue_difference x y r h e =
      below_same h (residue_below (x -ℤ y))
      (cancel (residue w y) (pow_pos (bits w))
      (record { same = e ∙ ap (residue w) (sym (-ℤ-+ℤ_cancel x y)) ∙ sym (residue_sum (x -ℤ y) y) }))

  -- a number that the width holds is its own remainder, read back
  pub residue_held : (z : ℤ) → SFits w z → residue w z ≡ of_z w z
  unfolding residue
  residue_held (pos n) f = mod-eq_of_lt (half_full w f.sfits)
  residue_held (negsuc n) f = rw (mod-eq_of_lt (half_full w f.sfits)) refl

  pub reduced_held : (z : ℤ) → SFits w z → reduced w z ≡ z
  unfolding reduced
  reduced_held z f = ap (to_z w) (residue_held z f) ∙ to_z-of_z w z f

  -- what any number is read as is held by the width, so it is its own remainder, read back
  read_held_by : (n : ℕ) (t : Bool) → ltb n (2 ^ hbits w) ≡ t → SFits w (sel t (pos n) (negsuc (2 ^ bits w - suc n)))
  read_held_by n true e = record { sfits = ltb-true n (2 ^ hbits w) e }
  read_held_by n false e =
      let h : 2 ^ hbits w ≤ n = ltb-false n (2 ^ hbits w) e in
      let p : 0 < 2 ^ hbits w = pow_pos (hbits w) in
      record { sfits = omega (arith, pow-bits w) }

  pub read_held : (n : ℕ) → SFits w (to_z w n)
  read_held n = read_held_by n (ltb n (2 ^ hbits w)) refl

  pub reduced_read : (n : ℕ) → reduced w (to_z w n) ≡ to_z w n
  reduced_read n = reduced_held (to_z w n) (read_held n)

  -- bits of the width, read and reduced, are the same bits
  pub residue_read : (n : ℕ) → Fits w n → residue w (to_z w n) ≡ n
  residue_read n f = residue_held (to_z w n) (to_z-Fits w n f) ∙ of_z-to_z w n f
