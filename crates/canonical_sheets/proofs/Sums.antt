-- Sums over the first n numbers: of terms that are 0, of one term that is not, of sums and of multiples; and a count as a sum.
use mathlib.Core.Path.{◌≡◌, refl, sym, ◌∙◌}
use Prim.Native.Nat.{ℕ, zero, suc, ◌+◌, ◌*◌, ◌<◌}
use mathlib.Core.Bool.{Bool, true, false, cond}
use native.Mathlib.Omega.{arith}
use native.Mathlib.Nat.{not-suc-le-zero, mul-zero, mul-add}
use native.Mathlib.Decide.{dec_lt}
use Rattle.definitions.specs.Lists.{sum_of, count_of}
use Rattle.accepted.proofs.Sums.{sum_same}
use Rattle.readback.proofs.Totals.{sum_both, sum_constant}

pub sum_zero : (n : ℕ) (at : ℕ → ℕ) → ((i : ℕ) → i < n → at i ≡ 0) → sum_of n at ≡ 0
sum_zero n at e = sum_same n at (λ i. 0) e ∙ sum_constant n 0 ∙ mul-zero n

-- where no other term counts, the sum is term g
pub sum_single : (n g : ℕ) (at : ℕ → ℕ) → g < n → ((i : ℕ) → (i ≡ g → ⊥) → at i ≡ 0) → sum_of n at ≡ at g
unfolding sum_of
sum_single zero g at h f = absurd (not-suc-le-zero h)
sum_single (suc n) g at h f =
    elim (dec_lt g n) [
      | yes l ↦ rw (sum_single n g at l f, f n (λ e. omega (arith, e, l))) (omega arith)
      | no l ↦
          let e : g ≡ n = omega (arith, h, l) in
          rw (sum_zero n at (λ i m. f i (λ q. omega (arith, q, e, m))), e) (omega arith)
    ]

pub sum_swap : (n m : ℕ) (at : ℕ → ℕ → ℕ) → sum_of n (λ i. sum_of m (at i)) ≡ sum_of m (λ j. sum_of n (λ i. at i j))
unfolding sum_of
sum_swap zero m at = sym (sum_zero m (λ j. 0) (λ j h. refl))
sum_swap (suc n) m at = rw (sum_swap n m at) (sym (sum_both m (λ j. sum_of n (λ i. at i j)) (at n)))

pub sum_scale : (n w : ℕ) (at : ℕ → ℕ) → sum_of n (λ i. w * at i) ≡ w * sum_of n at
unfolding sum_of
sum_scale zero w at = sym (mul-zero w)
sum_scale (suc n) w at = rw (sum_scale n w at) (sym (mul-add w (sum_of n at) (at n)))

one_by : (t : Bool) {x y : ℕ} → x ≡ y → cond t (suc x) x ≡ y + cond t 1 0
one_by true e = rw e (omega arith)
one_by false e = rw e (omega arith)

pub count_sum : (n : ℕ) (test : ℕ → Bool) → count_of n test ≡ sum_of n (λ i. cond (test i) 1 0)
unfolding count_of sum_of
count_sum zero test = refl
count_sum (suc n) test = one_by (test n) (count_sum n test)
