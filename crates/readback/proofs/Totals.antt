-- Laws of sums over the first n numbers: sums of sums, of equal and of smaller terms, and a count in each term exchanged with
-- the sum.
use mathlib.Core.Path.{◌≡◌, refl, sym, ◌∙◌}
use Prim.Native.Nat.{ℕ, zero, suc, ◌+◌, ◌*◌, ◌-◌, ◌≤◌, ◌<◌}
use mathlib.Core.Bool.{Bool, true, false, cond}
use native.Mathlib.Omega.{arith}
use native.Mathlib.Nat.{not-suc-le-zero, add-zero, add-suc, mul-zero, mul-suc, suc-mul, zero-mul}
use native.Mathlib.Decide.{dec_lt}
use lib.Dec.{eqb}
use borrow.Author.Tests.{eqb-true, ne_eqb}
use Rattle.definitions.specs.Lists.{sum_of, count_of}
use Rattle.accepted.proofs.Sums.{sum_same}

-- terms that are sums
pub sum_both : (n : ℕ) (x y : ℕ → ℕ) → sum_of n (λ i. x i + y i) ≡ sum_of n x + sum_of n y
unfolding sum_of
sum_both zero x y = refl
sum_both (suc n) x y = omega (arith, sum_both n x y)

pub sum_twice : (n : ℕ) (x : ℕ → ℕ) → sum_of n (λ i. x i * 2) ≡ 2 * sum_of n x
unfolding sum_of
sum_twice zero x = refl
sum_twice (suc n) x = omega (arith, sum_twice n x)

-- equal terms
pub sum_constant : (n c : ℕ) → sum_of n (λ i. c) ≡ n * c
unfolding sum_of
sum_constant zero c = sym (zero-mul c)
sum_constant (suc n) c = rw (sum_constant n c) (sym (suc-mul n c))

-- terms that are no greater
pub sum_below : (n : ℕ) (x y : ℕ → ℕ) → ((i : ℕ) → i < n → x i ≤ y i) → sum_of n x ≤ sum_of n y
unfolding sum_of
sum_below zero x y h = omega arith
sum_below (suc n) x y h = omega (arith, sum_below n x y (λ i l. h i (omega arith)), h n (omega arith))

-- a sum in two parts
pub sum_parts : (m n : ℕ) (at : ℕ → ℕ) → sum_of (m + n) at ≡ sum_of m at + sum_of n (λ i. at (m + i))
unfolding sum_of
sum_parts m zero at = rw (add-zero m) (omega arith)
sum_parts m (suc n) at = rw (add-suc, sum_parts m n at) (omega arith)

-- a number as many times as a test passes
weigh : (t : Bool) (p c : ℕ) → p * cond t (suc c) c ≡ p * c + cond t p 0
weigh true p c = mul-suc p c
weigh false p c = omega arith

pub count_weighed : (m n : ℕ) (p : ℕ → ℕ) (test : ℕ → ℕ → Bool)
    → sum_of m (λ f. p f * count_of n (test f)) ≡ sum_of n (λ k. sum_of m (λ f. cond (test f k) (p f) 0))
unfolding count_of sum_of
count_weighed m zero p test = sum_same m (λ f. p f * 0) (λ f. 0) (λ f h. mul-zero (p f)) ∙ sum_constant m 0 ∙ mul-zero m
count_weighed m (suc n) p test =
    sum_same m (λ f. p f * count_of (suc n) (test f)) (λ f. p f * count_of n (test f) + cond (test f n) (p f) 0)
    (λ f h. weigh (test f n) (p f) (count_of n (test f)))
    ∙ sum_both m (λ f. p f * count_of n (test f)) (λ f. cond (test f n) (p f) 0)
    ∙ rw (count_weighed m n p test) refl

-- the one term that a number chooses
none_chosen : (n g : ℕ) (p : ℕ → ℕ) → n ≤ g → sum_of n (λ f. cond (eqb g f) (p f) 0) ≡ 0
unfolding sum_of
none_chosen zero g p h = refl
none_chosen (suc n) g p h = rw (ne_eqb g n (λ e. omega (arith, e, h)), none_chosen n g p (omega arith)) refl

chosen_by : (n g : ℕ) (p : ℕ → ℕ) (t : Bool) → eqb g n ≡ t → sum_of n (λ f. cond (eqb g f) (p f) 0) ≤ p g
    → sum_of n (λ f. cond (eqb g f) (p f) 0) + cond t (p n) 0 ≤ p g
chosen_by n g p true e h =
    let q = eqb-true g n e in
    rw (none_chosen n g p (omega (arith, q)), q) (omega arith)
chosen_by n g p false e h = omega arith

pub sum_chosen : (n g : ℕ) (p : ℕ → ℕ) → sum_of n (λ f. cond (eqb g f) (p f) 0) ≤ p g
unfolding sum_of
sum_chosen zero g p = omega arith
sum_chosen (suc n) g p = chosen_by n g p (eqb g n) refl (sum_chosen n g p)

-- a number below a sum lies in one of its terms
pub record InTerm (n : ℕ) (at : ℕ → ℕ) (p : ℕ) : Type 0 where
  pub term : ℕ
  pub below : term < n
  pub place : ℕ
  pub inside : place < at term
  pub is : sum_of term at + place ≡ p

pub sum_reached : (n p : ℕ) (at : ℕ → ℕ) → p < sum_of n at → InTerm n at p
unfolding sum_of
sum_reached zero p at h = absurd (not-suc-le-zero h)
sum_reached (suc n) p at h =
    elim (dec_lt p (sum_of n at)) [
      | yes l ↦
          let r = sum_reached n p at l in
          record { term = r.term; below = omega (arith, r.below); place = r.place; inside = r.inside; is = r.is }
      | no l ↦ record { term = n; below = omega arith; place = p - sum_of n at; inside = omega (arith, h, l); is = omega (arith, l) }
    ]
