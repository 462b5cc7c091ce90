-- Laws of sums over the first n numbers: a term is part of the sum, and a sum that is not 0 has a term that is not 0.
use mathlib.Core.Path.{◌≡◌, refl, ap₂}
use Prim.Native.Nat.{ℕ, zero, suc, ◌+◌, ◌*◌, ◌-◌, ◌≤◌, ◌<◌}
use native.Mathlib.Omega.{arith}
use native.Mathlib.Nat.{not-suc-le-zero, zero-add, suc-add, suc-mul}
use Rattle.definitions.specs.Lists.{sum_of}

-- one of the first n numbers of which something holds
pub record SomeBelow (n : ℕ) (P : ℕ → Type 0) : Type 0 where
  pub at : ℕ
  pub below : at < n
  pub holds : P at

pub one_more : (n : ℕ) (P : ℕ → Type 0) → SomeBelow n P → SomeBelow (suc n) P
one_more n P f = record { at = f.at; below = omega (arith, f.below); holds = f.holds }

sum_from : (k i : ℕ) (at : ℕ → ℕ) → sum_of i at ≤ sum_of (k + i) at
unfolding sum_of
sum_from zero i at = rw zero-add (omega arith)
sum_from (suc k) i at = rw suc-add (omega (arith, sum_from k i at))

-- a sum over more numbers is no less
pub sum_rises : (i n : ℕ) (at : ℕ → ℕ) → i ≤ n → sum_of i at ≤ sum_of n at
sum_rises i n at h = let k : n - i + i ≡ n = omega arith in rw k at (sum_from (n - i) i at)

-- the sum holds a term besides those before it
pub sum_term : (i n : ℕ) (at : ℕ → ℕ) → i < n → sum_of i at + at i ≤ sum_of n at
unfolding sum_of
sum_term i n at h = sum_rises (suc i) n at h

-- and any two terms
pub sum_two : (i j n : ℕ) (at : ℕ → ℕ) → i < j → j < n → at i + at j ≤ sum_of n at
sum_two i j n at l h = omega (arith, sum_term i j at l, sum_term j n at h)

-- a sum that is not 0 has a term that is not 0
found_at : (n x : ℕ) (at : ℕ → ℕ) → at n ≡ x → 1 ≤ sum_of n at + x → (1 ≤ sum_of n at → SomeBelow n (λ i. 1 ≤ at i))
    → SomeBelow (suc n) (λ i. 1 ≤ at i)
found_at n zero at e h f = one_more n (λ i. 1 ≤ at i) (f (omega arith))
found_at n (suc x) at e h f = record { at = n; below = omega arith; holds = rw e (omega arith) }

pub sum_found : (n : ℕ) (at : ℕ → ℕ) → 1 ≤ sum_of n at → SomeBelow n (λ i. 1 ≤ at i)
unfolding sum_of
sum_found zero at h = absurd (not-suc-le-zero h)
sum_found (suc n) at h = found_at n (at n) at refl h (sum_found n at)

-- equal terms have equal sums, and terms up to m a sum up to n times m
pub sum_same : (n : ℕ) (at to : ℕ → ℕ) → ((i : ℕ) → i < n → at i ≡ to i) → sum_of n at ≡ sum_of n to
unfolding sum_of
sum_same zero at to e = refl
sum_same (suc n) at to e = ap₂ ◌+◌ (sum_same n at to (λ i h. e i (omega arith))) (e n (omega arith))

pub sum_limit : (n m : ℕ) (at : ℕ → ℕ) → ((i : ℕ) → i < n → at i ≤ m) → sum_of n at ≤ n * m
unfolding sum_of
sum_limit zero m at h = omega arith
sum_limit (suc n) m at h = omega (arith, sum_limit n m at (λ i l. h i (omega arith)), h n (omega arith), suc-mul n m)
