-- Lists, sums and tests over the first n numbers, in the order of the numbers.
use Rattle.std.specs.Prelude.{ℕ, zero, suc, ◌+◌, List, [], ◌∷◌, ◌++◌, Bool, true, cond, ◌&&◌, ltb}

-- the parts of 0, 1, .. n - 1, joined
unfoldable pub joined {ℓ} : {A : Type ℓ} → ℕ → (ℕ → List A) → List A
joined zero part = []
joined (suc n) part = joined n part ++ part n

-- the elements of 0, 1, .. n - 1
unfoldable pub listed {ℓ} : {A : Type ℓ} → ℕ → (ℕ → A) → List A
listed zero at = []
listed (suc n) at = listed n at ++ (at n ∷ [])

-- the sum of the numbers of 0, 1, .. n - 1
unfoldable pub sum_of : ℕ → (ℕ → ℕ) → ℕ
sum_of zero at = 0
sum_of (suc n) at = sum_of n at + at n

-- how many of 0, 1, .. n - 1 pass a test
unfoldable pub count_of : ℕ → (ℕ → Bool) → ℕ
count_of zero test = 0
count_of (suc n) test = cond (test n) (suc (count_of n test)) (count_of n test)

-- whether each of 0, 1, .. n - 1 passes a test
unfoldable pub all_of : ℕ → (ℕ → Bool) → Bool
all_of zero test = true
all_of (suc n) test = all_of n test && test n

-- the last of 0, 1, .. n - 1 that passes a test, 0 where none does
unfoldable pub last_of : ℕ → (ℕ → Bool) → ℕ
last_of zero test = 0
last_of (suc n) test = cond (test n) n (last_of n test)

-- the first of 0, 1, .. n - 1 that passes a test, n where none does
unfoldable pub first_passing : ℕ → (ℕ → Bool) → ℕ
first_passing zero test = 0
first_passing (suc n) test = cond (ltb (first_passing n test) n) (first_passing n test) (cond (test n) n (suc n))
