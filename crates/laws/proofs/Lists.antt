-- Laws of sums, counts and tests over the first n numbers.
use mathlib.Core.Path.{◌≡◌, refl, ap₂, ◌∙◌}
use Prim.Native.Nat.{ℕ, zero, suc, ◌+◌, ◌-◌, ◌<◌}
use mathlib.Core.Bool.{Bool, true, false, cond, ◌&&◌, and-eq-true_iff, and-false}
use native.Mathlib.Omega.{arith}
use native.Mathlib.Numerals.{add-one}
use native.Mathlib.Nat.{not-suc-le-zero, zero-add, suc-add}
use native.Mathlib.Decide.{ℕ_discrete}
use mathlib.Core.List.{[], ◌∷◌, ◌++◌}
use lib.ListN.{length, get_or, length-append, get_or-append}
use lib.Seq.{get_or_at}
use Rattle.definitions.specs.Lists.{listed, sum_of, count_of, all_of, last_of}

-- what holds of each number below n, and of n, holds of each below n + 1
below_case : (P : ℕ → Type 0) (n i : ℕ) → (i < n → P i) → P n → i < suc n → Dec (i ≡ n) → P i
below_case P n i f p h (yes q) = rw q p
below_case P n i f p h (no q) = f (omega arith)

pub below_suc : (P : ℕ → Type 0) (n : ℕ) → ((i : ℕ) → i < n → P i) → P n → (i : ℕ) → i < suc n → P i
below_suc P n f p i h = below_case P n i (f i) p h (ℕ_discrete i n)

-- one turn more of a loop, at i + 1
pub sum_more : (n : ℕ) (at : ℕ → ℕ) → sum_of (n + 1) at ≡ sum_of n at + at n
unfolding sum_of
sum_more n at = rw add-one refl

pub sum_none : (at : ℕ → ℕ) → sum_of 0 at ≡ 0
unfolding sum_of
sum_none at = refl

pub count_more : (n : ℕ) (test : ℕ → Bool) → count_of (n + 1) test ≡ cond (test n) (count_of n test + 1) (count_of n test)
unfolding count_of
count_more n test = rw (add-one n, add-one) refl

pub count_none : (test : ℕ → Bool) → count_of 0 test ≡ 0
unfolding count_of
count_none test = refl

pub last_more : (n : ℕ) (test : ℕ → Bool) → last_of (n + 1) test ≡ cond (test n) n (last_of n test)
unfolding last_of
last_more n test = rw add-one refl

pub last_none : (test : ℕ → Bool) → last_of 0 test ≡ 0
unfolding last_of
last_none test = refl

pub all_none : (test : ℕ → Bool) → all_of 0 test ≡ true
unfolding all_of
all_none test = refl

pub all_more : (i : ℕ) (test : ℕ → Bool) → all_of i test ≡ true → test i ≡ true → all_of (i + 1) test ≡ true
unfolding all_of
all_more i test e f = rw (add-one, e, f) refl

-- a test that fails at i fails over more numbers
all_fails : (k i : ℕ) (test : ℕ → Bool) → test i ≡ false → all_of (k + suc i) test ≡ false
unfolding all_of
all_fails zero i test f = rw (zero-add, f, and-false) refl
all_fails (suc k) i test f = rw (suc-add, all_fails k i test f) refl

pub all_not : (i n : ℕ) (test : ℕ → Bool) → i < n → test i ≡ false → all_of n test ≡ false
all_not i n test h f =
    let k : n - suc i + suc i ≡ n = omega arith in
    rw k at (all_fails (n - suc i) i test f)

-- each number that was passed passes the test
pub all_each : (n : ℕ) (test : ℕ → Bool) → all_of n test ≡ true → (i : ℕ) → i < n → test i ≡ true
unfolding all_of
all_each zero test e i h = absurd (not-suc-le-zero h)
all_each (suc n) test e i h =
    let k = (and-eq-true_iff (all_of n test) (test n)).0 e in
    below_suc (λ j. test j ≡ true) n (all_each n test k.0) k.1 i h

-- and where each passes, all do
pub all_pass : (n : ℕ) (test : ℕ → Bool) → ((i : ℕ) → i < n → test i ≡ true) → all_of n test ≡ true
unfolding all_of
all_pass zero test e = refl
all_pass (suc n) test e = rw (all_pass n test (λ i h. e i (omega arith)), e n (omega arith)) refl

-- alike tests pass alike
pub all_same : (n : ℕ) (test to : ℕ → Bool) → ((i : ℕ) → i < n → test i ≡ to i) → all_of n test ≡ all_of n to
unfolding all_of
all_same zero test to e = refl
all_same (suc n) test to e = ap₂ ◌&&◌ (all_same n test to (λ i h. e i (omega arith))) (e n (omega arith))

-- lists whose elements are alike
pub listed_same {ℓ} : {A : Type ℓ} (n : ℕ) (at to : ℕ → A) → ((i : ℕ) → i < n → at i ≡ to i) → listed n at ≡ listed n to
unfolding listed
listed_same zero at to h = refl
listed_same (suc n) at to h = rw (listed_same n at to (λ i l. h i (omega arith)), h n (omega arith)) refl

-- the length and the elements of a list made over the first n numbers
pub listed_length {ℓ} : {A : Type ℓ} (n : ℕ) (at : ℕ → A) → length (listed n at) ≡ n
unfolding listed
listed_length zero at = refl
listed_length (suc n) at = length-append (listed n at) (at n ∷ []) ∙ rw (listed_length n at) (omega arith)

pub listed_at : {A : Type 0} (n : ℕ) (at : ℕ → A) (d : A) (i : ℕ) → i < n → get_or (listed n at) i d ≡ at i
unfolding listed
listed_at zero at d i h = absurd (not-suc-le-zero h)
listed_at (suc n) at d i h =
    below_suc (λ j. get_or (listed n at ++ (at n ∷ [])) j d ≡ at j) n
    (λ j k. get_or-append (listed n at) (at n ∷ []) d j (rw (listed_length n at) k) ∙ listed_at n at d j k)
    (get_or_at (listed n at) (at n) [] d n (listed_length n at)) i h
