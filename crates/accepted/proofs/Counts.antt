-- Laws of counts and of the last number that passes a test, over the first n numbers.
use mathlib.Core.Path.{◌≡◌, refl, sym, ap}
use Prim.Native.Nat.{ℕ, zero, suc, ◌+◌, ◌-◌, ◌≤◌, ◌<◌}
use mathlib.Core.Bool.{Bool, true, false, cond, ◌&&◌, not}
use native.Mathlib.Omega.{arith}
use native.Mathlib.Nat.{not-suc-le-zero, zero-add, suc-add}
use native.Mathlib.Decide.{ℕ_discrete, dec_lt}
use lib.Dec.{eqb}
use borrow.Author.Tests.{eq-eqb, ne_eqb}
use Rattle.definitions.specs.Lists.{count_of, last_of}
use Rattle.accepted.proofs.Sums.{SomeBelow, one_more}

count_step : (t : Bool) (n : ℕ) → n ≤ cond t (suc n) n
count_step true n = omega arith
count_step false n = omega arith

step_limit : (t : Bool) (n : ℕ) → cond t (suc n) n ≤ suc n
step_limit true n = omega arith
step_limit false n = omega arith

count_from : (k i : ℕ) (test : ℕ → Bool) → count_of i test ≤ count_of (k + i) test
unfolding count_of
count_from zero i test = rw zero-add (omega arith)
count_from (suc k) i test = rw suc-add (omega (arith, count_from k i test, count_step (test (k + i)) (count_of (k + i) test)))

-- a count over more numbers is no less, and none is above its numbers
pub count_rises : (i n : ℕ) (test : ℕ → Bool) → i ≤ n → count_of i test ≤ count_of n test
count_rises i n test h = let k : n - i + i ≡ n = omega arith in rw k at (count_from (n - i) i test)

pub count_limit : (n : ℕ) (test : ℕ → Bool) → count_of n test ≤ n
unfolding count_of
count_limit zero test = omega arith
count_limit (suc n) test = omega (arith, count_limit n test, step_limit (test n) (count_of n test))

-- a number that passes counts
pub count_passed : (i : ℕ) (test : ℕ → Bool) → test i ≡ true → count_of (suc i) test ≡ suc (count_of i test)
unfolding count_of
count_passed i test e = rw e refl

pub count_term : (i n : ℕ) (test : ℕ → Bool) → i < n → test i ≡ true → count_of i test < count_of n test
count_term i n test h e = omega (arith, count_rises (suc i) n test h, count_passed i test e)

-- where one passes at most, those that pass are one
pub count_once : (i j n : ℕ) (test : ℕ → Bool) → count_of n test ≤ 1 → i < n → j < n → test i ≡ true → test j ≡ true → i ≡ j
count_once i j n test c h k e f =
    elim (ℕ_discrete i j) [
      | yes p ↦ p
      | no p ↦ elim (dec_lt i j) [
        | yes l ↦ absurd (omega (arith, c, count_term i j test l e, count_term j n test k f))
        | no l ↦ absurd (omega (arith, c, l, p, count_term j i test (omega arith) f, count_term i n test h e))
      ]
    ]

-- each number below the count counts the passes before one that passes
counted : (n l : ℕ) (test : ℕ → Bool) (t : Bool) → test n ≡ t
    → (l < count_of n test → SomeBelow n (λ i. (test i ≡ true) × (count_of i test ≡ l)))
    → l < cond t (suc (count_of n test)) (count_of n test)
    → Dec (l ≡ count_of n test)
    → SomeBelow (suc n) (λ i. (test i ≡ true) × (count_of i test ≡ l))
counted n l test true e f h (yes p) = record { at = n; below = omega arith; holds = (e, sym p) }
counted n l test true e f h (no p) = one_more n (λ i. (test i ≡ true) × (count_of i test ≡ l)) (f (omega arith))
counted n l test false e f h d = one_more n (λ i. (test i ≡ true) × (count_of i test ≡ l)) (f h)

pub count_reached : (n l : ℕ) (test : ℕ → Bool) → l < count_of n test → SomeBelow n (λ i. (test i ≡ true) × (count_of i test ≡ l))
unfolding count_of
count_reached zero l test h = absurd (not-suc-le-zero h)
count_reached (suc n) l test h =
    counted n l test (test n) refl (count_reached n l test) h (ℕ_discrete l (count_of n test))

-- a count that is not 0 has a number that passes
pub count_found : (n : ℕ) (test : ℕ → Bool) → 0 < count_of n test → SomeBelow n (λ i. test i ≡ true)
count_found n test h =
    let f = count_reached n 0 test h in
    record { at = f.at; below = f.below; holds = f.holds.0 }

-- where all before a number pass, they are counted; where none from a number on passes, none is
pub count_all : (n : ℕ) (test : ℕ → Bool) → ((i : ℕ) → i < n → test i ≡ true) → count_of n test ≡ n
unfolding count_of
count_all zero test e = refl
count_all (suc n) test e = rw (e n (omega arith), count_all n test (λ i h. e i (omega arith))) refl

none_from : (k i : ℕ) (test : ℕ → Bool) → ((j : ℕ) → i ≤ j → j < k + i → test j ≡ false) → count_of (k + i) test ≡ count_of i test
unfolding count_of
none_from zero i test e = rw zero-add refl
none_from (suc k) i test e =
    rw (suc-add, e (k + i) (omega arith) (omega arith), none_from k i test (λ j l h. e j l (omega arith))) refl

pub count_none_from : (i n : ℕ) (test : ℕ → Bool) → i ≤ n → ((j : ℕ) → i ≤ j → j < n → test j ≡ false)
    → count_of n test ≡ count_of i test
count_none_from i n test h e =
    let k : n - i + i ≡ n = omega arith in
    rw k at (none_from (n - i) i test (λ j l m. e j l (omega arith)))

-- the last of the numbers that pass, where one does
last_step : (n i : ℕ) (test : ℕ → Bool) (t : Bool) → test n ≡ t → test i ≡ true → i < suc n
    → ((i < n) → (last_of n test < n) × (test (last_of n test) ≡ true))
    → (cond t n (last_of n test) < suc n) × (test (cond t n (last_of n test)) ≡ true)
last_step n i test true e f h g = (omega arith, e)
last_step n i test false e f h g =
    elim (ℕ_discrete i n) [
      | yes p ↦ absurd (let z : ◌≡◌ {A = Bool} true false = cc in let o : ◌≡◌ {A = ℕ} 0 1 = cc in omega arith)
      | no p ↦ let q = g (omega arith) in (omega (arith, q.0), q.1)
    ]

pub last_found : (n i : ℕ) (test : ℕ → Bool) → i < n → test i ≡ true → (last_of n test < n) × (test (last_of n test) ≡ true)
unfolding last_of
last_found zero i test h e = absurd (not-suc-le-zero h)
last_found (suc n) i test h e = last_step n i test (test n) refl e h (λ l. last_found n i test l e)

-- tests that agree
pub count_same : (n : ℕ) (test to : ℕ → Bool) → ((i : ℕ) → i < n → test i ≡ to i) → count_of n test ≡ count_of n to
unfolding count_of
count_same zero test to e = refl
count_same (suc n) test to e = rw (e n (omega arith), count_same n test to (λ i h. e i (omega arith))) refl

and_true : (t : Bool) → (t && true) ≡ t
and_true true = refl
and_true false = refl

-- without one of them, one fewer passes
count_removed : (n x : ℕ) (test : ℕ → Bool) → x < n → test x ≡ true → count_of n test ≡ suc (count_of n (λ y. test y && not (eqb y x)))
unfolding count_of
count_removed zero x test h e = absurd (not-suc-le-zero h)
count_removed (suc n) x test h e =
    elim (ℕ_discrete x n) [
      | yes p ↦
          rw (← p, e, eq-eqb x x refl)
          (ap suc (count_same x test (λ y. test y && not (eqb y x)) (λ y l. rw (ne_eqb y x (λ q. omega (arith, q, l))) (sym (and_true (test y))))))
      | no p ↦
          let q : n ≡ x → ⊥ = λ q. p (sym q) in
          rw (count_removed n x test (omega (arith, h, p)) e, ne_eqb n x q, and_true (test n)) (cond_suc (test n) _)
    ]
  where
    cond_suc : (t : Bool) (m : ℕ) → cond t (suc (suc m)) (suc m) ≡ suc (cond t (suc m) m)
    cond_suc true m = refl
    cond_suc false m = refl

one_further : {i n : ℕ} → i < n → i < suc n
one_further h = omega (arith, h)

-- where those that pass one test are sent to different ones that pass another, at most as many pass the first
pub count_into : (n m : ℕ) (test to : ℕ → Bool) (at : (i : ℕ) → i < n → test i ≡ true → ℕ)
    → ((i : ℕ) (h : i < n) (e : test i ≡ true) → at i h e < m)
    → ((i : ℕ) (h : i < n) (e : test i ≡ true) → to (at i h e) ≡ true)
    → ((i j : ℕ) (h : i < n) (l : j < n) (e : test i ≡ true) (d : test j ≡ true) → at i h e ≡ at j l d → i ≡ j)
    → count_of n test ≤ count_of m to
unfolding count_of
count_into zero m test to at below passes apart = omega arith
count_into (suc n) m test to at below passes apart =
    by (test n) refl
    (λ to' p. count_into n m test to' (λ i h. at i (one_further h)) (λ i h. below i (one_further h)) p (λ i j h l. apart i j (one_further h) (one_further l)))
  where
    by : (t : Bool) → test n ≡ t
        → ((to' : ℕ → Bool) → ((i : ℕ) (h : i < n) (e : test i ≡ true) → to' (at i (one_further h) e) ≡ true) → count_of n test ≤ count_of m to')
        → cond t (suc (count_of n test)) (count_of n test) ≤ count_of m to
    by false e less = less to (λ i h. passes i (one_further h))
    by true e less =
        let l : n < suc n = omega arith in
        let x = at n l e in
        let p = less (λ y. to y && not (eqb y x))
        (λ i h d. rw (passes i (one_further h) d, ne_eqb (at i (one_further h) d) x (λ q. omega (arith, h, apart i n (one_further h) l d e q))) refl) in
        omega (arith, p, count_removed m x to (below n l e) (passes n l e))
