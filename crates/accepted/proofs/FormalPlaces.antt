-- Laws of the function of a formal and of its position there, for any counts.
use mathlib.Core.Path.{◌≡◌, refl, ap, ◌∙◌}
use Prim.Native.Nat.{ℕ, zero, suc, ◌+◌, ◌≤◌, ◌<◌}
use mathlib.Core.Bool.{Bool, true, false, cond}
use native.Mathlib.Omega.{arith}
use native.Mathlib.Decide.{dec_lt}
use lib.Dec.{leb}
use borrow.Author.Tests.{leb-true, le-leb, lt-leb}
use Rattle.definitions.specs.Lists.{sum_of, count_of}
use Rattle.definitions.specs.FormalPlaces.{function_by, position_by}
use Rattle.accepted.proofs.Sums.{sum_rises}
use Rattle.accepted.proofs.Counts.{count_rises, count_limit, count_all, count_none_from}

module _ (count : ℕ → ℕ) where
  sum_next : (f : ℕ) → sum_of (suc f) count ≡ sum_of f count + count f
  unfolding sum_of
  sum_next f = refl

  function_limit : (n p : ℕ) → function_by n count p ≤ n
  unfolding function_by
  function_limit n p = count_limit n (λ f. leb (sum_of (suc f) count) p)

  started_by : (n p : ℕ) (t : Bool) → leb (sum_of (suc n) count) p ≡ t → sum_of (function_by n count p) count ≤ p
      → sum_of (cond t (suc (function_by n count p)) (function_by n count p)) count ≤ p
  started_by n p true e h = omega (arith, leb-true (sum_of (suc n) count) p e, sum_rises (suc (function_by n count p)) (suc n) count (omega (arith, function_limit n p)))
  started_by n p false e h = h

  -- the formals of the functions before a formal's own are before it
  pub function_started : (n p : ℕ) → sum_of (function_by n count p) count ≤ p
  unfolding function_by count_of sum_of
  function_started zero p = omega arith
  function_started (suc n) p = started_by n p (leb (sum_of (suc n) count) p) refl (function_started n p)

  -- so a formal is that of its function and position, and they determine it
  pub formal_placed : (n p : ℕ) → p ≡ sum_of (function_by n count p) count + position_by n count p
  unfolding position_by
  formal_placed n p = omega (arith, function_started n p)

  pub places_distinct : (n : ℕ) {p q : ℕ} → function_by n count p ≡ function_by n count q → position_by n count p ≡ position_by n count q → p ≡ q
  places_distinct n {p} {q} e h =
      let s : sum_of (function_by n count p) count ≡ sum_of (function_by n count q) count = ap (λ (f : ℕ). sum_of f count) e in
      omega (arith, formal_placed n p, formal_placed n q)

  -- the function whose formals hold one is that one's
  pub function_unique : (n f p : ℕ) → f < n → sum_of f count ≤ p → p < sum_of (suc f) count → function_by n count p ≡ f
  unfolding function_by
  function_unique n f p h s e =
      count_none_from f n (λ g. leb (sum_of (suc g) count) p) (omega arith)
      (λ g l k. lt-leb (sum_of (suc g) count) p (omega (arith, sum_rises (suc f) (suc g) count (omega arith))))
      ∙ count_all f (λ g. leb (sum_of (suc g) count) p) (λ g l. le-leb (sum_of (suc g) count) p (omega (arith, sum_rises (suc g) f count l)))

  pub function_of_formal : (n f i : ℕ) → f < n → i < count f → function_by n count (sum_of f count + i) ≡ f
  function_of_formal n f i h k = function_unique n f (sum_of f count + i) h (omega arith) (omega (arith, sum_next f))

  pub position_of_formal : (n f i : ℕ) → f < n → i < count f → position_by n count (sum_of f count + i) ≡ i
  unfolding position_by
  position_of_formal n f i h k = rw (function_of_formal n f i h k) (omega arith)

  -- a formal of the n functions has one of them, and a position there
  pub function_below : (n p : ℕ) → p < sum_of n count → function_by n count p < n
  function_below n p h =
      elim (dec_lt (function_by n count p) n) [
        | yes l ↦ l
        | no l ↦
            let e : function_by n count p ≡ n = omega (arith, function_limit n p) in
            absurd (omega (arith, rw e at (function_started n p)))
      ]

  ended_before : (n f p : ℕ) → f < n → sum_of (suc f) count ≤ p → f < function_by n count p
  unfolding function_by
  ended_before n f p h e =
      let a = count_all (suc f) (λ g. leb (sum_of (suc g) count) p) (λ g l. le-leb (sum_of (suc g) count) p (omega (arith, sum_rises (suc g) (suc f) count l))) in
      omega (arith, count_rises (suc f) n (λ g. leb (sum_of (suc g) count) p) h)

  pub function_not_ended : (n p : ℕ) → function_by n count p < n → p < sum_of (suc (function_by n count p)) count
  function_not_ended n p h =
      elim (dec_lt p (sum_of (suc (function_by n count p)) count)) [
        | yes l ↦ l
        | no l ↦ absurd (omega (arith, ended_before n (function_by n count p) p h (omega arith)))
      ]

  pub position_below : (n p : ℕ) → p < sum_of n count → position_by n count p < count (function_by n count p)
  position_below n p h =
      omega (arith, formal_placed n p, function_not_ended n p (function_below n p h), sum_next (function_by n count p))
