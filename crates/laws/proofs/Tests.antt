-- A loop that tests each of the first n numbers and stops at the first that fails.
use mathlib.Core.Path.{◌≡◌, sym, ◌∙◌}
use Prim.Native.Nat.{ℕ, ◌+◌, ◌≤◌, ◌<◌}
use mathlib.Core.Bool.{Bool, true, false}
use lib.Dec.{ltb, eqb}
use native.Mathlib.Omega.{arith}
use borrow.Author.Tests.{lt-ltb, le-ltb, eq-eqb, ne_eqb}
use Rattle.definitions.specs.Lists.{all_of}
use Rattle.laws.proofs.Lists.{all_none, all_more, all_not}

-- before turn j of a loop over n numbers, which are all the m that are to pass: those before j passed
pub record Testing (test : ℕ → Bool) (m n j : ℕ) : Type 0 where
  pub reached : j ≤ n
  pub count : n ≡ m
  pub passed : all_of j test ≡ true

pub tests_begin : {test : ℕ → Bool} {m n : ℕ} → n ≡ m → Testing test m n 0
tests_begin {test} e = record { reached = omega arith; count = e; passed = all_none test }

module _ {test : ℕ → Bool} {m n j : ℕ} (t : Testing test m n j) where
  pub tests_go_on : j < n → test j ≡ true → Testing test m n (j + 1)
  tests_go_on h e = record { reached = omega arith; count = t.count; passed = all_more j test t.passed e }

  -- one fails, so all do not pass; all are tested, so all pass
  pub tests_fail : j < n → test j ≡ false → false ≡ all_of m test
  tests_fail h e = sym (all_not j m test (omega (arith, t.count, h)) e)

  pub tests_end : n ≤ j → true ≡ all_of m test
  tests_end h = let q : j ≡ m = omega (arith, t.count, t.reached, h) in sym (rw q at t.passed)

-- a test against a limit, by the comparison of what was read
pub below_test : {x y limit : ℕ} → x ≡ y → x < limit → ltb y limit ≡ true
below_test {x} {y} {limit} e h = lt-ltb y limit (rw e at h)

pub below_not : {x y limit : ℕ} → x ≡ y → limit ≤ x → ltb y limit ≡ false
below_not {x} {y} {limit} e h = le-ltb y limit (rw e at h)

-- a test for equal numbers, likewise
pub same_test : {x y p q : ℕ} → x ≡ p → y ≡ q → x ≡ y → eqb p q ≡ true
same_test {p} {q} e f h = eq-eqb p q (sym e ∙ h ∙ f)

pub differ_test : {x y p q : ℕ} → x ≡ p → y ≡ q → (x ≡ y → ⊥) → eqb p q ≡ false
differ_test {p} {q} e f h = ne_eqb p q (λ z. h (e ∙ z ∙ sym f))
