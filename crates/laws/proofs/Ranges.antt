-- A range, by its two comparisons.
use mathlib.Core.Path.{◌≡◌, refl}
use Prim.Native.Nat.{ℕ, ◌≤◌, ◌<◌}
use mathlib.Core.Bool.{true, false, and-false, and-eq-true_iff}
use lib.Dec.{leb}
use borrow.Author.Tests.{le-leb, lt-leb, leb-true}
use Rattle.definitions.specs.Ranges.{within}

pub within_both : (l g n : ℕ) → l ≤ n → n ≤ g → within l g n ≡ true
unfolding within
within_both l g n h k = rw (le-leb l n h, le-leb n g k) refl

pub within_below : (l g n : ℕ) → n < l → within l g n ≡ false
unfolding within
within_below l g n h = rw (lt-leb l n h) refl

pub within_above : (l g n : ℕ) → g < n → within l g n ≡ false
unfolding within
within_above l g n h = rw (lt-leb n g h, and-false) refl

-- a number in a range
pub record Within (l g n : ℕ) : Type 0 where
  pub least : l ≤ n
  pub greatest : n ≤ g

pub within_by : (l g n : ℕ) → within l g n ≡ true → Within l g n
unfolding within
within_by l g n e =
    let p = (and-eq-true_iff (leb l n) (leb n g)).0 e in
    record { least = leb-true l n p.0; greatest = leb-true n g p.1 }
