-- A choice by a test for the least number that is left, as the kinds of a file's nodes are told apart one after the other.
use mathlib.Core.Path.{◌≡◌, refl}
use Prim.Native.Nat.{ℕ, suc, ◌≤◌}
use mathlib.Core.Bool.{Bool, true, false, cond}
use native.Mathlib.Omega.{arith}
use lib.Dec.{eqb}
use borrow.Author.Tests.{eqb-true, eqb-false}

module _ {A : Type 0} (P : A → Type 0) (k n : ℕ) (x z : A) where
  either_way : (t : Bool) → eqb k n ≡ t → n ≤ k → (k ≡ n → P x) → (suc n ≤ k → P z) → P (cond t x z)
  either_way true e h f g = f (eqb-true k n e)
  either_way false e h f g = let d = eqb-false k n e in g (omega arith)

  pub either : n ≤ k → (k ≡ n → P x) → (suc n ≤ k → P z) → P (cond (eqb k n) x z)
  either h f g = either_way (eqb k n) refl h f g
