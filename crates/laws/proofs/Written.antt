-- Laws of a list with an element written at a place, over the one there or at the end: what is there, what was before it, how many there
-- are, and what holds of each.
use mathlib.Core.Path.{◌≡◌, refl, subst}
use Prim.Native.Nat.{ℕ, zero, suc, ◌≤◌, ◌<◌, max}
use mathlib.Core.List.{List, [], ◌∷◌}
use mathlib.Core.Option.{some, none-ne-some, some-injective}
use native.Mathlib.Omega.{arith}
use lib.ListN.{length, get_elem?}
use Rattle.definitions.specs.LiveCells.{written}

module _ {A : Type 0} where
  pub written_there : (xs : List A) (n : ℕ) (x : A) → n ≤ length xs → get_elem? (written xs n x) n ≡ some x
  unfolding written
  written_there [] zero x h = refl
  written_there [] (suc n) x h = absurd (omega arith)
  written_there (y ∷ xs) zero x h = refl
  written_there (y ∷ xs) (suc n) x h = written_there xs n x (omega arith)

  pub written_before : (xs : List A) (n i : ℕ) (x : A) → n ≤ length xs → i < n → get_elem? (written xs n x) i ≡ get_elem? xs i
  unfolding written
  written_before [] n i x h g = absurd (omega arith)
  written_before (y ∷ xs) zero i x h g = absurd (omega arith)
  written_before (y ∷ xs) (suc n) zero x h g = refl
  written_before (y ∷ xs) (suc n) (suc i) x h g = written_before xs n i x (omega arith) (omega arith)

  pub written_length : (xs : List A) (n : ℕ) (x : A) → n ≤ length xs → length (written xs n x) ≡ max (length xs) (suc n)
  unfolding written
  written_length [] zero x h = refl
  written_length [] (suc n) x h = absurd (omega arith)
  written_length (y ∷ xs) zero x h = omega arith
  written_length (y ∷ xs) (suc n) x h = omega (arith, written_length xs n x (omega arith))

  pub each_written : (P : ℕ → A → Type 0) (xs : List A) (n : ℕ) (x : A) → n ≤ length xs → ((i : ℕ) (y : A) → get_elem? xs i ≡ some y → P i y) → P n x
      → (i : ℕ) (y : A) → get_elem? (written xs n x) i ≡ some y → P i y
  unfolding written
  each_written P [] zero x l h p zero z e = subst (P 0) (some-injective x z e) p
  each_written P [] zero x l h p (suc i) z e = absurd (none-ne-some _ e)
  each_written P [] (suc n) x l h p i z e = absurd (omega arith)
  each_written P (y ∷ xs) zero x l h p zero z e = subst (P 0) (some-injective x z e) p
  each_written P (y ∷ xs) zero x l h p (suc i) z e = h (suc i) z e
  each_written P (y ∷ xs) (suc n) x l h p zero z e = h zero z e
  each_written P (y ∷ xs) (suc n) x l h p (suc i) z e = each_written (λ i. P (suc i)) xs n x (omega arith) (λ i. h (suc i)) p i z e
