-- Laws of chains: what the last with a number is, and a node's chain while it is walked.
use mathlib.Core.Path.{◌≡◌, refl, sym, ◌∙◌}
use Prim.Native.Nat.{ℕ, zero, suc, ◌+◌, ◌≤◌, ◌<◌}
use mathlib.Core.Bool.{Bool, true, false, cond, true≢false}
use native.Mathlib.Omega.{arith}
use native.Mathlib.Nat.{not-suc-le-zero}
use native.Mathlib.Numerals.{add-one}
use native.Mathlib.Decide.{ℕ_discrete}
use lib.Dec.{eqb}
use borrow.Author.Tests.{eqb-true, eq-eqb}
use Rattle.tree_classes.specs.Chains.{last_with}

-- r is one above the last of the first n with number h, or 0
pub record LastWith (at : ℕ → ℕ) (h n r : ℕ) : Type 0 where
  pub limit : r ≤ n
  pub has : (j : ℕ) → r ≡ suc j → at j ≡ h
  pub none : (j : ℕ) → r ≤ j → j < n → at j ≡ h → ⊥

last_step : (at : ℕ → ℕ) (h n r : ℕ) (t : Bool) → eqb (at n) h ≡ t → LastWith at h n r → LastWith at h (suc n) (cond t (suc n) r)
last_step at h n r true e w =
    record {
      limit = omega arith;
      has = λ j q. let z : n ≡ j = omega (arith, q) in rw z at (eqb-true (at n) h e);
      none = λ j l g q. omega (arith, l, g);
    }
last_step at h n r false e w =
    record {
      limit = omega (arith, w.limit);
      has = w.has;
      none = λ j l g q. elim (ℕ_discrete j n) [
        | yes z ↦ let u : eqb (at n) h ≡ true = eq-eqb (at n) h (rw z at q) in
            let v : ◌≡◌ {A = Bool} true false = sym u ∙ e in
            absurd (true≢false v)
        | no z ↦ w.none j l (omega (arith, g, z)) q
      ];
    }

pub last_with_law : (at : ℕ → ℕ) (h n : ℕ) → LastWith at h n (last_with at h n)
unfolding last_with
last_with_law at h zero = record { limit = omega arith; has = λ j q. absurd (omega (arith, q)); none = λ j l g q. absurd (not-suc-le-zero g) }
last_with_law at h (suc n) = last_step at h n (last_with at h n) (eqb (at n) h) refl (last_with_law at h n)

pub last_kept : (at to : ℕ → ℕ) (h n : ℕ) → ((j : ℕ) → j < n → at j ≡ to j) → last_with at h n ≡ last_with to h n
unfolding last_with
last_kept at to h zero f = refl
last_kept at to h (suc n) f = rw (f n (omega arith), last_kept at to h n (λ j l. f j (omega arith))) refl

pub last_more : (at : ℕ → ℕ) (h n : ℕ) → last_with at h (n + 1) ≡ cond (eqb (at n) h) (n + 1) (last_with at h n)
unfolding last_with
last_more at h n = rw add-one refl
