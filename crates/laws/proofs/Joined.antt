-- Laws of joined parts: a part among the others, and the length of all.
use mathlib.Core.Path.{◌≡◌, refl, sym, ap₂, ◌∙◌}
use Prim.Native.Nat.{ℕ, zero, suc, ◌+◌, ◌*◌, ◌<◌}
use mathlib.Core.List.{List, [], ◌++◌, append_assoc, append-nil}
use native.Mathlib.Omega.{arith}
use native.Mathlib.Nat.{not-suc-le-zero, zero-mul, suc-mul}
use native.Mathlib.Decide.{ℕ_discrete}
use lib.ListN.{length, length-append}
use Rattle.definitions.specs.Lists.{joined, sum_of}

-- part i among n parts
pub record Split {A : Type 0} (n i : ℕ) (part : ℕ → List A) : Type 0 where
  pub rest : List A
  pub is : joined n part ≡ joined i part ++ part i ++ rest

module _ {A : Type 0} (part : ℕ → List A) where
  pub joined_split : (n i : ℕ) → i < n → Split n i part
  unfolding joined
  joined_split zero i h = absurd (not-suc-le-zero h)
  joined_split (suc n) i h =
      elim (ℕ_discrete i n) [
        | yes e ↦ record { rest = []; is = rw (e, append-nil) refl }
        | no e ↦
            let s = joined_split n i (omega (arith, h, e)) in
            record { rest = s.rest ++ part n; is = rw s.is (append_assoc (joined i part ++ part i) s.rest (part n)) }
      ]

  -- the length of all parts
  pub joined_length : (n : ℕ) → length (joined n part) ≡ sum_of n (λ i. length (part i))
  unfolding joined sum_of
  joined_length zero = refl
  joined_length (suc n) = length-append (joined n part) (part n) ∙ rw (joined_length n) refl

  -- the length of parts of one length
  pub joined_even : (size : ℕ) → ((i : ℕ) → length (part i) ≡ size) → (n : ℕ) → length (joined n part) ≡ n * size
  unfolding joined
  joined_even size e zero = sym (zero-mul size)
  joined_even size e (suc n) = length-append (joined n part) (part n) ∙ ap₂ ◌+◌ (joined_even size e n) (e n) ∙ sym (suc-mul n size)

-- equal parts, joined
pub joined_same : {A : Type 0} (part other : ℕ → List A) (n : ℕ) → ((i : ℕ) → i < n → part i ≡ other i) → joined n part ≡ joined n other
unfolding joined
joined_same part other zero e = refl
joined_same part other (suc n) e = ap₂ ◌++◌ (joined_same part other n (λ i h. e i (omega arith))) (e n (omega arith))
