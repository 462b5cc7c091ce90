-- Laws of joined parts that hold one element or none: the elements of the numbers that pass a test.
use mathlib.Core.Path.{◌≡◌, refl, ◌∙◌}
use Prim.Native.Nat.{ℕ, zero, suc, ◌+◌, ◌<◌}
use mathlib.Core.List.{List, [], ◌∷◌, ◌++◌, append-nil}
use mathlib.Core.Option.{some}
use mathlib.Core.Bool.{Bool, true, false, cond}
use native.Mathlib.Omega.{arith}
use native.Mathlib.Nat.{not-suc-le-zero}
use native.Mathlib.Decide.{ℕ_discrete}
use lib.ListN.{length, get_elem?, length-append}
use Rattle.definitions.specs.Lists.{joined, count_of}
use Rattle.accepted.proofs.Sums.{SomeBelow}
use Rattle.accepted.proofs.Counts.{count_reached}
use Rattle.accepted.proofs.Elements.{element_below, element_front, element_back}

-- the elements of the numbers that pass a test
abbrev pub picked : {A : Type 0} → ℕ → (ℕ → Bool) → (ℕ → A) → List A
picked n test at = joined n (λ k. cond (test k) (at k ∷ []) [])

module _ {A : Type 0} (test : ℕ → Bool) (at : ℕ → A) where
  one_length : (t : Bool) (n k : ℕ) (x : A) → n ≡ k → n + length (cond t (x ∷ []) []) ≡ cond t (suc k) k
  one_length true n k x e = omega arith
  one_length false n k x e = omega arith

  pub picked_length : (n : ℕ) → length (picked n test at) ≡ count_of n test
  unfolding joined count_of
  picked_length zero = refl
  picked_length (suc n) =
      length-append (picked n test at) (cond (test n) (at n ∷ []) [])
      ∙ one_length (test n) (length (picked n test at)) (count_of n test) (at n) (picked_length n)

  -- an element stands after those picked before it
  picked_here : (k : ℕ) → test k ≡ true → get_elem? (picked (suc k) test at) (count_of k test) ≡ some (at k)
  unfolding joined
  picked_here k e =
      let l : length (picked k test at) + 0 ≡ count_of k test = omega (arith, picked_length k) in
      rw e (rw l at (element_back (picked k test at) (at k ∷ []) 0))

  pub picked_element : (n k : ℕ) → k < n → test k ≡ true → get_elem? (picked n test at) (count_of k test) ≡ some (at k)
  unfolding joined
  picked_element zero k h e = absurd (not-suc-le-zero h)
  picked_element (suc n) k h e =
      elim (ℕ_discrete k n) [
        | yes p ↦ rw (← p) (picked_here k e)
        | no p ↦
            let s = picked_element n k (omega (arith, h, p)) e in
            element_front (picked n test at) (cond (test n) (at n ∷ []) []) (count_of k test) (element_below (picked n test at) (count_of k test) s) ∙ s
      ]

  -- what is found is an element of a number that passes
  pub record Picked (l : ℕ) (x : A) (k : ℕ) : Type 0 where
    pub passes : test k ≡ true
    pub before : count_of k test ≡ l
    pub is : at k ≡ x

  pub picked_found : (n l : ℕ) {x : A} → get_elem? (picked n test at) l ≡ some x → SomeBelow n (Picked l x)
  picked_found n l {x} e =
      let h : l < count_of n test = rw (picked_length n) at (element_below (picked n test at) l e) in
      let f = count_reached n l test h in
      let s : get_elem? (picked n test at) l ≡ some (at f.at) = rw f.holds.1 at (picked_element n f.at f.below f.holds.0) in
      record { at = f.at; below = f.below; holds = record { passes = f.holds.0; before = f.holds.1; is = cc } }

  -- what is picked is what a table of the numbers that pass lists
  module _ (number : ℕ → ℕ) where
    abbrev tabled : ℕ → List A
    tabled n = joined n (λ j. at (number j) ∷ [])

    tabled_step : (n : ℕ) (t : Bool) → (t ≡ true → number (count_of n test) ≡ n) → picked n test at ≡ tabled (count_of n test)
        → picked n test at ++ cond t (at n ∷ []) [] ≡ tabled (cond t (suc (count_of n test)) (count_of n test))
    unfolding joined
    tabled_step n true e q = rw (q, e refl) refl
    tabled_step n false e q = append-nil (picked n test at) ∙ q

    pub picked_tabled : (n : ℕ) → ((k : ℕ) → k < n → test k ≡ true → number (count_of k test) ≡ k)
        → picked n test at ≡ joined (count_of n test) (λ j. at (number j) ∷ [])
    unfolding joined count_of
    picked_tabled zero e = refl
    picked_tabled (suc n) e = tabled_step n (test n) (e n (omega arith)) (picked_tabled n (λ k h. e k (omega arith)))
