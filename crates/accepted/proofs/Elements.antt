-- Laws of the element of a list at a place: of joined lists, and of a list made over the first n numbers.
use mathlib.Core.Path.{◌≡◌, refl, ◌∙◌}
use Prim.Native.Nat.{ℕ, zero, suc, ◌+◌, ◌≤◌, ◌<◌}
use mathlib.Core.List.{List, [], ◌∷◌, ◌++◌}
use mathlib.Core.Option.{none, some, none-ne-some}
use native.Mathlib.Omega.{arith}
use native.Mathlib.Nat.{not-suc-le-zero, zero-add, suc-add, le_of_suc-le-suc}
use lib.ListN.{length, get_elem?}
use Rattle.definitions.specs.Lists.{listed}
use Rattle.laws.proofs.Lists.{below_suc, listed_length}

module _ {A : Type 0} where
  -- a place that has an element is in the list, and one past the end has none
  pub element_below : (xs : List A) (i : ℕ) {x : A} → get_elem? xs i ≡ some x → i < length xs
  element_below [] i e = absurd (none-ne-some _ e)
  element_below (x ∷ xs) zero e = omega arith
  element_below (x ∷ xs) (suc i) e = omega (arith, element_below xs i e)

  pub element_past : (xs : List A) (i : ℕ) → length xs ≤ i → get_elem? xs i ≡ none
  element_past [] i h = refl
  element_past (x ∷ xs) zero h = absurd (not-suc-le-zero h)
  element_past (x ∷ xs) (suc i) h = element_past xs i (le_of_suc-le-suc h)

  pub record Element (xs : List A) (i : ℕ) : Type 0 where
    pub element : A
    pub there : get_elem? xs i ≡ some element

  -- a place in the list has an element
  pub element_there : (xs : List A) (i : ℕ) → i < length xs → Element xs i
  element_there [] i h = absurd (not-suc-le-zero h)
  element_there (x ∷ xs) zero h = record { element = x; there = refl }
  element_there (x ∷ xs) (suc i) h =
      let e = element_there xs i (le_of_suc-le-suc h) in
      record { element = e.element; there = e.there }

  -- joined lists
  pub element_front : (xs ys : List A) (i : ℕ) → i < length xs → get_elem? (xs ++ ys) i ≡ get_elem? xs i
  element_front [] ys i h = absurd (not-suc-le-zero h)
  element_front (x ∷ xs) ys zero h = refl
  element_front (x ∷ xs) ys (suc i) h = element_front xs ys i (le_of_suc-le-suc h)

  pub element_back : (xs ys : List A) (i : ℕ) → get_elem? (xs ++ ys) (length xs + i) ≡ get_elem? ys i
  element_back [] ys i = rw zero-add refl
  element_back (x ∷ xs) ys i = rw suc-add (element_back xs ys i)

  -- a list made over the first n numbers
  pub listed_element : (n : ℕ) (at : ℕ → A) (i : ℕ) → i < n → get_elem? (listed n at) i ≡ some (at i)
  unfolding listed
  listed_element zero at i h = absurd (not-suc-le-zero h)
  listed_element (suc n) at i h =
      below_suc (λ j. get_elem? (listed n at ++ (at n ∷ [])) j ≡ some (at j)) n
      (λ j k. element_front (listed n at) (at n ∷ []) j (rw (listed_length n at) k) ∙ listed_element n at j k)
      (let e : length (listed n at) + 0 ≡ n = omega (arith, listed_length n at) in rw e at (element_back (listed n at) (at n ∷ []) 0))
      i h

  -- what is found there is the element of a number below n
  pub record Listed (n : ℕ) (at : ℕ → A) (i : ℕ) (x : A) : Type 0 where
    pub below : i < n
    pub is : at i ≡ x

  pub listed_found : (n : ℕ) (at : ℕ → A) (i : ℕ) {x : A} → get_elem? (listed n at) i ≡ some x → Listed n at i x
  listed_found n at i {x} e =
      let h : i < n = rw (listed_length n at) at (element_below (listed n at) i e) in
      let p = listed_element n at i h in
      record { below = h; is = cc }
