-- Laws of what is in a list and of lists without repetition, and how long one of visits to actuals can be.
use mathlib.Core.Path.{◌≡◌, refl, sym, ap, subst}
use mathlib.Core.Logic.{⊎_elim}
use Prim.Native.Nat.{ℕ, suc, ◌*◌, ◌≤◌, ◌<◌}
use mathlib.Core.List.{List, [], ◌∷◌, ◌++◌}
use mathlib.Core.List.Memᴰ
use mathlib.Core.List.{Memᴰ}
use native.Mathlib.Omega.{arith}
use lib.ListN.{length, length-append}
use Rattle.definitions.specs.Sizes.{most_fields}
use Rattle.definitions.specs.Lists.{joined}
use Rattle.laws.proofs.Joined.{joined_split, joined_even}
use Rattle.actual_visits.specs.Distinct.{Distinct, nothing, one_more}
use Rattle.given_back.specs.SerialCells.{ActualVisit}

module _ {A : Type 0} where
  -- what holds of each element of two lists, and of one element
  pub each_append : (P : A → Type 0) (xs : List A) {ys : List A} → ((z : A) → Memᴰ z xs → P z) → ((z : A) → Memᴰ z ys → P z)
      → (z : A) → Memᴰ z (xs ++ ys) → P z
  each_append P xs f g z i = ⊎_elim (f z) (g z) (Memᴰ.append_cases xs i)

  pub each_one : (P : A → Type 0) {x : A} → P x → (z : A) → Memᴰ z (x ∷ []) → P z
  each_one P p z i = subst P (sym (Memᴰ.eq_of_singleton i)) p

  pub distinct_one : (x : A) → Distinct (x ∷ [])
  distinct_one x = one_more (λ i. Memᴰ.not-nil i) nothing

  pub distinct_append : (xs : List A) {ys : List A} → Distinct xs → Distinct ys → ((z : A) → Memᴰ z xs → Memᴰ z ys → ⊥) → Distinct (xs ++ ys)
  distinct_append [] nothing q h = q
  distinct_append (x ∷ xs) (one_more n p) q h =
      one_more (λ i. ⊎_elim n (h x (Memᴰ.head refl)) (Memᴰ.append_cases xs i)) (distinct_append xs p q (λ z i j. h z (Memᴰ.tail i) j))

  -- where an element stands
  record Split (x : A) (ys : List A) : Type 0 where
    pub before : List A
    pub past : List A
    pub is : ys ≡ before ++ (x ∷ past)

  split : {x : A} {ys : List A} → Memᴰ x ys → Split x ys
  split (Memᴰ.head {xs} e) = record { before = []; past = xs; is = rw e refl }
  split (Memᴰ.tail {x = y} i) = let s = split i in record { before = y ∷ s.before; past = s.past; is = ap (λ zs. y ∷ zs) s.is }

  -- and what else stands there
  without : {x z : A} (us vs : List A) → ¬ (z ≡ x) → Memᴰ z (us ++ (x ∷ vs)) → Memᴰ z (us ++ vs)
  without [] vs n (Memᴰ.head e) = absurd (n e)
  without [] vs n (Memᴰ.tail i) = i
  without (u ∷ us) vs n (Memᴰ.head e) = Memᴰ.head e
  without (u ∷ us) vs n (Memᴰ.tail i) = Memᴰ.tail (without us vs n i)

  -- a list without repetition is no longer than one that has all of it
  distinct_shorter : (xs ys : List A) → Distinct xs → ((z : A) → Memᴰ z xs → Memᴰ z ys) → length xs ≤ length ys
  distinct_shorter [] ys nothing h = omega arith
  distinct_shorter (x ∷ xs) ys (one_more n p) h =
      let s = split (h x (Memᴰ.head refl)) in
      let r = distinct_shorter xs (s.before ++ s.past) p
      (λ z i. without s.before s.past (λ e. n (Memᴰ.cast (sym e) i)) (rw s.is at (h z (Memᴰ.tail i)))) in
      omega (arith, ap length s.is, length-append s.before (x ∷ s.past), length-append s.before s.past)

  in_joined : (n i : ℕ) (part : ℕ → List A) {z : A} → i < n → Memᴰ z (part i) → Memᴰ z (joined n part)
  in_joined n i part h m =
      let s = joined_split part n i h in
      rw s.is (Memᴰ.append_left s.rest (Memᴰ.append_right (joined i part) m))

-- a visit for one of n cells, at one of eight positions
pub record Inside (n : ℕ) (z : ActualVisit) : Type 0 where
  pub place : ℕ
  pub counts : z.serial ≡ suc place
  pub made : place < n
  pub below : z.position < most_fields

pub inside_more : {m n : ℕ} {z : ActualVisit} → m ≤ n → Inside m z → Inside n z
inside_more h i = record { place = i.place; counts = i.counts; made = omega (arith, i.made); below = i.below }

-- the visits for cell c, and for n cells
abbrev of_cell : ℕ → List ActualVisit
of_cell c = joined most_fields (λ i. record { serial = suc c; position = i } ∷ [])

in_cells : (n : ℕ) (z : ActualVisit) → Inside n z → Memᴰ z (joined n of_cell)
in_cells n z i =
    in_joined n i.place of_cell i.made
    (in_joined most_fields z.position (λ j. record { serial = suc i.place; position = j } ∷ []) i.below
    (Memᴰ.head (ap (λ (s : ℕ). record { serial = s; position = z.position }) i.counts)))

-- such visits without repetition are at most eight times the cells
pub eightfold : (n : ℕ) (zs : List ActualVisit) → Distinct zs → ((z : ActualVisit) → Memᴰ z zs → Inside n z) → length zs ≤ n * most_fields
eightfold n zs p h =
    let r = distinct_shorter zs (joined n of_cell) p (λ z i. in_cells n z (h z i)) in
    omega (arith, joined_even of_cell most_fields (λ c. joined_even (λ i. record { serial = suc c; position = i } ∷ []) 1 (λ i. refl) most_fields) n)
