-- Laws of the table of kinds in the code: its rule is one computed test, and a row that allows a length has the step 2 or 4.
use mathlib.Core.Path.{◌≡◌, refl, sym, ◌∙◌}
use Prim.Native.Nat.{ℕ, ◌-◌, ◌%◌, ◌≤◌, ◌<◌}
use mathlib.Core.Logic.{◌⊎◌, inl, inr}
use mathlib.Core.List.{List, [], ◌∷◌}
use mathlib.Core.Bool.{Bool, true, false, cond, ◌&&◌, ◌||◌, and-eq-true_iff}
use native.Mathlib.Omega.{arith}
use lib.Dec.{eqb}
use lib.ListN.{get_or}
use borrow.Author.Tests.{eqb-true, ne_eqb}
use Rattle.definitions.specs.Lists.{all_of}
use Rattle.definitions.specs.Kinds.{Row, row, rows, row_in, row_of, allows}
use Rattle.laws.proofs.Lists.{all_each}
use Rattle.laws.proofs.KindRows.{kind_count, below_least, above_greatest, by_step}
use Rattle.file_kinds.specs.Rows.{RowHeld, RowsOf}

-- whether the code's row is this row
unfoldable pub holds : List ℕ → Row → Bool
holds x r = eqb (get_or x 0 0) r.least && eqb (get_or x 1 0) r.step && eqb (get_or x 2 0) r.greatest

row_held : (x : List ℕ) (r : Row) → holds x r ≡ true → RowHeld x r
unfolding holds
row_held x r e =
    let p = (and-eq-true_iff (eqb (get_or x 0 0) r.least && eqb (get_or x 1 0) r.step) (eqb (get_or x 2 0) r.greatest)).0 e in
    let q = (and-eq-true_iff (eqb (get_or x 0 0) r.least) (eqb (get_or x 1 0) r.step)).0 p.0 in
    record {
      least = eqb-true (get_or x 0 0) r.least q.0;
      step = eqb-true (get_or x 1 0) r.step q.1;
      greatest = eqb-true (get_or x 2 0) r.greatest p.1;
    }

pub rows_held : (table : List (List ℕ)) → all_of kind_count (λ k. holds (get_or table k []) (row_of k)) ≡ true → RowsOf table
rows_held table e =
    record { entry = λ k h. row_held (get_or table k []) (row_of k) (all_each kind_count (λ k. holds (get_or table k []) (row_of k)) e k h) }

-- the step of a row that allows a length
steps_known : List Row → Bool
steps_known [] = true
steps_known (r ∷ rs) = (eqb r.step 4 || eqb r.step 2) && steps_known rs

two : (s : ℕ) → (eqb s 4 || eqb s 2) ≡ true → (s ≡ 4 → ⊥) → 2 ≡ s
two s e n = sym (eqb-true s 2 (rw (ne_eqb s 4 n) at e))

two_of : (t : Bool) (r s : Row) → (eqb r.step 4 || eqb r.step 2) ≡ true → (s.least ≤ s.greatest → (s.step ≡ 4 → ⊥) → 2 ≡ s.step)
    → (cond t r s).least ≤ (cond t r s).greatest → ((cond t r s).step ≡ 4 → ⊥) → 2 ≡ (cond t r s).step
two_of true r s e k h n = two r.step e n
two_of false r s e k h n = k h n

step_in : (rs : List Row) (k : ℕ) → steps_known rs ≡ true → (row_in rs k).least ≤ (row_in rs k).greatest → ((row_in rs k).step ≡ 4 → ⊥) → 2 ≡ (row_in rs k).step
unfolding steps_known row_in row
step_in [] k e h n = absurd (omega arith)
step_in (r ∷ rs) k e h n =
    let p = (and-eq-true_iff (eqb r.step 4 || eqb r.step 2) (steps_known rs)).0 e in
    two_of (eqb k r.kind) r (row_in rs k) p.0 (step_in rs k p.1) h n

pub step_two : (k : ℕ) → (row_of k).least ≤ (row_of k).greatest → ((row_of k).step ≡ 4 → ⊥) → 2 ≡ (row_of k).step
unfolding row_of rows row steps_known
step_two k h n = step_in rows k refl h n

-- the tests of a length, by what the table holds of the kind
module _ {table : List (List ℕ)} (w : RowsOf table) {kind k : ℕ} {x : List ℕ} (same : k ≡ kind) (h : k < kind_count) (read : x ≡ get_or table k []) where
  held : RowHeld x (row_of kind)
  held = rw (read, same) (w.entry kind (rw same at h))

  module _ {n : ℕ} where
    pub length_outside : (n < get_or x 0 0) ⊎ ((get_or x 0 0 ≤ n) × (get_or x 2 0 < n)) → false ≡ allows (row_of kind) n
    length_outside (inl l) = below_least (row_of kind) n _ held.least l
    length_outside (inr g) = above_greatest (row_of kind) n _ held.greatest g.1

    module _ (l : get_or x 0 0 ≤ n) (g : n ≤ get_or x 2 0) where
      by_its_step : (s : ℕ) → s ≡ (row_of kind).step → eqb ((n - get_or x 0 0) % s) 0 ≡ allows (row_of kind) n
      by_its_step s e = by_step (row_of kind) n _ s _ held.least e held.greatest l g

      pub length_by_four : get_or x 1 0 ≡ 4 → eqb ((n - get_or x 0 0) % 4) 0 ≡ allows (row_of kind) n
      length_by_four e = by_its_step 4 (sym e ∙ held.step)

      pub length_by_two : (get_or x 1 0 ≡ 4 → ⊥) → eqb ((n - get_or x 0 0) % 2) 0 ≡ allows (row_of kind) n
      length_by_two e = by_its_step 2 (step_two kind (omega (arith, held.least, held.greatest, l, g)) (λ q. e (held.step ∙ q)))
