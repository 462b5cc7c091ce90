-- Laws of the table of kinds: a kind past the table has no row, and a row that allows nothing.
use mathlib.Core.Path.{◌≡◌, refl, sym, ap, ◌∙◌}
use Prim.Native.Nat.{ℕ, zero, suc, ◌-◌, ◌%◌, ◌≤◌, ◌<◌}
use mathlib.Core.List.{List, [], ◌∷◌}
use mathlib.Core.Bool.{Bool, true, false, cond, ◌&&◌, and-eq-true_iff, and-false, true≢false}
use native.Mathlib.Omega.{arith}
use lib.Dec.{leb, ltb, eqb}
use borrow.Author.Tests.{le-leb, lt-leb, ltb-true, leb-true, ne_eqb}
use Rattle.definitions.specs.Kinds.{Row, row, rows, row_in, row_of, allows}

-- one more than the greatest kind of document 01
abbrev pub kind_count : ℕ
kind_count = 57

-- a test that every kind of a list of rows is below n
kinds_below : List Row → ℕ → Bool
kinds_below [] n = true
kinds_below (r ∷ rs) n = ltb r.kind n && kinds_below rs n

no_row : (rs : List Row) (n k : ℕ) → kinds_below rs n ≡ true → n ≤ k → row_in rs k ≡ row k 1 1 0
unfolding kinds_below row_in
no_row [] n k e h = refl
no_row (r ∷ rs) n k e h =
    let p = (and-eq-true_iff (ltb r.kind n) (kinds_below rs n)).0 e in
    let q : r.kind < n = ltb-true r.kind n p.0 in
    rw (ne_eqb k r.kind (λ f. omega (arith, f, q, h))) (no_row rs n k p.1 h)

-- a kind past the table allows no length
nothing_allowed : (k n : ℕ) → allows (row k 1 1 0) n ≡ false
unfolding allows row
nothing_allowed k zero = refl
nothing_allowed k (suc n) = rw (lt-leb (suc n) 0 (omega arith), and-false) refl

pub past_table : (k n : ℕ) → kind_count ≤ k → false ≡ allows (row_of k) n
unfolding row_of rows row kinds_below
past_table k n h = sym (ap (λ (r : Row). allows r n) (no_row rows kind_count k refl h) ∙ nothing_allowed k n)

-- every length that a row of the table allows is at least 4
least_above : List Row → Bool
least_above [] = true
least_above (r ∷ rs) = leb 4 r.least && least_above rs

allowed_of : (t : Bool) (r s : Row) (n : ℕ) → 4 ≤ r.least → (allows s n ≡ true → 4 ≤ n) → allows (cond t r s) n ≡ true → 4 ≤ n
unfolding allows
allowed_of true r s n h k e =
    let p = (and-eq-true_iff (leb r.least n && leb n r.greatest) (eqb ((n - r.least) % r.step) 0)).0 e in
    let q = (and-eq-true_iff (leb r.least n) (leb n r.greatest)).0 p.0 in
    omega (arith, leb-true r.least n q.0)
allowed_of false r s n h k e = k e

allowed_above : (rs : List Row) (k n : ℕ) → least_above rs ≡ true → allows (row_in rs k) n ≡ true → 4 ≤ n
unfolding least_above row_in
allowed_above [] k n e f = let z : true ≡ false = sym f ∙ nothing_allowed k n in absurd (true≢false z)
allowed_above (r ∷ rs) k n e f =
    let p = (and-eq-true_iff (leb 4 r.least) (least_above rs)).0 e in
    allowed_of (eqb k r.kind) r (row_in rs k) n (leb-true 4 r.least p.0) (allowed_above rs k n p.1) f

pub allowed_least : (k n : ℕ) → allows (row_of k) n ≡ true → 4 ≤ n
unfolding row_of rows row least_above
allowed_least k n e = allowed_above rows k n refl e

-- a row's test, by the three comparisons of what was read of it
pub below_least : (r : Row) (n l : ℕ) → l ≡ r.least → n < l → false ≡ allows r n
unfolding allows
below_least r n l e h = rw (lt-leb r.least n (rw e at h)) refl

pub above_greatest : (r : Row) (n g : ℕ) → g ≡ r.greatest → g < n → false ≡ allows r n
unfolding allows
above_greatest r n g e h = rw (lt-leb n r.greatest (rw e at h), and-false) refl

pub by_step : (r : Row) (n l s g : ℕ) → l ≡ r.least → s ≡ r.step → g ≡ r.greatest → l ≤ n → n ≤ g → eqb ((n - l) % s) 0 ≡ allows r n
unfolding allows
by_step r n l s g e f q h k = rw (le-leb r.least n (rw e at h), le-leb n r.greatest (rw q at k), e, f) refl
