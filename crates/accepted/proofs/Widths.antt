-- What a row of the table of kinds says of a length that it allows, and of the number of fields of a record that is so long.
use mathlib.Core.Path.{◌≡◌, refl}
use Prim.Native.Nat.{ℕ, ◌+◌, ◌*◌, ◌-◌, ◌%◌, ◌≤◌}
use mathlib.Core.List.{List, [], ◌∷◌}
use mathlib.Core.Bool.{Bool, true, false, cond, ◌&&◌, ◌||◌, and-eq-true_iff}
use native.Mathlib.Omega.{arith}
use lib.ListN.{length}
use lib.Dec.{leb, eqb}
use borrow.Author.Tests.{leb-true, eqb-true}
use Rattle.definitions.specs.Records.{field_count}
use Rattle.definitions.specs.Kinds.{Row, row, rows, row_in, row_of, allows}
use Rattle.definitions.specs.References.{clauses}

-- the three tests of a row
pub record LengthAllowed (r : Row) (n : ℕ) : Type 0 where
  pub least : r.least ≤ n
  pub greatest : n ≤ r.greatest
  pub step : (n - r.least) % r.step ≡ 0

pub allowed_by : (r : Row) (n : ℕ) → allows r n ≡ true → LengthAllowed r n
unfolding allows
allowed_by r n e =
    let p = (and-eq-true_iff (leb r.least n && leb n r.greatest) (eqb ((n - r.least) % r.step) 0)).0 e in
    let q = (and-eq-true_iff (leb r.least n) (leb n r.greatest)).0 p.0 in
    record {
      least = leb-true r.least n q.0;
      greatest = leb-true n r.greatest q.1;
      step = eqb-true ((n - r.least) % r.step) 0 p.1;
    }

-- a length of a record: at least 4, and even
pub record RecordLength (n : ℕ) : Type 0 where
  pub least : 4 ≤ n
  pub even : n % 2 ≡ 0

-- every row starts at an even length from 4 on and goes by steps of 2 or 4
regular : Row → Bool
regular r = leb 4 r.least && eqb (r.least % 2) 0 && (eqb r.step 2 || eqb r.step 4)

all_regular : List Row → Bool
all_regular [] = true
all_regular (r ∷ rs) = regular r && all_regular rs

by_steps : (l n s : ℕ) (t : Bool) → eqb s 2 ≡ t → (t || eqb s 4) ≡ true → l ≤ n → l % 2 ≡ 0 → (n - l) % s ≡ 0 → n % 2 ≡ 0
by_steps l n s true e f h p q =
    let o : (n - l) % 2 ≡ 0 = rw (eqb-true s 2 e) at q in omega arith
by_steps l n s false e f h p q =
    let o : (n - l) % 4 ≡ 0 = rw (eqb-true s 4 f) at q in omega arith

regular_length : (r : Row) (n : ℕ) → regular r ≡ true → allows r n ≡ true → RecordLength n
unfolding regular
regular_length r n e f =
    let p = (and-eq-true_iff (leb 4 r.least && eqb (r.least % 2) 0) (eqb r.step 2 || eqb r.step 4)).0 e in
    let q = (and-eq-true_iff (leb 4 r.least) (eqb (r.least % 2) 0)).0 p.0 in
    let a = allowed_by r n f in
    let l : 4 ≤ r.least = leb-true 4 r.least q.0 in
    record {
      least = omega (arith, l, a.least);
      even = by_steps r.least n r.step (eqb r.step 2) refl p.1 a.least (eqb-true (r.least % 2) 0 q.1) a.step;
    }

length_of : (t : Bool) (r s : Row) (n : ℕ) → (allows r n ≡ true → RecordLength n) → (allows s n ≡ true → RecordLength n)
    → allows (cond t r s) n ≡ true → RecordLength n
length_of true r s n f g e = f e
length_of false r s n f g e = g e

length_in : (rs : List Row) (k n : ℕ) → all_regular rs ≡ true → allows (row_in rs k) n ≡ true → RecordLength n
unfolding all_regular row_in row
length_in [] k n e f = let a = allowed_by (row k 1 1 0) n f in absurd (omega (arith, a.least, a.greatest))
length_in (r ∷ rs) k n e f =
    let p = (and-eq-true_iff (regular r) (all_regular rs)).0 e in
    length_of (eqb k r.kind) r (row_in rs k) n (regular_length r n p.0) (length_in rs k n p.1) f

-- an allowed length is one of a record
pub allowed_length : (k n : ℕ) → allows (row_of k) n ≡ true → RecordLength n
unfolding row_of rows row all_regular regular
allowed_length k n e = length_in rows k n refl e

-- a record is its length, its kind and its fields
pub length_fields : (rec : List ℕ) → RecordLength (length rec) → length rec ≡ 4 + 2 * field_count rec
unfolding field_count
length_fields rec l = omega (arith, l.least, l.even)

-- the number of fields of a kind of fixed length, and of one with a range of lengths
module _ (rec : List ℕ) (k : ℕ) (e : allows (row_of k) (length rec) ≡ true) where
  pub fields_fixed : (n : ℕ) → (row_of k).least ≡ 4 + 2 * n → (row_of k).greatest ≡ 4 + 2 * n → field_count rec ≡ n
  unfolding field_count
  fields_fixed n p q = let a = allowed_by (row_of k) (length rec) e in omega (arith, a.least, a.greatest, p, q)

  pub fields_least : (n : ℕ) → (row_of k).least ≡ 4 + 2 * n → n ≤ field_count rec
  unfolding field_count
  fields_least n p = let a = allowed_by (row_of k) (length rec) e in omega (arith, a.least, p)

  pub fields_greatest : (n : ℕ) → (row_of k).greatest ≡ 4 + 2 * n → field_count rec ≤ n
  unfolding field_count
  fields_greatest n p = let a = allowed_by (row_of k) (length rec) e in omega (arith, a.greatest, p)

  -- a case: the scrutinee, and two fields for each clause
  pub fields_clauses : (row_of k).least ≡ 10 → (row_of k).step ≡ 4 → field_count rec ≡ 1 + 2 * clauses rec
  unfolding field_count clauses
  fields_clauses p q =
      let a = allowed_by (row_of k) (length rec) e in
      let s : (length rec - 10) % 4 ≡ 0 = rw (p, q) at a.step in
      omega (arith, a.least, p)
