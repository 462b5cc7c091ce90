-- What an accepted shape says of the file and of each record that is due, in a sheet and in a translation alike: the
-- records fill the file, and each is whole, of a kind that is due, of an allowed length, with its code and counts in range.
use mathlib.Core.Path.{◌≡◌, refl, ◌∙◌}
use Prim.Native.Nat.{ℕ, zero, suc, ◌+◌, ◌*◌, ◌-◌, ◌≤◌, ◌<◌}
use mathlib.Core.List.{List, []}
use mathlib.Core.Bool.{true, false, ◌&&◌, and-false}
use native.Mathlib.Omega.{arith}
use native.Mathlib.Nat.{zero-add, suc-add}
use lib.ListN.{length}
use lib.Dec.{leb, eqb}
use borrow.Author.Tests.{leb-true, eqb-true, lt-leb}
use Rattle.definitions.specs.Bytes.{word}
use Rattle.definitions.specs.Records.{whole, next, start_of, record_at, record_of, kind_of, field_count}
use Rattle.definitions.specs.Kinds.{row_of, allows}
use Rattle.definitions.specs.Lists.{sum_of}
use Rattle.definitions.specs.Numbers.{oversize, bad_record}
use Rattle.definitions.specs.Verdicts.{first_of}
use Rattle.definitions.specs.Layouts.{due, is_due}
use Rattle.definitions.specs.Shape.{file_limit, counts, operator_code, shape, file_shape}
use Rattle.definitions.specs.declared.Layout.{Layout}
use Rattle.definitions.specs.Verdict.{Accepted}
use Rattle.laws.proofs.Records.{whole_is, record_length_law, record_word}
use Rattle.laws.proofs.Walk.{Shaped, shaped}
use Rattle.laws.proofs.Verdicts.{both_accepted, required, first_each}
use Rattle.accepted.proofs.Widths.{allowed_length, length_fields}

-- what the checks of a file's shape say
pub record FileShaped (y : Layout) (b : List ℕ) : Type 0 where
  pub size : leb (length b) (file_limit y) ≡ true
  pub each : first_of (due b) (shape y b) ≡ Accepted
  pub filled : eqb (start_of b (due b)) (length b) ≡ true

file_shaped : (y : Layout) (b : List ℕ) → file_shape y b ≡ Accepted → FileShaped y b
unfolding file_shape
file_shaped y b e =
    let p = both_accepted _ _ e in
    let q = both_accepted _ _ p.0 in
    record { size = required _ oversize 0 q.0; each = q.1; filled = required _ bad_record (due b) p.1 }

-- no whole record stands at a file's end
end_bare : (b : List ℕ) → whole b (length b) ≡ false
unfolding whole
end_bare b = by_word (word b (length b))
  where
    by_word : (n : ℕ) → (leb 4 n && leb (length b + n) (length b)) ≡ false
    by_word zero = refl
    by_word (suc n) = rw (lt-leb (length b + suc n) (length b) (omega arith), and-false) refl

module _ (y : Layout) (b : List ℕ) (accepted : file_shape y b ≡ Accepted) where
  -- the file is within its size
  pub within_limit : length b ≤ file_limit y
  within_limit = leb-true (length b) (file_limit y) (file_shaped y b accepted).size

  -- the records that are due fill it
  pub records_fill : start_of b (due b) ≡ length b
  records_fill = eqb-true (start_of b (due b)) (length b) (file_shaped y b accepted).filled

  -- and past them there is none
  start_past : (n : ℕ) → start_of b (n + due b) ≡ length b
  unfolding start_of next
  start_past zero = rw zero-add records_fill
  start_past (suc n) = rw (suc-add n (due b), start_past n, end_bare b) refl

  pub record_past : (r : ℕ) → due b ≤ r → record_of b r ≡ []
  unfolding record_of record_at
  record_past r h = let e : r - due b + due b ≡ r = omega arith in rw (← e, start_past (r - due b), end_bare b) refl

  module _ (r : ℕ) (h : r < due b) where
    -- the checks of record r
    checked : Shaped y b r (start_of b r)
    unfolding shape
    checked = shaped y b r (start_of b r) (first_each (due b) (shape y b) (file_shaped y b accepted).each r h)

    pub record_whole : whole b (start_of b r) ≡ true
    record_whole = checked.whole

    kind_read : kind_of (record_of b r) ≡ word b (start_of b r + 2)
    unfolding record_of
    kind_read =
        let w = whole_is b (start_of b r) record_whole in
        record_word b (start_of b r) 2 record_whole (omega (arith, w.least))

    pub kind_due : is_due y b r (kind_of (record_of b r)) ≡ true
    kind_due = rw kind_read checked.due

    pub length_allowed : allows (row_of (kind_of (record_of b r))) (length (record_of b r)) ≡ true
    unfolding record_of
    length_allowed = rw (kind_read, record_length_law b (start_of b r) record_whole) checked.allowed

    pub code_right : operator_code (record_of b r) ≡ true
    unfolding record_of
    code_right = checked.code

    pub counts_right : counts y b r (record_of b r) ≡ true
    unfolding record_of
    counts_right = checked.counts

    -- a record is its length, its kind and its fields
    pub record_fields : length (record_of b r) ≡ 4 + 2 * field_count (record_of b r)
    record_fields = length_fields (record_of b r) (allowed_length (kind_of (record_of b r)) (length (record_of b r)) length_allowed)

    -- the next record starts where it ends
    pub record_next : start_of b (suc r) ≡ start_of b r + length (record_of b r)
    unfolding start_of next record_of
    record_next = rw (record_whole, record_length_law b (start_of b r) record_whole) refl

  -- a record starts after the lengths of those before it
  pub start_sum : (r : ℕ) → r ≤ due b → start_of b r ≡ sum_of r (λ i. length (record_of b i))
  unfolding start_of sum_of
  start_sum zero h = refl
  start_sum (suc r) h = record_next r h ∙ rw (start_sum r (omega arith)) refl
