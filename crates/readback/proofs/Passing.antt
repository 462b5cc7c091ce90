-- A record that is written as words passes the checks of a translation where its kind is due, its length allowed, its code and
-- counts in range, and what it names there.
use mathlib.Core.Path.{◌≡◌, refl, sym, ◌∙◌}
use Prim.Native.Nat.{ℕ, ◌+◌, ◌*◌, ◌-◌, ◌%◌, ◌≤◌, ◌<◌}
use mathlib.Core.List.{List, []}
use mathlib.Core.Bool.{Bool, true, false}
use native.Mathlib.Omega.{arith}
use lib.ListN.{length}
use lib.Dec.{ltb}
use borrow.Author.Tests.{le-leb, lt-ltb, eq-eqb}
use Rattle.definitions.specs.Bytes.{word, bytes_of}
use Rattle.definitions.specs.Records.{whole, start_of, record_at, record_of, kind_of}
use Rattle.definitions.specs.Kinds.{Row, row_of, allows}
use Rattle.definitions.specs.Numbers.{out_of_range}
use Rattle.definitions.specs.Layouts.{nodes, is_due}
use Rattle.definitions.specs.Shape.{operator_code, counts, shape}
use Rattle.definitions.specs.References.{from_first, from_second, every_other, child_count, children, child, names_in_range, in_range, references}
use Rattle.definitions.specs.Translate.{record_words}
use Rattle.definitions.specs.declared.Layout.TheVariants.{Translation}
use Rattle.definitions.specs.Verdict.{Accepted}
use Rattle.laws.proofs.Lists.{all_pass}
use Rattle.laws.proofs.Records.{whole_is, record_none, record_length_law, record_word}
use Rattle.laws.proofs.Verdicts.{require_true}
use Rattle.laws.proofs.Shape.{shape_accepted}
use Rattle.readback.proofs.Made.{record_bytes_law}
use Rattle.readback.proofs.Fields.{kind_read}

-- a row allows a length from its least to its greatest by its step
pub row_allows : (r : Row) (n : ℕ) → r.least ≤ n → n ≤ r.greatest → (n - r.least) % r.step ≡ 0 → allows r n ≡ true
unfolding allows
row_allows r n l g s = rw (le-leb r.least n l, le-leb n r.greatest g, eq-eqb ((n - r.least) % r.step) 0 s) refl

-- where a record is shown, it is whole
whole_by : (b : List ℕ) (at n : ℕ) (t : Bool) → whole b at ≡ t → length (record_at b at) ≡ n → 4 ≤ n → whole b at ≡ true
whole_by b at n true e l h = e
whole_by b at n false e l h =
    let z : [] ≡ record_at b at = record_none b at false (sym e) refl in
    let o : 0 ≡ n = rw (← z) at l in
    absurd (omega arith)

-- record r of the file, as it was written, and what the checks ask of it
pub record Passes (t : List ℕ) (r k : ℕ) (fs : List ℕ) : Type 0 where
  pub there : record_of t r ≡ bytes_of (record_words k fs)
  pub small : k < 65536
  pub due : is_due Translation t r k ≡ true
  pub allowed : allows (row_of k) (4 + 2 * length fs) ≡ true
  pub code : operator_code (bytes_of (record_words k fs)) ≡ true
  pub counts : counts Translation t r (bytes_of (record_words k fs)) ≡ true
  pub named : in_range t r (bytes_of (record_words k fs)) ≡ true

module _ (t : List ℕ) (r k : ℕ) (fs : List ℕ) (p : Passes t r k fs) where
  shown : record_at t (start_of t r) ≡ bytes_of (record_words k fs)
  unfolding record_of
  shown = p.there

  shown_length : length (record_at t (start_of t r)) ≡ 4 + 2 * length fs
  shown_length = rw shown (record_bytes_law k fs)

  is_there : whole t (start_of t r) ≡ true
  is_there = whole_by t (start_of t r) (4 + 2 * length fs) (whole t (start_of t r)) refl shown_length (omega arith)

  length_there : 4 + 2 * length fs ≡ word t (start_of t r)
  length_there = sym shown_length ∙ record_length_law t (start_of t r) is_there

  kind_there : k ≡ word t (start_of t r + 2)
  kind_there =
      let e : kind_of (record_at t (start_of t r)) ≡ k = rw shown (kind_read k fs p.small) in
      sym e ∙ record_word t (start_of t r) 2 is_there (omega (arith, length_there))

  pub passes_shape : shape Translation t r ≡ Accepted
  unfolding shape
  passes_shape =
      let at = start_of t r in
      let w = whole_is t at is_there in
      let i = w.inside in
      let n = length_there in
      sym (shape_accepted Translation t r at (omega (arith, i)) (omega (arith, i, n)) k (4 + 2 * length fs) kind_there length_there
      true (sym p.due) refl true (sym p.allowed) refl (omega (arith, i, n)) (bytes_of (record_words k fs)) (sym shown)
      true (sym p.code) refl true (sym p.counts) refl)

  pub passes_references : references t r ≡ Accepted
  unfolding references
  passes_references = require_true (in_range t r (record_of t r)) out_of_range r (rw p.there p.named)

-- what a record names: nodes, and the rest
pub names_there : (t : List ℕ) (r : ℕ) (rec : List ℕ) → ((j : ℕ) → j < children rec → child rec j < nodes t)
    → names_in_range t r rec ≡ true
    → in_range t r rec ≡ true
unfolding in_range
names_there t r rec f e =
    rw (all_pass (children rec) (λ j. ltb (child rec j) (nodes t)) (λ j h. lt-ltb (child rec j) (nodes t) (f j h)), e) refl

-- a record of a kind that names no node
pub no_mention : (rec : List ℕ) (k : ℕ) → kind_of rec ≡ k → every_other k ≡ false → from_first k ≡ false → from_second k ≡ false
    → children rec ≡ 0
unfolding children child_count
no_mention rec k e o f s = rw (e, o, f, s) refl
