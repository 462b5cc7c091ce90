-- A sheet without types is read as before document 02, request 11, and a sheet that was accepted then has no types.
use mathlib.Core.Path.{◌≡◌, refl, sym, ap, ◌∙◌, fun_ext}
use Prim.Native.Nat.{ℕ, ◌+◌, ◌≤◌, ◌<◌}
use mathlib.Core.List.{List}
use mathlib.Core.Bool.{Bool, true, false, cond, ◌&&◌, and-eq-true_iff}
use native.Mathlib.Omega.{arith}
use lib.ListN.{length}
use lib.Dec.{leb, ltb, eqb}
use borrow.Author.Tests.{eqb-true, ne_eqb, leb-true}
use Rattle.definitions.specs.Bytes.{word}
use Rattle.definitions.specs.Records.{whole, start_of, record_at, kind_of}
use Rattle.definitions.specs.SheetKinds
use Rattle.definitions.specs.Kinds.{Row, row, rows, row_in, row_of, allows}
use Rattle.definitions.specs.Sizes.{sheet_bytes}
use Rattle.definitions.specs.Numbers.{truncated, oversize, bad_record, bad_count}
use Rattle.definitions.specs.Verdicts.{◌and_then◌, require, first_of}
use Rattle.definitions.specs.Layouts.{is_typed, items, functions, first_node, due, constructor_kind, function_kind, section_kind, is_due}
use Rattle.definitions.specs.Shape.{counts, operator_code, shape_at, shape, file_shape}
use Rattle.definitions.specs.Types.{types}
use Rattle.definitions.specs.Checks.{checks_to_six, sheet_verdict}
use Rattle.definitions.specs.declared.Layout.TheVariants.{Sheet}
use Rattle.definitions.specs.Verdict.{Verdict, Accepted, Refused}
use Rattle.laws.proofs.Records.{whole_is, is_whole, next_whole, record_none, record_word}
use Rattle.laws.proofs.Verdicts.{both_accepted, required, first_each}
use Rattle.laws.proofs.Walk.{head_ranges}
use Rattle.accepted.proofs.Widths.{allowed_by}
use Rattle.typed_sheets.specs.UntypedKinds.{UntypedKind}
use Rattle.typed_sheets.specs.ReaderBefore.{row_of_before, section_kind_before, is_due_before, counts_before, shape_at_before, shape_before, file_shape_before, sheet_verdict_before}
use Rattle.typed_sheets.proofs.UntypedKinds.{untyped_kind, untyped_sheet}

-- the row and the counts of a kind without types are as before
same_row : (k : ℕ) → UntypedKind k → row_of k ≡ row_of_before k
unfolding row_of_before
same_row k u = rw (ne_eqb k SheetKinds.typed_constructor u.no_constructor, ne_eqb k SheetKinds.typed_function u.no_function) refl

same_counts : (b : List ℕ) (r : ℕ) (rec : List ℕ) → UntypedKind (kind_of rec) → counts Sheet b r rec ≡ counts_before b r rec
unfolding counts counts_before
same_counts b r rec u =
    rw (ne_eqb (kind_of rec) SheetKinds.typed_constructor u.no_constructor, ne_eqb (kind_of rec) SheetKinds.typed_function u.no_function) refl

-- every kind that was due was such a kind
pub due_untyped : (b : List ℕ) (r k : ℕ) → is_due_before b r k ≡ true → UntypedKind k
unfolding is_due_before section_kind_before
due_untyped b r k e = by (eqb r 0) (ltb r (first_node b)) (leb r (items b)) e
  where
    by : (s t u : Bool) → cond s (eqb k SheetKinds.head) (cond t (eqb k (cond u SheetKinds.constructor SheetKinds.function)) (leb SheetKinds.number k && leb k (SheetKinds.number + 8))) ≡ true
        → UntypedKind k
    by true t u e = rw (eqb-true k SheetKinds.head e) (untyped_kind SheetKinds.head refl refl)
    by false true true e = rw (eqb-true k SheetKinds.constructor e) (untyped_kind SheetKinds.constructor refl refl)
    by false true false e = rw (eqb-true k SheetKinds.function e) (untyped_kind SheetKinds.function refl refl)
    by false false u e =
        let l = leb-true SheetKinds.number k ((and-eq-true_iff (leb SheetKinds.number k) _).0 e).0 in
        record { no_constructor = λ p. omega (arith, l, p); no_function = λ p. omega (arith, l, p) }

-- a record that is shown is of the kind that stands at its place
shown_untyped : (b : List ℕ) (at : ℕ) → UntypedKind (word b (at + 2)) → UntypedKind (kind_of (record_at b at))
unfolding word
shown_untyped b at u = by (whole b at) refl
  where
    by : (t : Bool) → whole b at ≡ t → UntypedKind (kind_of (record_at b at))
    by true e = rw (record_word b at 2 e (omega (arith, (whole_is b at e).least))) u
    by false e = rw (← record_none b at false (sym e) refl) (untyped_kind 0 refl refl)

-- tests and verdicts of which the second matters only where the first passes
and_same : (t u v : Bool) → (t ≡ true → u ≡ v) → (t && u) ≡ (t && v)
and_same true u v f = f refl
and_same false u v f = refl

then_same : (v w x : Verdict) → (v ≡ Accepted → w ≡ x) → (v and_then w) ≡ (v and_then x)
unfolding ◌and_then◌
then_same Accepted w x f = f refl
then_same (Refused n p) w x f = refl

then_nothing : (v : Verdict) → (v and_then Accepted) ≡ v
unfolding ◌and_then◌
then_nothing Accepted = refl
then_nothing (Refused n p) = refl

-- what is asked of record r before its counts, and what its passing says
module _ (b : List ℕ) (r at : ℕ) where
  abbrev before_counts : Verdict
  before_counts =
      require (leb (at + 4) (length b)) truncated r
      and_then require (is_due_before b r (word b (at + 2)) && allows (row_of_before (word b (at + 2))) (word b at)) bad_record r
      and_then require (leb (at + word b at) (length b)) truncated r
      and_then require (operator_code (record_at b at)) bad_record r

  record Passed : Type 0 where
    due : is_due_before b r (word b (at + 2)) ≡ true
    allowed : allows (row_of_before (word b (at + 2))) (word b at) ≡ true
    inside : at + word b at ≤ length b

  passed : before_counts ≡ Accepted → Passed
  passed e =
      let q = both_accepted _ _ (both_accepted _ _ e).0 in
      let p = (and-eq-true_iff _ _).0 (required _ bad_record r (both_accepted _ _ q.0).1) in
      record { due = p.0; allowed = p.1; inside = leb-true _ _ (required _ truncated r q.1) }

module _ (b : List ℕ) (free : is_typed b ≡ false) where
  pub same_due : (r k : ℕ) → is_due Sheet b r k ≡ is_due_before b r k
  unfolding is_due section_kind constructor_kind function_kind is_due_before section_kind_before
  same_due r k = rw free refl

  same_kind : (r k n : ℕ) → (is_due Sheet b r k && allows (row_of k) n) ≡ (is_due_before b r k && allows (row_of_before k) n)
  same_kind r k n =
      rw (same_due r k)
      (and_same (is_due_before b r k) _ _ (λ e. ap (λ (w : Row). allows w n) (same_row k (due_untyped b r k e))))

  same_shape : (r at : ℕ) → shape_at Sheet b r at ≡ shape_at_before b r at
  unfolding shape_at shape_at_before
  same_shape r at =
      rw (same_kind r (word b (at + 2)) (word b at))
      (then_same (before_counts b r at) _ _
      (λ e. ap (λ t. require t bad_count r) (same_counts b r (record_at b at) (shown_untyped b at (due_untyped b r _ (passed b r at e).due)))))

  same_file_shape : file_shape Sheet b ≡ file_shape_before b
  unfolding file_shape shape file_shape_before shape_before
  same_file_shape =
      ap
      (λ (each : ℕ → Verdict). require (leb (length b) sheet_bytes) oversize 0 and_then first_of (due b) each
      and_then require (eqb (start_of b (due b)) (length b)) bad_record (due b))
      (fun_ext (λ r. same_shape r (start_of b r)))

-- an untyped sheet is read as before
pub read_as_before : (b : List ℕ) → is_typed b ≡ false → sheet_verdict b ≡ sheet_verdict_before b
unfolding sheet_verdict checks_to_six sheet_verdict_before types
read_as_before b free = rw (free, same_file_shape b free) (then_nothing _)

-- a sheet that was accepted
module _ (b : List ℕ) (accepted : sheet_verdict_before b ≡ Accepted) where
  file_shaped : file_shape_before b ≡ Accepted
  unfolding sheet_verdict_before
  file_shaped = (both_accepted _ _ (both_accepted _ _ (both_accepted _ _ accepted).0).0).0

  module _ (r : ℕ) (h : r < due b) where
    shaped : (before_counts b r (start_of b r) ≡ Accepted) × (require (counts_before b r (record_at b (start_of b r))) bad_count r ≡ Accepted)
    unfolding file_shape_before shape_before shape_at_before
    shaped = both_accepted _ _ (first_each (due b) (shape_before b) (both_accepted _ _ (both_accepted _ _ file_shaped).0).1 r h)

    record_passed : Passed b r (start_of b r)
    record_passed = passed b r (start_of b r) shaped.0

  -- the head is 12 bytes long, and a record follows
  head_long : word b 0 ≡ 12
  unfolding is_due_before row_of_before row_of rows row_in row start_of
  head_long =
      let p = record_passed 0 (omega arith) in
      let k : word b 2 ≡ SheetKinds.head = eqb-true (word b 2) SheetKinds.head p.due in
      let l = allowed_by (row_of_before SheetKinds.head) (word b 0) (rw k at p.allowed) in
      omega (arith, l.least, l.greatest)

  second_start : start_of b 1 ≡ 12
  unfolding start_of
  second_start =
      let w = is_whole b 0 (record { least = omega (arith, head_long); inside = (record_passed 0 (omega arith)).inside }) in
      sym (next_whole b 0 12 true (sym w) refl (sym head_long))

  functions_counted : 1 ≤ functions b
  unfolding counts counts_before
  functions_counted = (head_ranges Sheet b (record_at b (start_of b 0)) (required _ bad_count 0 (shaped 0 (omega arith)).1)).function

  no_types : is_typed b ≡ false
  no_types = untyped_sheet b (rw second_start at (due_untyped b 1 _ (record_passed 1 (omega (arith, functions_counted))).due))

-- a sheet that was accepted has no types, and is accepted
pub accepted_before : (b : List ℕ) → sheet_verdict_before b ≡ Accepted → (is_typed b ≡ false) × (sheet_verdict b ≡ Accepted)
accepted_before b accepted =
    let free = no_types b accepted in
    (free, read_as_before b free ∙ accepted)
