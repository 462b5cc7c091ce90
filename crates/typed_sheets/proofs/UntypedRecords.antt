-- The records of a sheet with its types removed: for each record of the sheet one that is whole, no longer and of a kind without types.
use mathlib.Core.Path.{◌≡◌, refl, sym, ap, ◌∙◌}
use Prim.Native.Nat.{ℕ, ◌+◌, ◌*◌, ◌≤◌, ◌<◌}
use mathlib.Core.List.{List, [], ◌∷◌}
use mathlib.Core.Bool.{true, false}
use native.Mathlib.Omega.{arith}
use native.Mathlib.Decide.{dec_lt}
use lib.ListN.{length}
use Rattle.definitions.specs.Bytes.{word, bytes_of}
use Rattle.definitions.specs.Records.{whole, start_of, record_of, kind_of, field}
use Rattle.definitions.specs.SheetKinds
use Rattle.definitions.specs.Kinds.{row, rows, row_in, row_of, allows}
use Rattle.definitions.specs.Lists.{joined}
use Rattle.definitions.specs.Layouts.{is_typed, items, functions, nodes, first_node, due, node_record, node_count}
use Rattle.definitions.specs.References.{parameters, arity}
use Rattle.definitions.specs.Shape.{file_shape}
use Rattle.definitions.specs.Translate.{record_words}
use Rattle.definitions.specs.TypesRemoved.{untyped_record, types_removed}
use Rattle.definitions.specs.declared.Layout.TheVariants.{Sheet}
use Rattle.definitions.specs.Verdict.{Accepted}
use Rattle.laws.proofs.Records.{whole_is, record_length_law, record_word}
use Rattle.laws.proofs.Joined.{joined_length}
use Rattle.laws.proofs.Words.{word_read}
use Rattle.accepted.proofs.Widths.{allowed_by}
use Rattle.accepted.proofs.Records.{records_fill, record_past, record_whole, length_allowed, record_fields, start_sum}
use Rattle.accepted.proofs.Head.{head_kind_law, functions_least}
use Rattle.accepted.proofs.SectionFields.{head_fields}
use Rattle.accepted.proofs.Sections.{typed_constructor_kind, typed_function_kind, node_kind_law}
use Rattle.readback.proofs.Made.{record_bytes_law}
use Rattle.readback.proofs.Fields.{kind_read}
use Rattle.readback.proofs.Totals.{sum_below}
use Rattle.typed_sheets.specs.UntypedKinds.{UntypedKind, Untyping, a_constructor, a_function, untyped}
use Rattle.typed_sheets.proofs.UntypedKinds.{untyped_kind, untyped_sheet, kept, nothing_kept, untyping}
use Rattle.typed_sheets.proofs.JoinedRecords.{WholeRecord, joined_start, joined_whole, joined_record, joined_past}

-- a record that is written as words is whole
written_whole : (k : ℕ) (fs : List ℕ) → length fs < 32766 → WholeRecord (bytes_of (record_words k fs))
unfolding record_words
written_whole k fs h =
    record {
      least = rw (record_bytes_law k fs) (omega arith);
      says = word_read ((4 + 2 * length fs) ∷ k ∷ fs) 0 (omega arith) ∙ sym (record_bytes_law k fs);
    }

-- a record without its types is whole where the record is, no longer, and of a kind without types
untyped_whole : {rec other : List ℕ} → Untyping rec other → WholeRecord rec → WholeRecord other
untyped_whole {rec} (a_constructor e) w = written_whole SheetKinds.constructor (field rec 0 ∷ []) (omega arith)
untyped_whole {rec} (a_function e) w = written_whole SheetKinds.function (field rec 0 ∷ field rec 1 ∷ []) (omega arith)
untyped_whole (untyped u) w = w

untyped_shorter : {rec other : List ℕ} → Untyping rec other → allows (row_of (kind_of rec)) (length rec) ≡ true → length other ≤ length rec
unfolding row_of rows row_in row
untyped_shorter {rec} (a_constructor e) a =
    let l = allowed_by (row_of SheetKinds.typed_constructor) (length rec) (rw e at a) in
    omega (arith, record_bytes_law SheetKinds.constructor (field rec 0 ∷ []), l.least)
untyped_shorter {rec} (a_function e) a =
    let l = allowed_by (row_of SheetKinds.typed_function) (length rec) (rw e at a) in
    omega (arith, record_bytes_law SheetKinds.function (field rec 0 ∷ field rec 1 ∷ []), l.least)
untyped_shorter (untyped u) a = omega arith

kind_untyped : {rec other : List ℕ} → Untyping rec other → UntypedKind (kind_of other)
kind_untyped {rec} (a_constructor e) =
    rw (kind_read SheetKinds.constructor (field rec 0 ∷ []) (omega arith)) (untyped_kind SheetKinds.constructor refl refl)
kind_untyped {rec} (a_function e) =
    rw (kind_read SheetKinds.function (field rec 0 ∷ field rec 1 ∷ []) (omega arith)) (untyped_kind SheetKinds.function refl refl)
kind_untyped (untyped u) = u

module _ (b : List ℕ) (shape : file_shape Sheet b ≡ Accepted) where
  own_whole : (r : ℕ) → r < due b → WholeRecord (record_of b r)
  unfolding record_of
  own_whole r h =
      let w = record_whole Sheet b shape r h in
      let l = record_length_law b (start_of b r) w in
      let i = whole_is b (start_of b r) w in
      let z : start_of b r + 0 ≡ start_of b r = omega arith in
      record {
        least = rw l i.least;
        says = record_word b (start_of b r) 0 w (omega (arith, i.least)) ∙ rw z (sym l);
      }

  untyped_each : (r : ℕ) → r < due b → WholeRecord (untyped_record (record_of b r))
  untyped_each r h = untyped_whole (untyping (record_of b r)) (own_whole r h)

  -- where the records start, that they fill the file, and what they are
  removed_start : (r : ℕ) → r ≤ due b → start_of (types_removed b) r ≡ length (joined r (λ i. untyped_record (record_of b i)))
  unfolding types_removed
  removed_start r h = joined_start (due b) (λ i. untyped_record (record_of b i)) untyped_each r h

  pub removed_filled : start_of (types_removed b) (due b) ≡ length (types_removed b)
  unfolding types_removed
  removed_filled = joined_start (due b) (λ i. untyped_record (record_of b i)) untyped_each (due b) (omega arith)

  pub removed_whole : (r : ℕ) → r < due b → whole (types_removed b) (start_of (types_removed b) r) ≡ true
  unfolding types_removed
  removed_whole r h = joined_whole (due b) (λ i. untyped_record (record_of b i)) untyped_each r h

  pub removed_record : (r : ℕ) → record_of (types_removed b) r ≡ untyped_record (record_of b r)
  unfolding types_removed
  removed_record r =
      elim (dec_lt r (due b)) [
        | yes h ↦ joined_record (due b) (λ i. untyped_record (record_of b i)) untyped_each r h
        | no h ↦
            joined_past (due b) (λ i. untyped_record (record_of b i)) untyped_each r (omega (arith, h))
            ∙ rw (record_past Sheet b shape r (omega (arith, h))) (sym nothing_kept)
      ]

  -- the file is no longer than the sheet
  pub removed_shorter : length (types_removed b) ≤ length b
  unfolding types_removed
  removed_shorter =
      let p = joined_length (λ i. untyped_record (record_of b i)) (due b) in
      let q = sum_below (due b) (λ i. length (untyped_record (record_of b i))) (λ i. length (record_of b i))
      (λ i h. untyped_shorter (untyping (record_of b i)) (length_allowed Sheet b shape i h)) in
      omega (arith, p, q, start_sum Sheet b shape (due b) (omega arith), records_fill Sheet b shape)

  -- the head and the nodes stay
  pub head_stays : record_of (types_removed b) 0 ≡ record_of b 0
  head_stays = removed_record 0 ∙ kept (record_of b 0) (rw (head_kind_law Sheet b shape) (untyped_kind SheetKinds.head refl refl))

  pub node_stays : (k : ℕ) → record_of (types_removed b) (first_node b + k) ≡ node_record b k
  node_stays k =
      removed_record (first_node b + k)
      ∙ elim (dec_lt k (nodes b)) [
        | yes h ↦
            let n = node_kind_law Sheet b shape k h in
            kept (node_record b k) (record { no_constructor = λ e. omega (arith, e, n.least); no_function = λ e. omega (arith, e, n.least) })
        | no h ↦ rw (record_past Sheet b shape (first_node b + k) (omega (arith, h))) nothing_kept
      ]

  pub head_length : length (record_of b 0) ≡ 12
  head_length = omega (arith, record_fields Sheet b shape 0 (omega arith), head_fields Sheet b shape)

  -- it is not typed
  second_kind : word (types_removed b) 14 ≡ kind_of (untyped_record (record_of b 1))
  unfolding joined record_of
  second_kind =
      let t = types_removed b in
      let s = removed_start 1 (omega (arith, functions_least Sheet b shape)) in
      let n : start_of t 1 ≡ 12 = s ∙ ap length (sym (removed_record 0) ∙ head_stays) ∙ head_length in
      let w = removed_whole 1 (omega (arith, functions_least Sheet b shape)) in
      let k = record_word t (start_of t 1) 2 w (omega (arith, (whole_is t (start_of t 1) w).least)) in
      ap (λ at. word t (at + 2)) (sym n) ∙ sym k ∙ ap kind_of (removed_record 1)

  pub no_types_left : is_typed (types_removed b) ≡ false
  no_types_left = untyped_sheet (types_removed b) (rw second_kind (kind_untyped (untyping (record_of b 1))))

-- the records without types of a constructor and of a function
abbrev pub constructor_bytes : List ℕ → ℕ → List ℕ
constructor_bytes b c = bytes_of (record_words SheetKinds.constructor (arity b c ∷ []))

abbrev pub function_bytes : List ℕ → ℕ → List ℕ
function_bytes b f = bytes_of (record_words SheetKinds.function (parameters b f ∷ node_count Sheet b f ∷ []))

module _ (b : List ℕ) (shape : file_shape Sheet b ≡ Accepted) (typed : is_typed b ≡ true) where
  pub constructor_untyped : (c : ℕ) → c < items b → record_of (types_removed b) (1 + c) ≡ constructor_bytes b c
  unfolding untyped_record
  constructor_untyped c h = removed_record b shape (1 + c) ∙ rw (typed_constructor_kind b shape c h typed) refl

  pub function_untyped : (f : ℕ) → f < functions b → record_of (types_removed b) (1 + items b + f) ≡ function_bytes b f
  unfolding untyped_record
  function_untyped f h = removed_record b shape (1 + items b + f) ∙ rw (typed_function_kind b shape f h typed) refl
