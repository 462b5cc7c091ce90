-- The record of each node of a translation whose shape is accepted: its kind, and how many fields it has.
use mathlib.Core.Path.{◌≡◌, refl}
use Prim.Native.Nat.{ℕ, ◌+◌, ◌*◌, ◌≤◌, ◌<◌}
use mathlib.Core.List.{List, []}
use mathlib.Core.Bool.{Bool, true, false}
use native.Mathlib.Omega.{arith}
use lib.ListN.{length}
use lib.Dec.{ltb}
use borrow.Author.Tests.{ltb-true, ltb-false}
use Rattle.definitions.specs.Bytes.{word, signed}
use Rattle.definitions.specs.Records.{kind_of, field, field_count}
use Rattle.definitions.specs.TranslationKinds
use Rattle.definitions.specs.Kinds.{row, rows, row_in, row_of, allows}
use Rattle.definitions.specs.Layouts.{nodes, first_node, node_record}
use Rattle.definitions.specs.References.{clauses}
use Rattle.definitions.specs.NodeFields.{fields_from, clause_list}
use Rattle.definitions.specs.TranslationNodes.{TranslationNode, number, reading, formal, select, operator, conditional, call, tuple, case_of, translation_node, translation_node_of}
use Rattle.definitions.specs.Shape.{file_shape}
use Rattle.definitions.specs.declared.Layout.TheVariants.{Translation}
use Rattle.definitions.specs.Verdict.{Accepted}
use Rattle.accepted.proofs.Choices.{either}
use Rattle.accepted.proofs.Widths.{fields_fixed, fields_least, fields_greatest, fields_clauses}
use Rattle.accepted.proofs.Records.{record_past, length_allowed}
use Rattle.accepted.proofs.Sections.{NodeKind, node_kind_law}

-- a record with the node that it is
pub data TranslationRecord (rec : List ℕ) : TranslationNode → Type 0 where
  is_number : kind_of rec ≡ TranslationKinds.number → field_count rec ≡ 2 → TranslationRecord rec (number (signed rec 4))
  is_reading : kind_of rec ≡ TranslationKinds.reading → field_count rec ≡ 1 → TranslationRecord rec (reading (field rec 0))
  is_formal : kind_of rec ≡ TranslationKinds.formal → field_count rec ≡ 1 → TranslationRecord rec (formal (field rec 0))
  is_select : kind_of rec ≡ TranslationKinds.select → field_count rec ≡ 2
      → TranslationRecord rec (select (field rec 0) (field rec 1))
  is_operator : kind_of rec ≡ TranslationKinds.operator → field_count rec ≡ 3
      → TranslationRecord rec (operator (field rec 0) (field rec 1) (field rec 2))
  is_conditional : kind_of rec ≡ TranslationKinds.conditional → field_count rec ≡ 3
      → TranslationRecord rec (conditional (field rec 0) (field rec 1) (field rec 2))
  is_call : kind_of rec ≡ TranslationKinds.call → field_count rec ≡ 2 → TranslationRecord rec (call (field rec 0) (field rec 1))
  -- a tag, and at most eight fields
  is_tuple : kind_of rec ≡ TranslationKinds.tuple → 1 ≤ field_count rec → field_count rec ≤ 9
      → TranslationRecord rec (tuple (field rec 0) (fields_from rec 1))
  -- a scrutinee, and from 1 to 64 clauses
  is_case_law : kind_of rec ≡ TranslationKinds.case_of → field_count rec ≡ 1 + 2 * clauses rec → 1 ≤ clauses rec → clauses rec ≤ 64
      → TranslationRecord rec (case_of (field rec 0) (clause_list rec))

module _ (rec : List ℕ) (allowed : allows (row_of (kind_of rec)) (length rec) ≡ true) where
  case_record : kind_of rec ≡ TranslationKinds.case_of → TranslationRecord rec (case_of (field rec 0) (clause_list rec))
  unfolding row_of rows row_in row
  case_record e =
      let a : allows (row_of TranslationKinds.case_of) (length rec) ≡ true = rw e at allowed in
      let c = fields_clauses rec TranslationKinds.case_of a refl refl in
      is_case_law e c (omega (arith, c, fields_least rec TranslationKinds.case_of a 3 refl)) (omega (arith, c, fields_greatest rec TranslationKinds.case_of a 129 refl))

  pub translation_record : NodeKind Translation (kind_of rec) → TranslationRecord rec (translation_node rec)
  unfolding translation_node row_of rows row_in row
  translation_record d =
      let k = kind_of rec in
      let P = TranslationRecord rec in
      either P k TranslationKinds.number _ _ d.least (λ e. is_number e (fields_fixed rec TranslationKinds.number (rw e at allowed) 2 refl refl))
      (λ h. either P k TranslationKinds.reading _ _ h (λ e. is_reading e (fields_fixed rec TranslationKinds.reading (rw e at allowed) 1 refl refl))
      (λ h. either P k TranslationKinds.formal _ _ h (λ e. is_formal e (fields_fixed rec TranslationKinds.formal (rw e at allowed) 1 refl refl))
      (λ h. either P k TranslationKinds.select _ _ h (λ e. is_select e (fields_fixed rec TranslationKinds.select (rw e at allowed) 2 refl refl))
      (λ h. either P k TranslationKinds.operator _ _ h (λ e. is_operator e (fields_fixed rec TranslationKinds.operator (rw e at allowed) 3 refl refl))
      (λ h. either P k TranslationKinds.conditional _ _ h (λ e. is_conditional e (fields_fixed rec TranslationKinds.conditional (rw e at allowed) 3 refl refl))
      (λ h. either P k TranslationKinds.call _ _ h (λ e. is_call e (fields_fixed rec TranslationKinds.call (rw e at allowed) 2 refl refl))
      (λ h. either P k TranslationKinds.tuple _ _ h (λ e. is_tuple e (fields_least rec TranslationKinds.tuple (rw e at allowed) 1 refl) (fields_greatest rec
      TranslationKinds.tuple (rw e at allowed) 9 refl))
      (λ h. case_record (omega (arith, h, d.greatest))))))))))

pub translation_node_record : (b : List ℕ) → file_shape Translation b ≡ Accepted → (k : ℕ) → k < nodes b
    → TranslationRecord (node_record b k) (translation_node_of b k)
unfolding translation_node_of
translation_node_record b e k h =
    translation_record (node_record b k) (length_allowed Translation b e (first_node b + k) (omega arith)) (node_kind_law Translation b e k h)

pub translation_node_is : (b : List ℕ) → file_shape Translation b ≡ Accepted → (k : ℕ) → k < nodes b → {nd : TranslationNode}
    → translation_node_of b k ≡ nd → TranslationRecord (node_record b k) nd
translation_node_is b s k h e = rw e at (translation_node_record b s k h)

-- what stands past the last node is no reading
no_record : {i : ℕ} → translation_node [] ≡ reading i → ⊥
unfolding translation_node word
no_record e = let z : ◌≡◌ {A = ℕ} 0 1 = cc in omega arith

pub reading_inside : (b : List ℕ) → file_shape Translation b ≡ Accepted → (k : ℕ) {i : ℕ} → translation_node_of b k ≡ reading i → k < nodes b
unfolding translation_node_of
reading_inside b s k e = from (ltb k (nodes b)) refl
  where
    from : (x : Bool) → ltb k (nodes b) ≡ x → k < nodes b
    from true q = ltb-true k (nodes b) q
    from false q = let h = ltb-false k (nodes b) q in absurd (no_record (rw (record_past Translation b s (first_node b + k) (omega arith)) at e))
