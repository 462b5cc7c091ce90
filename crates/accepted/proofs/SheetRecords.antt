-- The record of each node of a sheet whose shape is accepted: its kind, and how many fields it has.
use mathlib.Core.Path.{◌≡◌, refl}
use Prim.Native.Nat.{ℕ, ◌+◌, ◌*◌, ◌≤◌, ◌<◌}
use mathlib.Core.List.{List}
use mathlib.Core.Bool.{true}
use native.Mathlib.Omega.{arith}
use lib.ListN.{length}
use Rattle.definitions.specs.Bytes.{signed}
use Rattle.definitions.specs.Records.{kind_of, field, field_count}
use Rattle.definitions.specs.SheetKinds
use Rattle.definitions.specs.Kinds.{row, rows, row_in, row_of, allows}
use Rattle.definitions.specs.Layouts.{nodes, first_node, node_record}
use Rattle.definitions.specs.References.{clauses}
use Rattle.definitions.specs.NodeFields.{fields_from, clause_list}
use Rattle.definitions.specs.SheetNodes.{SheetNode, number, reading, parameter, pattern_variable, operator, conditional, call, build, case_of, sheet_node, sheet_node_of}
use Rattle.definitions.specs.Shape.{file_shape}
use Rattle.definitions.specs.declared.Layout.TheVariants.{Sheet}
use Rattle.definitions.specs.Verdict.{Accepted}
use Rattle.accepted.proofs.Choices.{either}
use Rattle.accepted.proofs.Widths.{fields_fixed, fields_least, fields_greatest, fields_clauses}
use Rattle.accepted.proofs.Records.{length_allowed}
use Rattle.accepted.proofs.Sections.{NodeKind, node_kind_law}

-- a record with the node that it is
pub data SheetRecord (rec : List ℕ) : SheetNode → Type 0 where
  is_number : kind_of rec ≡ SheetKinds.number → field_count rec ≡ 2 → SheetRecord rec (number (signed rec 4))
  is_reading : kind_of rec ≡ SheetKinds.reading → field_count rec ≡ 1 → SheetRecord rec (reading (field rec 0))
  is_parameter : kind_of rec ≡ SheetKinds.parameter → field_count rec ≡ 1 → SheetRecord rec (parameter (field rec 0))
  is_pattern_variable : kind_of rec ≡ SheetKinds.pattern_variable → field_count rec ≡ 1
      → SheetRecord rec (pattern_variable (field rec 0))
  is_operator : kind_of rec ≡ SheetKinds.operator → field_count rec ≡ 3
      → SheetRecord rec (operator (field rec 0) (field rec 1) (field rec 2))
  is_conditional : kind_of rec ≡ SheetKinds.conditional → field_count rec ≡ 3
      → SheetRecord rec (conditional (field rec 0) (field rec 1) (field rec 2))
  -- a function, and at most eight arguments
  is_call : kind_of rec ≡ SheetKinds.call → 1 ≤ field_count rec → field_count rec ≤ 9
      → SheetRecord rec (call (field rec 0) (fields_from rec 1))
  -- a constructor, and at most eight arguments
  is_build : kind_of rec ≡ SheetKinds.build → 1 ≤ field_count rec → field_count rec ≤ 9
      → SheetRecord rec (build (field rec 0) (fields_from rec 1))
  -- a scrutinee, and from 1 to 64 clauses
  is_case_law : kind_of rec ≡ SheetKinds.case_of → field_count rec ≡ 1 + 2 * clauses rec → 1 ≤ clauses rec → clauses rec ≤ 64
      → SheetRecord rec (case_of (field rec 0) (clause_list rec))

module _ (rec : List ℕ) (allowed : allows (row_of (kind_of rec)) (length rec) ≡ true) where
  case_record : kind_of rec ≡ SheetKinds.case_of → SheetRecord rec (case_of (field rec 0) (clause_list rec))
  unfolding row_of rows row_in row
  case_record e =
      let a : allows (row_of SheetKinds.case_of) (length rec) ≡ true = rw e at allowed in
      let c = fields_clauses rec SheetKinds.case_of a refl refl in
      is_case_law e c (omega (arith, c, fields_least rec SheetKinds.case_of a 3 refl)) (omega (arith, c, fields_greatest rec SheetKinds.case_of a 129 refl))

  pub sheet_record : NodeKind Sheet (kind_of rec) → SheetRecord rec (sheet_node rec)
  unfolding sheet_node row_of rows row_in row
  sheet_record d =
      let k = kind_of rec in
      let P = SheetRecord rec in
      either P k SheetKinds.number _ _ d.least (λ e. is_number e (fields_fixed rec SheetKinds.number (rw e at allowed) 2 refl refl))
      (λ h. either P k SheetKinds.reading _ _ h (λ e. is_reading e (fields_fixed rec SheetKinds.reading (rw e at allowed) 1 refl refl))
      (λ h. either P k SheetKinds.parameter _ _ h (λ e. is_parameter e (fields_fixed rec SheetKinds.parameter (rw e at allowed) 1 refl refl))
      (λ h. either P k SheetKinds.pattern_variable _ _ h (λ e. is_pattern_variable e (fields_fixed rec SheetKinds.pattern_variable (rw e at allowed) 1 refl refl))
      (λ h. either P k SheetKinds.operator _ _ h (λ e. is_operator e (fields_fixed rec SheetKinds.operator (rw e at allowed) 3 refl refl))
      (λ h. either P k SheetKinds.conditional _ _ h (λ e. is_conditional e (fields_fixed rec SheetKinds.conditional (rw e at allowed) 3 refl refl))
      (λ h. either P k SheetKinds.call _ _ h (λ e. is_call e (fields_least rec SheetKinds.call (rw e at allowed) 1 refl) (fields_greatest rec SheetKinds.call (rw e at allowed) 9 refl))
      (λ h. either P k SheetKinds.build _ _ h (λ e. is_build e (fields_least rec SheetKinds.build (rw e at allowed) 1 refl) (fields_greatest rec SheetKinds.build (rw e at allowed) 9 refl))
      (λ h. case_record (omega (arith, h, d.greatest))))))))))

pub node_record_law : (b : List ℕ) → file_shape Sheet b ≡ Accepted → (k : ℕ) → k < nodes b
    → SheetRecord (node_record b k) (sheet_node_of b k)
unfolding sheet_node_of
node_record_law b e k h =
    sheet_record (node_record b k) (length_allowed Sheet b e (first_node b + k) (omega arith)) (node_kind_law Sheet b e k h)

pub node_is : (b : List ℕ) → file_shape Sheet b ≡ Accepted → (k : ℕ) → k < nodes b → {nd : SheetNode} → sheet_node_of b k ≡ nd
    → SheetRecord (node_record b k) nd
node_is b s k h e = rw e at (node_record_law b s k h)
