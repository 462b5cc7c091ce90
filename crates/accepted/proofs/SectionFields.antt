-- How many fields the head of a file and the functions of a sheet have, where the shape is accepted.
use mathlib.Core.Path.{◌≡◌, refl, ◌∙◌}
use Prim.Native.Nat.{ℕ, ◌+◌, ◌*◌, ◌≤◌, ◌<◌}
use mathlib.Core.List.{List}
use mathlib.Core.Bool.{Bool, true, false}
use native.Mathlib.Omega.{arith}
use lib.ListN.{length}
use Rattle.definitions.specs.Records.{record_of, kind_of, field_count}
use Rattle.definitions.specs.SheetKinds
use Rattle.definitions.specs.TranslationKinds
use Rattle.definitions.specs.Kinds.{row, rows, row_in, row_of, allows}
use Rattle.definitions.specs.Layouts.{is_typed, items, functions, due, function_kind, function_record}
use Rattle.definitions.specs.Shape.{file_shape}
use Rattle.definitions.specs.declared.Layout.{Layout}
use Rattle.definitions.specs.declared.Layout.TheVariants.{Sheet, Translation}
use Rattle.definitions.specs.Verdict.{Accepted}
use Rattle.accepted.proofs.Widths.{fields_fixed, fields_least}
use Rattle.accepted.proofs.Records.{length_allowed}
use Rattle.accepted.proofs.Head.{head_kind_law}
use Rattle.accepted.proofs.Sections.{sheet_function_kind}

-- the length of a record of a known kind is allowed to that kind
allowed_as : (y : Layout) (b : List ℕ) → file_shape y b ≡ Accepted → (r k : ℕ) → r < due b → kind_of (record_of b r) ≡ k
    → allows (row_of k) (length (record_of b r)) ≡ true
allowed_as y b e r k h q = rw q at (length_allowed y b e r h)

-- the head has four counts
pub head_fields : (y : Layout) (b : List ℕ) → file_shape y b ≡ Accepted → field_count (record_of b 0) ≡ 4
unfolding row_of rows row_in row
head_fields Sheet b e =
    fields_fixed (record_of b 0) SheetKinds.head (allowed_as Sheet b e 0 SheetKinds.head (omega arith) (head_kind_law Sheet b e)) 4 refl refl
head_fields Translation b e =
    fields_fixed (record_of b 0) TranslationKinds.head (allowed_as Translation b e 0 TranslationKinds.head (omega arith) (head_kind_law Translation b e)) 4 refl refl

module _ (b : List ℕ) (accepted : file_shape Sheet b ≡ Accepted) where
  module _ (f : ℕ) (h : f < functions b) where
    fields_of_law : (k n : ℕ) → kind_of (function_record Sheet b f) ≡ k → (row_of k).least ≡ 4 + 2 * n → n ≤ field_count (function_record Sheet b f)
    fields_of_law k n e l = fields_least (function_record Sheet b f) k (allowed_as Sheet b accepted (1 + items b + f) k (omega arith) e) n l

    fields_by : (t : Bool) → is_typed b ≡ t → 2 ≤ field_count (function_record Sheet b f)
    unfolding row_of rows row_in row function_kind
    fields_by true t =
        let p = fields_of_law SheetKinds.typed_function 3 (sheet_function_kind b accepted f h ∙ rw t refl) refl in
        omega (arith, p)
    fields_by false t = fields_of_law SheetKinds.function 2 (sheet_function_kind b accepted f h ∙ rw t refl) refl

  -- a function has its parameters and its node count, and its types where the sheet is typed
  pub sheet_function_fields : (f : ℕ) → f < functions b → 2 ≤ field_count (function_record Sheet b f)
  sheet_function_fields f h = fields_by f h (is_typed b) refl
