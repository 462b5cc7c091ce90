-- Laws of kinds without types: a sheet whose record 1 is of such a kind is not typed, and a record of such a kind has no types to remove.
use mathlib.Core.Path.{◌≡◌, refl}
use Prim.Native.Nat.{ℕ}
use mathlib.Core.List.{List, [], ◌∷◌}
use mathlib.Core.Bool.{Bool, true, false, cond}
use lib.Dec.{eqb}
use borrow.Author.Tests.{eqb-true, eqb-false, ne_eqb}
use Rattle.definitions.specs.Bytes.{word, bytes_of}
use Rattle.definitions.specs.Records.{kind_of, field}
use Rattle.definitions.specs.SheetKinds
use Rattle.definitions.specs.Layouts.{is_typed}
use Rattle.definitions.specs.Translate.{record_words}
use Rattle.definitions.specs.TypesRemoved.{untyped_record}
use Rattle.typed_sheets.specs.UntypedKinds.{UntypedKind, Untyping, a_constructor, a_function, untyped}

-- by the tests
pub untyped_kind : (k : ℕ) → eqb k SheetKinds.typed_constructor ≡ false → eqb k SheetKinds.typed_function ≡ false → UntypedKind k
untyped_kind k p q = record { no_constructor = eqb-false k SheetKinds.typed_constructor p; no_function = eqb-false k SheetKinds.typed_function q }

pub untyped_sheet : (b : List ℕ) → UntypedKind (word b 14) → is_typed b ≡ false
unfolding is_typed
untyped_sheet b u =
    rw (ne_eqb (word b 14) SheetKinds.typed_constructor u.no_constructor, ne_eqb (word b 14) SheetKinds.typed_function u.no_function) refl

pub kept : (rec : List ℕ) → UntypedKind (kind_of rec) → untyped_record rec ≡ rec
unfolding untyped_record
kept rec u =
    rw (ne_eqb (kind_of rec) SheetKinds.typed_constructor u.no_constructor, ne_eqb (kind_of rec) SheetKinds.typed_function u.no_function) refl

pub nothing_kept : untyped_record [] ≡ []
unfolding word
nothing_kept = kept [] (untyped_kind 0 refl refl)

-- what a record is with its types removed
pub untyping : (rec : List ℕ) → Untyping rec (untyped_record rec)
unfolding untyped_record
untyping rec = by (eqb k SheetKinds.typed_constructor) (eqb k SheetKinds.typed_function) refl refl
  where
    k : ℕ
    k = kind_of rec

    by : (t u : Bool) → eqb k SheetKinds.typed_constructor ≡ t → eqb k SheetKinds.typed_function ≡ u
        → Untyping rec (cond t (bytes_of (record_words SheetKinds.constructor (field rec 0 ∷ [])))
        (cond u (bytes_of (record_words SheetKinds.function (field rec 0 ∷ field rec 1 ∷ []))) rec))
    by true u e f = a_constructor (eqb-true k SheetKinds.typed_constructor e)
    by false true e f = a_function (eqb-true k SheetKinds.typed_function f)
    by false false e f = untyped (untyped_kind k e f)
