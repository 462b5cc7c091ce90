-- Kinds of records without types, and what a record is with its types removed, by its kind (document 02, request 11).
use Rattle.std.specs.Prelude.{◌≡◌, ℕ, List, [], ◌∷◌}
use Rattle.definitions.specs.Bytes.{bytes_of}
use Rattle.definitions.specs.Records.{kind_of, field}
use Rattle.definitions.specs.SheetKinds
use Rattle.definitions.specs.Translate.{record_words}

-- a kind other than 6 and 7
pub record UntypedKind (k : ℕ) : Type 0 where
  pub no_constructor : k ≡ SheetKinds.typed_constructor → ⊥
  pub no_function : k ≡ SheetKinds.typed_function → ⊥

-- a record, and the record with its types removed
pub data Untyping (rec : List ℕ) : List ℕ → Type 0 where
  a_constructor : kind_of rec ≡ SheetKinds.typed_constructor → Untyping rec (bytes_of (record_words SheetKinds.constructor (field rec 0 ∷ [])))
  a_function : kind_of rec ≡ SheetKinds.typed_function → Untyping rec (bytes_of (record_words SheetKinds.function (field rec 0 ∷ field rec 1 ∷ [])))
  untyped : UntypedKind (kind_of rec) → Untyping rec rec
