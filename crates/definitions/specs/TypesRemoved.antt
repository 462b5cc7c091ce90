-- A sheet with its types removed (document 02, request 11): a constructor and a function have kinds 2 and 3 in place of 6 and 7, and the
-- fields that these have; every other record is as it is.
use Rattle.std.specs.Prelude.{ℕ, List, [], ◌∷◌, cond, eqb}
use Rattle.definitions.specs.Bytes.{bytes_of}
use Rattle.definitions.specs.Records.{record_of, kind_of, field}
use Rattle.definitions.specs.SheetKinds
use Rattle.definitions.specs.Lists.{joined}
use Rattle.definitions.specs.Layouts.{due}
use Rattle.definitions.specs.Translate.{record_words}

unfoldable pub untyped_record : List ℕ → List ℕ
untyped_record rec =
    cond (eqb (kind_of rec) SheetKinds.typed_constructor) (bytes_of (record_words SheetKinds.constructor (field rec 0 ∷ [])))
    (cond (eqb (kind_of rec) SheetKinds.typed_function) (bytes_of (record_words SheetKinds.function (field rec 0 ∷ field rec 1 ∷ []))) rec)

unfoldable pub types_removed : List ℕ → List ℕ
types_removed b = joined (due b) (λ r. untyped_record (record_of b r))
