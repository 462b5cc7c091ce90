-- The kinds with least, step and greatest length (document 01, "Each kind has a fixed length or a least, a step and a
-- greatest"), in the paper's order; a translation's function has the length of document 02, request 7, and the constructors and
-- functions with types are of request 11. A fixed length is a least that is the greatest.
use Rattle.std.specs.Prelude.{ℕ, ◌-◌, ◌%◌, List, [], ◌∷◌, Bool, cond, ◌&&◌, leb, eqb}
use Rattle.definitions.specs.SheetKinds
use Rattle.definitions.specs.TranslationKinds

pub record Row : Type 0 where
  pub kind : ℕ
  pub least : ℕ
  pub step : ℕ
  pub greatest : ℕ

unfoldable pub row : ℕ → ℕ → ℕ → ℕ → Row
row k l s g = record { kind = k; least = l; step = s; greatest = g }

unfoldable pub rows : List Row
rows =
    row SheetKinds.head 12 2 12
    ∷ row SheetKinds.constructor 6 2 6
    ∷ row SheetKinds.function 8 2 8
    ∷ row SheetKinds.typed_constructor 8 2 24
    ∷ row SheetKinds.typed_function 10 2 26
    ∷ row SheetKinds.number 8 2 8
    ∷ row SheetKinds.reading 6 2 6
    ∷ row SheetKinds.parameter 6 2 6
    ∷ row SheetKinds.pattern_variable 6 2 6
    ∷ row SheetKinds.operator 10 2 10
    ∷ row SheetKinds.conditional 10 2 10
    ∷ row SheetKinds.call 6 2 22
    ∷ row SheetKinds.build 6 2 22
    ∷ row SheetKinds.case_of 10 4 262
    ∷ row TranslationKinds.head 12 2 12
    ∷ row TranslationKinds.function 8 2 8
    ∷ row TranslationKinds.formal_list 4 2 2052
    ∷ row TranslationKinds.number 8 2 8
    ∷ row TranslationKinds.reading 6 2 6
    ∷ row TranslationKinds.formal 6 2 6
    ∷ row TranslationKinds.select 8 2 8
    ∷ row TranslationKinds.operator 10 2 10
    ∷ row TranslationKinds.conditional 10 2 10
    ∷ row TranslationKinds.call 8 2 8
    ∷ row TranslationKinds.tuple 6 2 22
    ∷ row TranslationKinds.case_of 10 4 262
    ∷ []

-- the row of a kind; a kind that is in no row allows no length
unfoldable pub row_in : List Row → ℕ → Row
row_in [] k = row k 1 1 0
row_in (r ∷ rs) k = cond (eqb k r.kind) r (row_in rs k)

unfoldable pub row_of : ℕ → Row
row_of k = row_in rows k

-- whether a row allows a length
unfoldable pub allows : Row → ℕ → Bool
allows r n = leb r.least n && leb n r.greatest && eqb ((n - r.least) % r.step) 0
