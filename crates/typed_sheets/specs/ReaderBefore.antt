-- What the reader of sheets said before document 02, request 11, added kinds 6 and 7 and the rules of types: what changed then, as it
-- was; all else is as in the definitions.
use Rattle.std.specs.Prelude.{ℕ, ◌+◌, List, Bool, true, cond, ◌&&◌, ◌||◌, length, leb, ltb, eqb}
use Rattle.definitions.specs.Bytes.{word}
use Rattle.definitions.specs.Records.{start_of, record_at, kind_of, field}
use Rattle.definitions.specs.SheetKinds
use Rattle.definitions.specs.TranslationKinds
use Rattle.definitions.specs.Kinds.{Row, row, row_of, allows}
use Rattle.definitions.specs.Ranges.{within}
use Rattle.definitions.specs.Sizes.{sheet_bytes, most_fields}
use Rattle.definitions.specs.Numbers.{truncated, oversize, bad_record, bad_count}
use Rattle.definitions.specs.Verdicts.{◌and_then◌, require, first_of}
use Rattle.definitions.specs.Layouts.{items, nodes, first_node, due}
use Rattle.definitions.specs.Shape.{head_counts, run_counts, parameter_counts, operator_code}
use Rattle.definitions.specs.References.{references}
use Rattle.definitions.specs.SheetRules.{arguments, tree, pattern}
use Rattle.definitions.specs.declared.Layout.TheVariants.{Sheet}
use Rattle.definitions.specs.Verdict.{Verdict}

-- the row of a kind: 6 and 7 were no kinds, and a number that is no kind allows no length
unfoldable pub row_of_before : ℕ → Row
row_of_before k = cond (eqb k SheetKinds.typed_constructor || eqb k SheetKinds.typed_function) (row k 1 1 0) (row_of k)

-- the kind of a record between the head and the nodes: a constructor, then a function
unfoldable pub section_kind_before : List ℕ → ℕ → ℕ
section_kind_before b r = cond (leb r (items b)) SheetKinds.constructor SheetKinds.function

-- whether a kind is due at record r
unfoldable pub is_due_before : List ℕ → ℕ → ℕ → Bool
is_due_before b r k =
    cond (eqb r 0) (eqb k SheetKinds.head)
    (cond (ltb r (first_node b)) (eqb k (section_kind_before b r)) (leb SheetKinds.number k && leb k (SheetKinds.number + 8)))

-- the counts of record r by its kind
unfoldable pub counts_before : List ℕ → ℕ → List ℕ → Bool
counts_before b r rec =
    cond (eqb r 0) (head_counts Sheet b)
    (cond (eqb (kind_of rec) SheetKinds.constructor) (within 0 most_fields (field rec 0))
    (cond (eqb (kind_of rec) SheetKinds.function) (within 0 most_fields (field rec 0) && run_counts Sheet b r rec)
    (cond (eqb (kind_of rec) TranslationKinds.function) (parameter_counts b r rec && run_counts Sheet b r rec) true)))

-- record r, whose first byte is at a place
unfoldable pub shape_at_before : List ℕ → ℕ → ℕ → Verdict
shape_at_before b r at =
    require (leb (at + 4) (length b)) truncated r
    and_then require (is_due_before b r (word b (at + 2)) && allows (row_of_before (word b (at + 2))) (word b at)) bad_record r
    and_then require (leb (at + word b at) (length b)) truncated r
    and_then require (operator_code (record_at b at)) bad_record r
    and_then require (counts_before b r (record_at b at)) bad_count r

unfoldable pub shape_before : List ℕ → ℕ → Verdict
shape_before b r = shape_at_before b r (start_of b r)

-- all records, and the bytes left over
unfoldable pub file_shape_before : List ℕ → Verdict
file_shape_before b =
    require (leb (length b) sheet_bytes) oversize 0
    and_then first_of (due b) (shape_before b)
    and_then require (eqb (start_of b (due b)) (length b)) bad_record (due b)

-- what the reader of sheets said
unfoldable pub sheet_verdict_before : List ℕ → Verdict
sheet_verdict_before b =
    file_shape_before b
    and_then first_of (due b) (λ r. references b r and_then arguments b r)
    and_then first_of (nodes b) (tree b)
    and_then first_of (nodes b) (pattern b)
