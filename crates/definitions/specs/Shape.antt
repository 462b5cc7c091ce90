-- The checks of both files up to the left-over bytes (document 01, "Order": 2; record by record 1, 3, 1, 3, 4; then 3 for
-- bytes left over).
use Rattle.std.specs.Prelude.{ℕ, suc, ◌+◌, ◌-◌, List, Bool, true, cond, ◌&&◌, ◌||◌, length, leb, eqb}
use Rattle.definitions.specs.Bytes.{word}
use Rattle.definitions.specs.Records.{start_of, record_at, kind_of, field, field_count}
use Rattle.definitions.specs.Kinds.{row_of, allows}
use Rattle.definitions.specs.SheetKinds
use Rattle.definitions.specs.TranslationKinds
use Rattle.definitions.specs.OperatorCodes
use Rattle.definitions.specs.Ranges.{within}
use Rattle.definitions.specs.Sizes.{sheet_bytes, translation_bytes, most_readings, most_constructors, most_functions, most_nodes, most_formals, most_fields, most_types}
use Rattle.definitions.specs.Numbers.{truncated, oversize, bad_record, bad_count}
use Rattle.definitions.specs.Verdicts.{◌and_then◌, require, first_of}
use Rattle.definitions.specs.Lists.{sum_of, all_of}
use Rattle.definitions.specs.Layouts.{readings, items, functions, nodes, first_function, due, is_due, count_field, node_count, parameter_count}
use Rattle.definitions.specs.declared.Layout.{Layout}
use Rattle.definitions.specs.declared.Layout.TheVariants.{Sheet, Translation}
use Rattle.definitions.specs.Verdict.{Verdict}

-- "at most 32,768 bytes", "at most 40,960 bytes"
abbrev pub file_limit : Layout → ℕ
file_limit Sheet = sheet_bytes
file_limit Translation = translation_bytes

-- "constructors K 0..64", "formals P 0..512"
abbrev pub item_limit : Layout → ℕ
item_limit Sheet = most_constructors
item_limit Translation = most_formals

-- "readings I 0..32 .. functions F 1..64, nodes N 1..1,024"
unfoldable pub head_counts : Layout → List ℕ → Bool
head_counts y b =
    within 0 most_readings (readings b) && within 0 (item_limit y) (items b) && within 1 most_functions (functions b) && within 1 most_nodes (nodes b)

-- "node count n from 1"; "sum not N (place: last function)"
unfoldable pub run_counts : Layout → List ℕ → ℕ → List ℕ → Bool
run_counts y b r rec =
    leb 1 (field rec (count_field y))
    && cond (eqb (suc r) (first_function y b + functions b)) (eqb (sum_of (functions b) (node_count y b)) (nodes b)) true

-- document 02, request 7: "0 to 8, else 4 at that function; a sum that isn't P is 4 at the last function"
unfoldable pub parameter_counts : List ℕ → ℕ → List ℕ → Bool
parameter_counts b r rec =
    within 0 most_fields (field rec 1)
    && cond (eqb (suc r) (first_function Translation b + functions b)) (eqb (sum_of (functions b) (parameter_count b)) (items b)) true

-- document 02, request 11: "a type out of range or a count that doesn't match the record's length 4": a record with n fields, of
-- which those from field 2 on are types
unfoldable pub types_right : List ℕ → ℕ → Bool
types_right rec n = eqb (field_count rec) n && all_of (n - 2) (λ i. within 0 most_types (field rec (2 + i)))

-- "arity, own type from 1, field types"
unfoldable pub typed_constructor_counts : List ℕ → Bool
typed_constructor_counts rec =
    within 0 most_fields (field rec 0) && within 1 most_types (field rec 1) && types_right rec (2 + field rec 0)

-- "parameters, node count, result type, parameter types"
unfoldable pub typed_function_counts : Layout → List ℕ → ℕ → List ℕ → Bool
typed_function_counts y b r rec =
    within 0 most_fields (field rec 0) && run_counts y b r rec && types_right rec (3 + field rec 0)

-- the counts of record r by its kind; "arity 0..8", "parameters 0..8"
unfoldable pub counts : Layout → List ℕ → ℕ → List ℕ → Bool
counts y b r rec =
    cond (eqb r 0) (head_counts y b)
    (cond (eqb (kind_of rec) SheetKinds.constructor) (within 0 most_fields (field rec 0))
    (cond (eqb (kind_of rec) SheetKinds.function) (within 0 most_fields (field rec 0) && run_counts y b r rec)
    (cond (eqb (kind_of rec) SheetKinds.typed_constructor) (typed_constructor_counts rec)
    (cond (eqb (kind_of rec) SheetKinds.typed_function) (typed_function_counts y b r rec)
    (cond (eqb (kind_of rec) TranslationKinds.function) (parameter_counts b r rec && run_counts y b r rec) true)))))

-- "operator code above 5"
unfoldable pub operator_code : List ℕ → Bool
operator_code rec =
    cond (eqb (kind_of rec) SheetKinds.operator || eqb (kind_of rec) TranslationKinds.operator)
    (within OperatorCodes.add OperatorCodes.greatest (field rec 0)) true

-- record r, whose first byte is at a place
unfoldable pub shape_at : Layout → List ℕ → ℕ → ℕ → Verdict
shape_at y b r at =
    require (leb (at + 4) (length b)) truncated r
    and_then require (is_due y b r (word b (at + 2)) && allows (row_of (word b (at + 2))) (word b at)) bad_record r
    and_then require (leb (at + word b at) (length b)) truncated r
    and_then require (operator_code (record_at b at)) bad_record r
    and_then require (counts y b r (record_at b at)) bad_count r

unfoldable pub shape : Layout → List ℕ → ℕ → Verdict
shape y b r = shape_at y b r (start_of b r)

unfoldable pub file_shape : Layout → List ℕ → Verdict
file_shape y b =
    require (leb (length b) (file_limit y)) oversize 0
    and_then first_of (due b) (shape y b)
    and_then require (eqb (start_of b (due b)) (length b)) bad_record (due b)
