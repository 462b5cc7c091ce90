-- What the two files have in common (document 01, "Files"): a head with four counts, two sections of records, then the
-- nodes; functions own consecutive runs of nodes. `I`, `F` and `N` of the paper are `readings`, `functions` and `nodes`;
-- `items` is `K` (constructors) in a sheet and `P` (formals) in a translation.
use Rattle.std.specs.Prelude.{ℕ, suc, pred, ◌+◌, List, Bool, cond, ◌&&◌, ◌||◌, leb, ltb, eqb}
use Rattle.definitions.specs.Bytes.{word}
use Rattle.definitions.specs.Records.{record_of, field}
use Rattle.definitions.specs.Lists.{sum_of, count_of}
use Rattle.definitions.specs.SheetKinds
use Rattle.definitions.specs.TranslationKinds
use Rattle.definitions.specs.declared.Layout.{Layout}
use Rattle.definitions.specs.declared.Layout.TheVariants.{Sheet, Translation}

-- the head's counts: the head stands at the file's start
abbrev pub readings : List ℕ → ℕ
readings b = word b 4

abbrev pub items : List ℕ → ℕ
items b = word b 6

abbrev pub functions : List ℕ → ℕ
functions b = word b 8

abbrev pub nodes : List ℕ → ℕ
nodes b = word b 10

-- whether a sheet is typed (document 02, request 11): the record after the head, at byte 12, is of a kind with types
unfoldable pub is_typed : List ℕ → Bool
is_typed b = eqb (word b 14) SheetKinds.typed_constructor || eqb (word b 14) SheetKinds.typed_function

-- the number of the first item's, the first function's and the first node's record, and of the records due
abbrev pub first_item : Layout → List ℕ → ℕ
first_item Sheet b = 1
first_item Translation b = 1 + functions b

abbrev pub first_function : Layout → List ℕ → ℕ
first_function Sheet b = 1 + items b
first_function Translation b = 1

abbrev pub first_node : List ℕ → ℕ
first_node b = 1 + items b + functions b

abbrev pub due : List ℕ → ℕ
due b = first_node b + nodes b

-- the kinds: of the head, of a record before the nodes, of the first kind of node (the last is 8 above it)
abbrev pub head_kind : Layout → ℕ
head_kind Sheet = SheetKinds.head
head_kind Translation = TranslationKinds.head

-- request 11: "for all its constructors and functions, kind 6 .. and kind 7 .. in place of 2 and 3"
unfoldable pub constructor_kind : List ℕ → ℕ
constructor_kind b = cond (is_typed b) SheetKinds.typed_constructor SheetKinds.constructor

unfoldable pub function_kind : List ℕ → ℕ
function_kind b = cond (is_typed b) SheetKinds.typed_function SheetKinds.function

unfoldable pub section_kind : Layout → List ℕ → ℕ → ℕ
section_kind Sheet b r = cond (leb r (items b)) (constructor_kind b) (function_kind b)
section_kind Translation b r = cond (leb r (functions b)) TranslationKinds.function TranslationKinds.formal_list

abbrev pub node_kind : Layout → ℕ
node_kind Sheet = SheetKinds.number
node_kind Translation = TranslationKinds.number

-- whether a kind is due at record r
unfoldable pub is_due : Layout → List ℕ → ℕ → ℕ → Bool
is_due y b r k =
    cond (eqb r 0) (eqb k (head_kind y))
    (cond (ltb r (first_node b)) (eqb k (section_kind y b r)) (leb (node_kind y) k && leb k (node_kind y + 8)))

-- the record of item i, of function f, of node k
abbrev pub item_record : Layout → List ℕ → ℕ → List ℕ
item_record y b i = record_of b (first_item y b + i)

abbrev pub function_record : Layout → List ℕ → ℕ → List ℕ
function_record y b f = record_of b (first_function y b + f)

abbrev pub node_record : List ℕ → ℕ → List ℕ
node_record b k = record_of b (first_node b + k)

-- the field of a function's record that holds its node count
abbrev pub count_field : Layout → ℕ
count_field Sheet = 1
count_field Translation = 0

abbrev pub node_count : Layout → List ℕ → ℕ → ℕ
node_count y b f = field (function_record y b f) (count_field y)

-- the parameter count of function f in a translation (document 02, request 7)
abbrev pub parameter_count : List ℕ → ℕ → ℕ
parameter_count b f = field (function_record Translation b f) 1

-- the first node after the run of function f, the last node of that run, and the function whose run holds node k
unfoldable pub run_end : Layout → List ℕ → ℕ → ℕ
run_end y b f = sum_of (suc f) (node_count y b)

unfoldable pub body_of : Layout → List ℕ → ℕ → ℕ
body_of y b f = pred (run_end y b f)

unfoldable pub owner_of : Layout → List ℕ → ℕ → ℕ
owner_of y b k = count_of (functions b) (λ f. leb (run_end y b f) k)
