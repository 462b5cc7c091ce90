-- Which fields of a record name what, and the check of references (document 01, "Files"; table, 5: "reference or
-- parameter position out of range").
use Rattle.std.specs.Prelude.{ℕ, ◌+◌, ◌*◌, ◌-◌, ◌/◌, List, Bool, true, cond, ◌&&◌, ◌||◌, ltb, eqb}
use Rattle.definitions.specs.Records.{record_of, kind_of, field, field_count}
use Rattle.definitions.specs.SheetKinds
use Rattle.definitions.specs.TranslationKinds
use Rattle.definitions.specs.Numbers.{out_of_range}
use Rattle.definitions.specs.Verdicts.{require}
use Rattle.definitions.specs.Lists.{all_of}
use Rattle.definitions.specs.Layouts.{readings, items, functions, nodes, first_node, item_record, function_record, owner_of}
use Rattle.definitions.specs.declared.Layout.TheVariants.{Sheet}
use Rattle.definitions.specs.Verdict.{Verdict}

-- a function's parameter count and a constructor's arity, in a sheet
abbrev pub parameters : List ℕ → ℕ → ℕ
parameters b f = field (function_record Sheet b f) 0

abbrev pub arity : List ℕ → ℕ → ℕ
arity b c = field (item_record Sheet b c) 0

-- kinds in which every other field names a node: case (scrutinee, then a node after each constructor) and select
unfoldable pub every_other : ℕ → Bool
every_other k = eqb k SheetKinds.case_of || eqb k TranslationKinds.case_of || eqb k TranslationKinds.select

-- kinds whose fields name nodes from field 0 on: if, the list of actuals, case and select
unfoldable pub from_first : ℕ → Bool
from_first k = eqb k SheetKinds.conditional || eqb k TranslationKinds.conditional || eqb k TranslationKinds.formal_list || every_other k

-- kinds whose fields name nodes from field 1 on: operator, call, build and tuple
unfoldable pub from_second : ℕ → Bool
from_second k =
    eqb k SheetKinds.operator || eqb k SheetKinds.call || eqb k SheetKinds.build || eqb k TranslationKinds.operator
    || eqb k TranslationKinds.tuple

-- how many fields of a record of kind k with n fields name nodes, and which field is the j-th of them
unfoldable pub child_count : ℕ → ℕ → ℕ
child_count k n = cond (every_other k) ((n + 1) / 2) (cond (from_first k) n (cond (from_second k) (n - 1) 0))

unfoldable pub child_field : ℕ → ℕ → ℕ
child_field k j = cond (every_other k) (2 * j) (cond (from_first k) j (1 + j))

-- the nodes that a record names: of a sheet's node, its children
unfoldable pub children : List ℕ → ℕ
children rec = child_count (kind_of rec) (field_count rec)

unfoldable pub child : List ℕ → ℕ → ℕ
child rec j = field rec (child_field (kind_of rec) j)

-- a case has as many clauses as it names nodes besides the scrutinee; clause j's constructor
unfoldable pub clauses : List ℕ → ℕ
clauses rec = field_count rec / 2

unfoldable pub clause_constructor : List ℕ → ℕ → ℕ
clause_constructor rec j = field rec (1 + 2 * j)

-- what a record names besides nodes: readings, parameters, functions, constructors, formals. Record r; its owner matters
-- for a parameter
unfoldable pub names_in_range : List ℕ → ℕ → List ℕ → Bool
names_in_range b r rec =
    cond (eqb (kind_of rec) SheetKinds.reading || eqb (kind_of rec) TranslationKinds.reading) (ltb (field rec 0) (readings b))
    (cond (eqb (kind_of rec) SheetKinds.parameter) (ltb (field rec 0) (parameters b (owner_of Sheet b (r - first_node b))))
    (cond (eqb (kind_of rec) SheetKinds.call) (ltb (field rec 0) (functions b))
    (cond (eqb (kind_of rec) TranslationKinds.call) (ltb (field rec 1) (functions b))
    (cond (eqb (kind_of rec) SheetKinds.build || eqb (kind_of rec) TranslationKinds.formal) (ltb (field rec 0) (items b))
    (cond (eqb (kind_of rec) SheetKinds.case_of) (all_of (clauses rec) (λ j. ltb (clause_constructor rec j) (items b))) true)))))

unfoldable pub in_range : List ℕ → ℕ → List ℕ → Bool
in_range b r rec = all_of (children rec) (λ j. ltb (child rec j) (nodes b)) && names_in_range b r rec

unfoldable pub references : List ℕ → ℕ → Verdict
references b r = require (in_range b r (record_of b r)) out_of_range r
