-- The types of a typed sheet and the rules that its nodes keep (document 02, request 11), node by node.
use Rattle.std.specs.Prelude.{ℕ, zero, suc, ◌+◌, ◌-◌, List, Bool, true, cond, ◌&&◌, ◌||◌, not, leb, eqb}
use Rattle.std.proofs.Math.Option.{Option, none, some}
use Rattle.definitions.specs.Records.{kind_of, field, field_count}
use Rattle.definitions.specs.SheetKinds
use Rattle.definitions.specs.Numbers.{ill_typed}
use Rattle.definitions.specs.Verdicts.{require, first_of}
use Rattle.definitions.specs.Lists.{all_of}
use Rattle.definitions.specs.Layouts.{nodes, is_typed, first_node, item_record, function_record, node_record, owner_of}
use Rattle.definitions.specs.References.{clauses, clause_constructor}
use Rattle.definitions.specs.SheetRules.{is_body, parent_of, clause_within}
use Rattle.definitions.specs.declared.Layout.TheVariants.{Sheet}
use Rattle.definitions.specs.Verdict.{Verdict, Accepted}

-- "Types are 0 (number) and 1..64"
abbrev pub number_type : ℕ
number_type = 0

-- "kind 6 (arity, own type from 1, field types ..) and kind 7 (parameters, node count, result type, parameter types ..)"
abbrev pub own_type : List ℕ → ℕ → ℕ
own_type b c = field (item_record Sheet b c) 1

abbrev pub field_type : List ℕ → ℕ → ℕ → ℕ
field_type b c i = field (item_record Sheet b c) (2 + i)

abbrev pub result_type : List ℕ → ℕ → ℕ
result_type b f = field (function_record Sheet b f) 2

abbrev pub parameter_type : List ℕ → ℕ → ℕ → ℕ
parameter_type b f i = field (function_record Sheet b f) (3 + i)

-- the type of pattern variable i in the tree of a clause with this constructor; an accepted sheet has none elsewhere
abbrev pub pattern_type : List ℕ → ℕ → Option ℕ → ℕ
pattern_type b i none = number_type
pattern_type b i (some c) = field_type b c i

-- the type of node k, which has this record, where those of smaller nodes are given: "Numbers, readings, operators .. are of type
-- 0 .. Parameters and pattern variables have the types given for them .. a call its result type .. a build its own type"; an if
-- has the type of its second node, and a case its function's result type
unfoldable pub type_by : List ℕ → (ℕ → ℕ) → ℕ → List ℕ → ℕ
type_by b of k rec =
    cond (eqb (kind_of rec) SheetKinds.parameter) (parameter_type b (owner_of Sheet b k) (field rec 0))
    (cond (eqb (kind_of rec) SheetKinds.pattern_variable) (pattern_type b (field rec 0) (clause_within b (nodes b) k))
    (cond (eqb (kind_of rec) SheetKinds.conditional) (of (field rec 1))
    (cond (eqb (kind_of rec) SheetKinds.call) (result_type b (field rec 0))
    (cond (eqb (kind_of rec) SheetKinds.build) (own_type b (field rec 0))
    (cond (eqb (kind_of rec) SheetKinds.case_of) (result_type b (owner_of Sheet b k)) number_type)))))

-- looking at most d nodes down, through the second nodes of ifs
unfoldable pub type_within : List ℕ → ℕ → ℕ → ℕ
type_within b zero k = number_type
type_within b (suc d) k = type_by b (type_within b d) k (node_record b k)

-- the type of node k: a child is smaller, so that no more nodes than k are below it
unfoldable pub type_of : List ℕ → ℕ → ℕ
type_of b k = type_within b (suc k) k

-- "Arguments have their callee's parameter types .. built fields have their constructor's field types"
unfoldable pub arguments_typed : (ℕ → ℕ) → (ℕ → ℕ) → List ℕ → Bool
arguments_typed of given rec = all_of (field_count rec - 1) (λ i. eqb (of (field rec (1 + i))) (given i))

-- "Clauses belong to the scrutinee's type, which is not 0"
unfoldable pub clauses_typed : List ℕ → ℕ → List ℕ → Bool
clauses_typed b t rec = leb 1 t && all_of (clauses rec) (λ j. eqb (own_type b (clause_constructor rec j)) t)

-- what the node with this record asks of its children, whose types are given: "operators, their operands and conditions are of
-- type 0. Both arms of an if agree"
unfoldable pub children_typed : List ℕ → (ℕ → ℕ) → List ℕ → Bool
children_typed b of rec =
    cond (eqb (kind_of rec) SheetKinds.operator) (eqb (of (field rec 1)) number_type && eqb (of (field rec 2)) number_type)
    (cond (eqb (kind_of rec) SheetKinds.conditional) (eqb (of (field rec 0)) number_type && eqb (of (field rec 1)) (of (field rec 2)))
    (cond (eqb (kind_of rec) SheetKinds.call) (arguments_typed of (parameter_type b (field rec 0)) rec)
    (cond (eqb (kind_of rec) SheetKinds.build) (arguments_typed of (field_type b (field rec 0)) rec)
    (cond (eqb (kind_of rec) SheetKinds.case_of) (clauses_typed b (of (field rec 0)) rec) true))))

-- whether node k is a clause's node: a child of a case, and not its scrutinee
unfoldable pub is_clause_of : List ℕ → ℕ → Bool
is_clause_of rec k = eqb (kind_of rec) SheetKinds.case_of && not (eqb (field rec 0) k)

unfoldable pub is_clause : List ℕ → ℕ → Bool
is_clause b k = is_clause_of (node_record b (parent_of b k)) k

-- "A body, or of a case each clause's node, has its function's result type"
unfoldable pub result_typed : List ℕ → ℕ → Bool
result_typed b k = cond (is_body b k || is_clause b k) (eqb (type_of b k) (result_type b (owner_of Sheet b k))) true

-- "22 (ill typed) .. at the first node in order that breaks a rule; a wrong body or clause's node breaks at itself, all else at
-- the parent"
unfoldable pub type_right : List ℕ → ℕ → Bool
type_right b k = children_typed b (type_of b) (node_record b k) && result_typed b k

unfoldable pub typing : List ℕ → ℕ → Verdict
typing b k = require (type_right b k) ill_typed (first_node b + k)

-- a sheet without types has none to break
unfoldable pub types : List ℕ → Verdict
types b = cond (is_typed b) (first_of (nodes b) (typing b)) Accepted
