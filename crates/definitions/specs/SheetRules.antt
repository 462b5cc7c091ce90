-- The rules of a sheet's arguments, children, cases and patterns (document 01, "Order": 7 and 6), record by record and node by
-- node.
use Rattle.std.specs.Prelude.{ℕ, zero, suc, ◌+◌, ◌-◌, List, Bool, true, false, cond, ◌&&◌, not, ltb, eqb}
use Rattle.std.proofs.Math.Option.{Option, none, some}
use Rattle.definitions.specs.Records.{record_of, kind_of, field, field_count}
use Rattle.definitions.specs.SheetKinds
use Rattle.definitions.specs.Numbers.{bad_tree, bad_arguments}
use Rattle.definitions.specs.Verdicts.{require}
use Rattle.definitions.specs.Lists.{sum_of, count_of, all_of, last_of}
use Rattle.definitions.specs.Layouts.{nodes, first_function, first_node, node_record, body_of, owner_of}
use Rattle.definitions.specs.References.{parameters, arity, children, child, clauses, clause_constructor}
use Rattle.definitions.specs.declared.Layout.TheVariants.{Sheet}
use Rattle.definitions.specs.Verdict.{Verdict}

-- 7, "argument count wrong, or `result` has parameters"
unfoldable pub arguments_match : List ℕ → ℕ → List ℕ → Bool
arguments_match b r rec =
    cond (eqb r (first_function Sheet b)) (eqb (field rec 0) 0)
    (cond (eqb (kind_of rec) SheetKinds.call) (eqb (field_count rec - 1) (parameters b (field rec 0)))
    (cond (eqb (kind_of rec) SheetKinds.build) (eqb (field_count rec - 1) (arity b (field rec 0))) true))

unfoldable pub arguments : List ℕ → ℕ → Verdict
arguments b r = require (arguments_match b r (record_of b r)) bad_arguments r

-- "A node breaks the child rules if a child of its own isn't smaller or is in another function, or if it is no body and
-- isn't a child just once": how often node k is a child, in the whole sheet
unfoldable pub times_child : List ℕ → ℕ → ℕ
times_child b k = sum_of (nodes b) (λ p. count_of (children (node_record b p)) (λ j. eqb (child (node_record b p) j) k))

unfoldable pub is_body : List ℕ → ℕ → Bool
is_body b k = eqb k (body_of Sheet b (owner_of Sheet b k))

unfoldable pub children_right : List ℕ → ℕ → Bool
children_right b k =
    all_of (children (node_record b k))
    (λ j. ltb (child (node_record b k) j) k && eqb (owner_of Sheet b (child (node_record b k) j)) (owner_of Sheet b k))

-- "its clause constructors rise strictly"
unfoldable pub clauses_rise : List ℕ → Bool
clauses_rise rec = all_of (clauses rec - 1) (λ j. ltb (clause_constructor rec j) (clause_constructor rec (suc j)))

-- the child, case and clause order rules of node k; "Case stands only as a body"
unfoldable pub tree_right : List ℕ → ℕ → Bool
tree_right b k =
    children_right b k
    && cond (is_body b k) true (eqb (times_child b k) 1)
    && cond (eqb (kind_of (node_record b k)) SheetKinds.case_of) (is_body b k && clauses_rise (node_record b k)) true

unfoldable pub tree : List ℕ → ℕ → Verdict
tree b k = require (tree_right b k) bad_tree (first_node b + k)

-- the node that has node k as a child
unfoldable pub parent_of : List ℕ → ℕ → ℕ
parent_of b k =
    last_of (nodes b) (λ p. not (eqb (count_of (children (node_record b p)) (λ j. eqb (child (node_record b p) j) k)) 0))

-- the constructor of the clause of a case's record that node k is; none where k is the scrutinee
unfoldable pub clause_of : List ℕ → ℕ → ℕ → Option ℕ
clause_of rec zero k = none
clause_of rec (suc j) k = cond (eqb (child rec (suc j)) k) (some (clause_constructor rec j)) (clause_of rec j k)

-- the constructor of the clause in whose tree node k stands, looking at most d nodes up
unfoldable pub clause_within : List ℕ → ℕ → ℕ → Option ℕ
clause_within b zero k = none
clause_within b (suc d) k =
    cond (is_body b k) none
    (cond (eqb (kind_of (node_record b (parent_of b k))) SheetKinds.case_of)
    (clause_of (node_record b (parent_of b k)) (clauses (node_record b (parent_of b k))) k)
    (clause_within b d (parent_of b k)))

-- "A pattern variable stands only in a clause and is below that constructor's arity"
unfoldable pub below_arity : List ℕ → ℕ → Option ℕ → Bool
below_arity b i none = false
below_arity b i (some c) = ltb i (arity b c)

unfoldable pub pattern_right : List ℕ → ℕ → Bool
pattern_right b k =
    cond (eqb (kind_of (node_record b k)) SheetKinds.pattern_variable)
    (below_arity b (field (node_record b k) 0) (clause_within b (nodes b) k)) true

unfoldable pub pattern : List ℕ → ℕ → Verdict
pattern b k = require (pattern_right b k) bad_tree (first_node b + k)
