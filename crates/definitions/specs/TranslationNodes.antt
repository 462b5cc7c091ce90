-- The nodes and formals of a translation (document 01, "Files", **Translation**; document 002, section 3.3, NVIL).
use Rattle.std.specs.Prelude.{ℕ, List, cond, ℤ, eqb}
use Rattle.std.proofs.Math.Option.{Option}
use Rattle.std.proofs.Math.ListN.{get_elem?}
use Rattle.definitions.specs.Bytes.{signed}
use Rattle.definitions.specs.Records.{kind_of, field}
use Rattle.definitions.specs.Layouts.{node_record, item_record}
use Rattle.definitions.specs.TranslationKinds
use Rattle.definitions.specs.NodeFields.{Clause, fields_from, clause_list}
use Rattle.definitions.specs.declared.Layout.TheVariants.{Translation}

pub data TranslationNode : Type 0 where
  number : ℤ → TranslationNode
  reading : ℕ → TranslationNode
  formal : ℕ → TranslationNode
  -- node, index
  select : ℕ → ℕ → TranslationNode
  -- code, left, right
  operator : ℕ → ℕ → ℕ → TranslationNode
  -- condition, then, else: "if"
  conditional : ℕ → ℕ → ℕ → TranslationNode
  -- label, function
  call : ℕ → ℕ → TranslationNode
  -- tag, fields
  tuple : ℕ → List ℕ → TranslationNode
  -- scrutinee, clauses
  case_of : ℕ → List Clause → TranslationNode

-- the node that a record is; an accepted translation has no other kinds
unfoldable pub translation_node : List ℕ → TranslationNode
translation_node rec =
    cond (eqb (kind_of rec) TranslationKinds.number) (number (signed rec 4))
    (cond (eqb (kind_of rec) TranslationKinds.reading) (reading (field rec 0))
    (cond (eqb (kind_of rec) TranslationKinds.formal) (formal (field rec 0))
    (cond (eqb (kind_of rec) TranslationKinds.select) (select (field rec 0) (field rec 1))
    (cond (eqb (kind_of rec) TranslationKinds.operator) (operator (field rec 0) (field rec 1) (field rec 2))
    (cond (eqb (kind_of rec) TranslationKinds.conditional) (conditional (field rec 0) (field rec 1) (field rec 2))
    (cond (eqb (kind_of rec) TranslationKinds.call) (call (field rec 0) (field rec 1))
    (cond (eqb (kind_of rec) TranslationKinds.tuple) (tuple (field rec 0) (fields_from rec 1))
    (case_of (field rec 0) (clause_list rec)))))))))

unfoldable pub translation_node_of : List ℕ → ℕ → TranslationNode
translation_node_of b k = translation_node (node_record b k)

-- the actual of formal p that a label names, none where the label is beyond the list
unfoldable pub actual : List ℕ → ℕ → ℕ → Option ℕ
actual b p label = get_elem? (fields_from (item_record Translation b p) 0) label

-- the tag and the fields of the tuple that node k is
unfoldable pub tag_of : List ℕ → ℕ → ℕ
tag_of b k = field (node_record b k) 0

unfoldable pub tuple_fields : List ℕ → ℕ → List ℕ
tuple_fields b k = fields_from (node_record b k) 1
