-- The nodes of a sheet (document 01, "Files", **Sheet**; document 002, section 3.1, FOL).
use Rattle.std.specs.Prelude.{ℕ, List, cond, ℤ, eqb}
use Rattle.definitions.specs.Bytes.{signed}
use Rattle.definitions.specs.Records.{kind_of, field}
use Rattle.definitions.specs.Layouts.{node_record, body_of, owner_of}
use Rattle.definitions.specs.SheetKinds
use Rattle.definitions.specs.NodeFields.{Clause, fields_from, clause_list}
use Rattle.definitions.specs.declared.Layout.TheVariants.{Sheet}

pub data SheetNode : Type 0 where
  number : ℤ → SheetNode
  reading : ℕ → SheetNode
  parameter : ℕ → SheetNode
  pattern_variable : ℕ → SheetNode
  -- code, left, right
  operator : ℕ → ℕ → ℕ → SheetNode
  -- condition, then, else: "if"
  conditional : ℕ → ℕ → ℕ → SheetNode
  -- function, arguments
  call : ℕ → List ℕ → SheetNode
  -- constructor, arguments
  build : ℕ → List ℕ → SheetNode
  -- scrutinee, clauses
  case_of : ℕ → List Clause → SheetNode

-- the node that a record is; an accepted sheet has no other kinds
unfoldable pub sheet_node : List ℕ → SheetNode
sheet_node rec =
    cond (eqb (kind_of rec) SheetKinds.number) (number (signed rec 4))
    (cond (eqb (kind_of rec) SheetKinds.reading) (reading (field rec 0))
    (cond (eqb (kind_of rec) SheetKinds.parameter) (parameter (field rec 0))
    (cond (eqb (kind_of rec) SheetKinds.pattern_variable) (pattern_variable (field rec 0))
    (cond (eqb (kind_of rec) SheetKinds.operator) (operator (field rec 0) (field rec 1) (field rec 2))
    (cond (eqb (kind_of rec) SheetKinds.conditional) (conditional (field rec 0) (field rec 1) (field rec 2))
    (cond (eqb (kind_of rec) SheetKinds.call) (call (field rec 0) (fields_from rec 1))
    (cond (eqb (kind_of rec) SheetKinds.build) (build (field rec 0) (fields_from rec 1))
    (case_of (field rec 0) (clause_list rec)))))))))

unfoldable pub sheet_node_of : List ℕ → ℕ → SheetNode
sheet_node_of b k = sheet_node (node_record b k)

-- the scrutinee of the case that is the body of node k's function
unfoldable pub scrutinee_of : List ℕ → ℕ → ℕ
scrutinee_of b k = field (node_record b (body_of Sheet b (owner_of Sheet b k))) 0
