-- A sheet in canonical form (document 02, request 13): "with each function's nodes in post-order, children left to right". It is a
-- function of the sections and of the trees of the bodies, in which a node is its kind and its fields.
use Rattle.std.specs.Prelude.{ℕ, zero, suc, ◌+◌, List, [], ◌∷◌, ◌++◌, cond, length, take, leb}
use Rattle.definitions.specs.Bytes.{bytes_of}
use Rattle.definitions.specs.Records.{start_of, kind_of, field, field_count}
use Rattle.definitions.specs.Numbers.{short_output}
use Rattle.definitions.specs.Verdicts.{◌and_then◌, require}
use Rattle.definitions.specs.Output.{written_of}
use Rattle.definitions.specs.Layouts.{functions, nodes, first_node, node_record, body_of}
use Rattle.definitions.specs.Checks.{sheet_verdict}
use Rattle.definitions.specs.Trees.{names_node}
use Rattle.definitions.specs.Translate.{record_words}
use Rattle.definitions.specs.declared.Layout.TheVariants.{Sheet}
use Rattle.definitions.specs.Verdict.{Verdict}
use Rattle.definitions.specs.Written.{Written}

-- fields of a node, in order; a field that names a node holds that node's kind and fields. A parameter and a pattern variable are
-- their position
pub data Fields : Type 0 where
  none : Fields
  plain : Fields → ℕ → Fields
  branch : Fields → ℕ → Fields → Fields

-- the first i fields of a record, given the kinds and the fields of nodes
unfoldable pub first_fields : (ℕ → ℕ) → (ℕ → Fields) → List ℕ → ℕ → Fields
first_fields kind fields rec zero = none
first_fields kind fields rec (suc i) =
    cond (names_node (kind_of rec) i)
    (branch (first_fields kind fields rec i) (kind (field rec i)) (fields (field rec i)))
    (plain (first_fields kind fields rec i) (field rec i))

-- the fields of node k, down to d nodes deep
unfoldable pub fields_within : List ℕ → ℕ → ℕ → Fields
fields_within b zero k = none
fields_within b (suc d) k =
    first_fields (λ n. kind_of (node_record b n)) (fields_within b d) (node_record b k) (field_count (node_record b k))

-- the fields of node k: a child is smaller than its parent, so that no tree is deeper than there are nodes
abbrev pub fields_of : List ℕ → ℕ → Fields
fields_of b k = fields_within b (nodes b) k

-- the bodies of the first f functions, and of all, as if they were the fields of one node
unfoldable pub first_bodies : List ℕ → ℕ → Fields
first_bodies b zero = none
first_bodies b (suc f) = branch (first_bodies b f) (kind_of (node_record b (body_of Sheet b f))) (fields_of b (body_of Sheet b f))

unfoldable pub bodies : List ℕ → Fields
bodies b = first_bodies b (functions b)

-- how many nodes are in fields
unfoldable pub size_of : Fields → ℕ
size_of none = 0
size_of (plain fs x) = size_of fs
size_of (branch fs k gs) = suc (size_of fs + size_of gs)

-- fields as they are written where their nodes are numbered from s on: a node comes after those in its own fields
unfoldable pub field_words : ℕ → Fields → List ℕ
field_words s none = []
field_words s (plain fs x) = field_words s fs ++ (x ∷ [])
field_words s (branch fs k gs) = field_words s fs ++ ((s + size_of fs + size_of gs) ∷ [])

-- the records of the nodes in fields: "in post-order, children left to right"
unfoldable pub tree_words : ℕ → Fields → List ℕ
tree_words s none = []
tree_words s (plain fs x) = tree_words s fs
tree_words s (branch fs k gs) =
    tree_words s fs ++ tree_words (s + size_of fs) gs ++ record_words k (field_words (s + size_of fs) gs)

-- head, constructors and functions: the bytes before the first node
unfoldable pub sections : List ℕ → List ℕ
sections b = take (start_of b (first_node b)) b

unfoldable pub canonical : List ℕ → List ℕ
canonical b = sections b ++ bytes_of (tree_words 0 (bodies b))

-- writing it into an output of `room` bytes: the first refusal, which is the reader's own, then 8 with place 0: "Output too short is 8"
unfoldable pub canonical_refusal : List ℕ → ℕ → Verdict
canonical_refusal sheet room = sheet_verdict sheet and_then require (leb (length (canonical sheet)) room) short_output 0

unfoldable pub canonical_answer : List ℕ → ℕ → Written
canonical_answer sheet room = written_of (canonical_refusal sheet room) (length (canonical sheet))
