-- Equal trees of nodes, of two sheets or of one (document 02, request 4): "In these trees a call counts as its function and
-- arguments, a parameter as its function and position, a pattern variable as its scrutinee's tree and position"; any other node
-- as its kind, its own fields and its parts.
use Rattle.std.specs.Prelude.{ℕ, zero, suc, ◌+◌, ◌%◌, List, Bool, true, false, cond, ◌&&◌, leb, eqb}
use Rattle.definitions.specs.Records.{kind_of, field, field_count}
use Rattle.definitions.specs.Lists.{all_of}
use Rattle.definitions.specs.Layouts.{nodes, node_record, owner_of}
use Rattle.definitions.specs.References.{every_other, from_first, from_second}
use Rattle.definitions.specs.SheetKinds
use Rattle.definitions.specs.SheetNodes.{scrutinee_of}
use Rattle.definitions.specs.declared.Layout.TheVariants.{Sheet}

-- whether field i of a record of kind k names a node
unfoldable pub names_node : ℕ → ℕ → Bool
names_node k i = cond (every_other k) (eqb (i % 2) 0) (cond (from_first k) true (cond (from_second k) (leb 1 i) false))

-- fields x and y at position i of two records of kind k: nodes that are the same, or equal numbers
unfoldable pub same_field : (ℕ → ℕ → Bool) → ℕ → ℕ → ℕ → ℕ → Bool
same_field same k i x y = cond (names_node k i) (same x y) (eqb x y)

unfoldable pub same_fields : (ℕ → ℕ → Bool) → List ℕ → List ℕ → Bool
same_fields same x y =
    eqb (kind_of x) (kind_of y)
    && eqb (field_count x) (field_count y)
    && all_of (field_count x) (λ i. same_field same (kind_of x) i (field x i) (field y i))

-- what a node of kind `kind` counts as besides its fields: a parameter its function, a pattern variable its scrutinee's tree
unfoldable pub same_place : (ℕ → ℕ → Bool) → List ℕ → List ℕ → ℕ → ℕ → ℕ → Bool
same_place same a b kind k m =
    cond (eqb kind SheetKinds.parameter) (eqb (owner_of Sheet a k) (owner_of Sheet b m))
    (cond (eqb kind SheetKinds.pattern_variable) (same (scrutinee_of a k) (scrutinee_of b m)) true)

-- whether the tree of node k of sheet a and that of node m of sheet b are equal, and at most d deep
unfoldable pub same_tree : List ℕ → List ℕ → ℕ → ℕ → ℕ → Bool
same_tree a b zero k m = false
same_tree a b (suc d) k m =
    same_fields (same_tree a b d) (node_record a k) (node_record b m)
    && same_place (same_tree a b d) a b (kind_of (node_record a k)) k m

-- no tree of an accepted sheet is deeper: a part has a smaller number than its node, and a scrutinee's tree has no pattern variables
unfoldable pub deepest : List ℕ → ℕ
deepest b = nodes b + nodes b

-- whether two nodes of one sheet are equal trees
unfoldable pub equal_trees : List ℕ → ℕ → ℕ → Bool
equal_trees b k m = same_tree b b (deepest b) k m
