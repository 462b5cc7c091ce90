-- The labels of a sheet's calls, and the actuals that a formal lists (document 01, "Translation"; document 02, request 4;
-- document 002, section 3.4).
use Rattle.std.specs.Prelude.{ℕ, ◌+◌, List, [], ◌∷◌, Bool, false, cond, ◌&&◌, eqb}
use Rattle.definitions.specs.Records.{kind_of, field}
use Rattle.definitions.specs.Lists.{joined, count_of, first_passing}
use Rattle.definitions.specs.Layouts.{nodes, node_record}
use Rattle.definitions.specs.SheetKinds

-- a labelling says of two calls of one function whether they share a label. `equal_trees` of a sheet is request 4's: "Two calls of one
-- function whose arguments are equal trees get one label"; this one is document 01's, a label for each call
abbrev pub Labelling : Type 0
Labelling = ℕ → ℕ → Bool

unfoldable pub never_shared : Labelling
never_shared m k = false

-- whether node k is a call of function f
unfoldable pub calls : List ℕ → ℕ → ℕ → Bool
calls b f k = eqb (kind_of (node_record b k)) SheetKinds.call && eqb (field (node_record b k) 0) f

-- the first call that shares the label of node k, a call of f, and whether node k is such a first call of f
unfoldable pub first_call : Labelling → List ℕ → ℕ → ℕ → ℕ
first_call same b f k = first_passing k (λ m. calls b f m && same m k)

unfoldable pub is_first : Labelling → List ℕ → ℕ → ℕ → Bool
is_first same b f k = calls b f k && eqb (first_call same b f k) k

-- "A new label is the next number at its first call in node order": the label of node k, a call of f
unfoldable pub label_of : Labelling → List ℕ → ℕ → ℕ → ℕ
label_of same b f k = count_of (first_call same b f k) (is_first same b f)

-- "and the formal lists that call's argument nodes": argument i of each first call of f, in label order
unfoldable pub actuals : Labelling → List ℕ → ℕ → ℕ → List ℕ
actuals same b f i = joined (nodes b) (λ k. cond (is_first same b f k) (field (node_record b k) (1 + i) ∷ []) [])
