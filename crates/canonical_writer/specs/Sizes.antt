-- The table of sizes: how many nodes are in the tree of each node.
use Rattle.std.specs.Prelude.{◌≡◌, ℕ, suc, ◌<◌, List, length, get_or}
use Rattle.definitions.specs.Sizes.{most_nodes}
use Rattle.definitions.specs.Layouts.{nodes}
use Rattle.definitions.specs.CanonicalSheet.{fields_of, size_of}
use Rattle.tree_classes.specs.Classes.{AcceptedSheet}

-- the nodes in the fields of node k, and node k
abbrev pub tree_size : List ℕ → ℕ → ℕ
tree_size b k = suc (size_of (fields_of b k))

-- the first n entries are the sizes of the first n nodes
pub record Sizes (b sizes : List ℕ) (n : ℕ) : Type 0 where
  pub full : length sizes ≡ most_nodes
  pub entry : (k : ℕ) → k < n → get_or sizes k 0 ≡ tree_size b k

-- node k of an accepted sheet, with the sizes of the nodes before it
pub record SizeAt (b starts sizes : List ℕ) (k : ℕ) : Type 0 where
  pub sheet : AcceptedSheet b starts
  pub sized : Sizes b sizes k
  pub below : k < nodes b

-- an accepted sheet with the sizes of its nodes
pub record SizedSheet (b starts sizes : List ℕ) : Type 0 where
  pub sheet : AcceptedSheet b starts
  pub sized : Sizes b sizes (nodes b)
