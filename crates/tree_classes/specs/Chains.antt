-- The chains of nodes with one bucket, while nodes are numbered.
use Rattle.std.specs.Prelude.{◌≡◌, ℕ, zero, suc, ◌<◌, List, Option, IfSome, IsNone, cond, length, get_or, eqb}
use Rattle.definitions.specs.Sizes.{most_nodes}
use Rattle.definitions.specs.Layouts.{nodes, node_record}
use Rattle.tree_classes.specs.Keys.{entry_of, buckets, bucket_of, SameKey}
use Rattle.tree_classes.specs.Classes.{AcceptedSheet, Numbered}

-- one above the last of 0, 1, .. n - 1 with this number, 0 where none has it
unfoldable pub last_with : (ℕ → ℕ) → ℕ → ℕ → ℕ
last_with at h zero = 0
last_with at h (suc n) = cond (eqb (at n) h) (suc n) (last_with at h n)

-- the bucket of node k
abbrev pub node_bucket : List ℕ → List ℕ → List ℕ → ℕ → ℕ
node_bucket b places classes k = bucket_of (entry_of classes) (node_record b k) (entry_of places k)

-- of each of the first n nodes, one above the node before it in its bucket
pub record Earlier (b places classes earlier : List ℕ) (n : ℕ) : Type 0 where
  pub size : length earlier ≡ most_nodes
  pub entry : (k : ℕ) → k < n → get_or earlier k 0 ≡ last_with (node_bucket b places classes) (node_bucket b places classes k) k

-- the first n nodes are numbered and chained
pub record Numbering (b places classes lasts earlier : List ℕ) (n : ℕ) : Type 0 where
  pub numbered : Numbered b (entry_of places) classes n
  pub size : length lasts ≡ buckets
  pub last : (h : ℕ) → h < buckets → get_or lasts h 0 ≡ last_with (node_bucket b places classes) h n
  pub chained : Earlier b places classes earlier n

-- node k, where those before it are
pub record NodeToNumber (b starts places classes lasts earlier : List ℕ) (k : ℕ) : Type 0 where
  pub sheet : AcceptedSheet b starts
  pub before : Numbering b places classes lasts earlier k
  pub below : k < nodes b
  pub narrow : k < most_nodes

-- node k with its record, and the chain of its bucket
pub record Chain (b starts places classes earlier rec : List ℕ) (k last : ℕ) : Type 0 where
  pub sheet : AcceptedSheet b starts
  pub size : length classes ≡ most_nodes
  pub chained : Earlier b places classes earlier k
  pub below : k < nodes b
  pub narrow : k < most_nodes
  pub there : rec ≡ node_record b k
  pub begins : last ≡ last_with (node_bucket b places classes) (node_bucket b places classes k) k

-- node k with its record, and an earlier node j
pub record TwoNodes (b starts classes rec : List ℕ) (j k : ℕ) : Type 0 where
  pub sheet : AcceptedSheet b starts
  pub size : length classes ≡ most_nodes
  pub narrow : k < most_nodes
  pub below : k < nodes b
  pub earlier : j < k
  pub there : rec ≡ node_record b k

-- an earlier node with the key of node k, or none where there is none
pub record FoundSame (b places classes : List ℕ) (k : ℕ) (r : Option ℕ) : Type 0 where
  pub found : IfSome r (λ j. (j < k) × SameKey (entry_of classes) (entry_of places) b j k)
  pub none : IsNone r → (j : ℕ) → j < k → SameKey (entry_of classes) (entry_of places) b j k → ⊥
