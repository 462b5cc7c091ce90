-- The labels of an accepted sheet's calls, and how many labels each function has, in tables (document 01, "Translation"; document 02,
-- request 4).
use Rattle.std.specs.Prelude.{◌≡◌, ℕ, ◌+◌, ◌≤◌, ◌<◌, List, true, cond, length, get_or, set, ltb}
use Rattle.definitions.specs.Sizes.{most_functions, most_nodes}
use Rattle.definitions.specs.Lists.{count_of}
use Rattle.definitions.specs.Layouts.{functions, nodes}
use Rattle.definitions.specs.Trees.{equal_trees}
use Rattle.definitions.specs.Labels.{calls, is_first, label_of}
use Rattle.tree_classes.specs.Classes.{AcceptedSheet, FirstNodes}

-- of the first n nodes, entry k is the label of the call k
pub record Labels (b labels : List ℕ) (n : ℕ) : Type 0 where
  pub size : length labels ≡ most_nodes
  pub entry : (f k : ℕ) → k < n → calls b f k ≡ true → get_or labels k 0 ≡ label_of (equal_trees b) b f k

-- entry f is the number of labels that the calls of function f have among the first n nodes: each has one first call
pub record Counts (b counts : List ℕ) (n : ℕ) : Type 0 where
  pub size : length counts ≡ most_functions
  pub entry : (f : ℕ) → f < functions b → get_or counts f 0 ≡ count_of n (is_first (equal_trees b) b f)

-- the number of labels of function f
abbrev pub label_count : List ℕ → ℕ → ℕ
label_count b f = count_of (nodes b) (is_first (equal_trees b) b f)

-- an accepted sheet with the first node of each tree
pub record Classed (b starts classes : List ℕ) : Type 0 where
  pub sheet : AcceptedSheet b starts
  pub found : FirstNodes b classes

-- call k of function f, and a node at or before it
pub record CallToLabel (f first k : ℕ) (counts : List ℕ) : Type 0 where
  pub function : f < most_functions
  pub earlier : first ≤ k
  pub narrow : k < most_nodes
  pub room : get_or counts f 0 ≤ most_nodes

-- call k of function f labelled: like an earlier node, or by the count of that function, which is then one more
pub record LabelledOne (f first k : ℕ) (labels counts labels' counts' : List ℕ) : Type 0 where
  pub label : labels' ≡ set labels k (cond (ltb first k) (get_or labels first 0) (get_or counts f 0))
  pub count : counts' ≡ cond (ltb first k) counts (set counts f (get_or counts f 0 + 1))

-- node k of an accepted sheet, where the nodes before it are labelled
pub record LabelAt (b starts classes labels counts : List ℕ) (k : ℕ) : Type 0 where
  pub tables : Classed b starts classes
  pub labelled : Labels b labels k
  pub counted : Counts b counts k
  pub below : k < nodes b
  pub narrow : k < most_nodes
