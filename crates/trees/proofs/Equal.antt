-- Equal trees of one sheet: an equivalence, which an accepted sheet's nodes have exactly if their heads agree and their parts and
-- scrutinees have it.
use mathlib.Core.Path.{◌≡◌}
use Prim.Native.Nat.{ℕ, zero, suc, ◌<◌}
use mathlib.Core.List.{List}
use mathlib.Core.Bool.{true}
use Rattle.definitions.specs.Layouts.{nodes}
use Rattle.definitions.specs.Checks.{sheet_verdict}
use Rattle.definitions.specs.Trees.{same_tree, deepest, equal_trees}
use Rattle.definitions.specs.Verdict.{Accepted}
use Rattle.trees.specs.SameNodes.{Heads}
use Rattle.trees.proofs.Heads.{heads, from_heads, heads_map, no_tree, tree_swap, tree_then, tree_deeper}
use Rattle.trees.proofs.Depths.{within_deepest, tree_itself, tree_within}

pub equal_swap : (b : List ℕ) (k m : ℕ) → equal_trees b k m ≡ true → equal_trees b m k ≡ true
unfolding equal_trees
equal_swap b k m e = tree_swap b b (deepest b) k m e

pub equal_then : (b : List ℕ) (k m n : ℕ) → equal_trees b k m ≡ true → equal_trees b m n ≡ true → equal_trees b k n ≡ true
unfolding equal_trees
equal_then b k m n e f = tree_then b b b (deepest b) k m n e f

from_depth : (b : List ℕ) (d k m : ℕ) → same_tree b b d k m ≡ true → Heads (λ x y. same_tree b b d x y ≡ true) b b k m
from_depth b zero k m e = no_tree b b k m e
from_depth b (suc d) k m e = heads_map (tree_deeper b b d) (heads b b d k m e)

-- equal trees have heads that agree, with equal trees for parts
pub equal_unfolds : (b : List ℕ) (k m : ℕ) → equal_trees b k m ≡ true → Heads (λ x y. equal_trees b x y ≡ true) b b k m
unfolding equal_trees
equal_unfolds b k m e = from_depth b (deepest b) k m e

module _ (b : List ℕ) (accepted : sheet_verdict b ≡ Accepted) where
  pub equal_itself : (k : ℕ) → k < nodes b → equal_trees b k k ≡ true
  unfolding equal_trees
  equal_itself k h = tree_itself b (within_deepest b accepted k h)

  -- trees equal at some depth are equal
  pub equal_at : (d k m : ℕ) → k < nodes b → same_tree b b d k m ≡ true → equal_trees b k m ≡ true
  unfolding equal_trees
  equal_at d k m h e = tree_within b b d m (within_deepest b accepted k h) e

  -- and nodes whose heads agree and whose parts are equal trees are
  pub equal_folds : (k m : ℕ) → k < nodes b → Heads (λ x y. equal_trees b x y ≡ true) b b k m → equal_trees b k m ≡ true
  unfolding equal_trees
  equal_folds k m h g = equal_at (suc (deepest b)) k m h (from_heads b b (deepest b) k m g)
