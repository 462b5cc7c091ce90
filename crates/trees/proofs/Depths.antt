-- The trees of an accepted sheet are no deeper than `deepest`: a part has a smaller number than its node, and outside clauses no
-- tree has pattern variables.
use mathlib.Core.Path.{◌≡◌, refl}
use Prim.Native.Nat.{ℕ, zero, suc, ◌+◌, ◌<◌}
use mathlib.Core.List.{List}
use mathlib.Core.Bool.{true}
use native.Mathlib.Omega.{arith}
use native.Mathlib.Nat.{not-suc-le-zero}
use Rattle.definitions.specs.Records.{field}
use Rattle.definitions.specs.Layouts.{nodes, node_record}
use Rattle.definitions.specs.SheetNodes.{scrutinee_of}
use Rattle.definitions.specs.Checks.{sheet_verdict}
use Rattle.definitions.specs.Trees.{same_tree, deepest}
use Rattle.definitions.specs.Verdict.{Accepted}
use Rattle.trees.specs.Depths.{Within, deeper, Outside}
use Rattle.trees.proofs.Parts.{scrutinee_outside, part_smaller, part_below, outside_part, outside_no_pattern}
use Rattle.trees.proofs.Heads.{heads, from_heads, no_tree}

module _ (b : List ℕ) (accepted : sheet_verdict b ≡ Accepted) where
  outside : (e k : ℕ) → k < e → Outside b k → Within b e k
  outside zero k l o = absurd (not-suc-le-zero l)
  outside (suc e) k l o =
      deeper
      (λ i m t. outside e (field (node_record b k) i) (omega (arith, l, part_smaller b accepted k o.below i m t)) (outside_part b accepted k o i m t))
      (λ t. absurd (outside_no_pattern b accepted k o t))

  anywhere : (e k : ℕ) → nodes b + k < e → k < nodes b → Within b e k
  anywhere zero k l h = absurd (not-suc-le-zero l)
  anywhere (suc e) k l h =
      deeper
      (λ i m t. anywhere e (field (node_record b k) i) (omega (arith, l, part_smaller b accepted k h i m t)) (part_below b accepted k h i m t))
      (λ t. let o = scrutinee_outside b accepted k h t in outside e (scrutinee_of b k) (omega (arith, l, o.below)) o)

  pub within_deepest : (k : ℕ) → k < nodes b → Within b (deepest b) k
  unfolding deepest
  within_deepest k h = anywhere (nodes b + nodes b) k (omega arith) h

-- a tree equals itself
pub tree_itself : (b : List ℕ) {e k : ℕ} → Within b e k → same_tree b b e k k ≡ true
tree_itself b (deeper {e} {k} f g) =
    from_heads b b e k k
    (record {
      kinds = refl;
      counts = refl;
      parts = λ i l t. tree_itself b (f i l t);
      numbers = λ i l t. refl;
      owners = λ t. refl;
      scrutinees = λ t. tree_itself b (g t);
    })

-- trees that are equal are so at the depth of one of them
pub tree_within : (a b : List ℕ) (d m : ℕ) {e k : ℕ} → Within a e k → same_tree a b d k m ≡ true → same_tree a b e k m ≡ true
tree_within a b zero m {k} w q = no_tree a b k m q
tree_within a b (suc d) m (deeper {e} {k} f g) q =
    let h = heads a b d k m q in
    from_heads a b e k m
    (record {
      kinds = h.kinds;
      counts = h.counts;
      parts = λ i l t. tree_within a b d (field (node_record b m) i) (f i l t) (h.parts i l t);
      numbers = h.numbers;
      owners = h.owners;
      scrutinees = λ t. tree_within a b d (scrutinee_of b m) (g t) (h.scrutinees t);
    })
