-- Sheets that are equal up to types have the same equal trees.
use mathlib.Core.Path.{◌≡◌, refl, ap, ap₂, ◌∙◌, fun_ext}
use Prim.Native.Nat.{ℕ, zero, suc, ◌+◌}
use mathlib.Core.List.{List}
use mathlib.Core.Bool.{Bool, ◌&&◌}
use Rattle.definitions.specs.Records.{kind_of}
use Rattle.definitions.specs.Layouts.{node_record}
use Rattle.definitions.specs.Trees.{same_fields, same_place, same_tree, deepest, equal_trees}
use Rattle.typed_sheets.specs.UpToTypes.{EqualUpToTypes}
use Rattle.typed_sheets.proofs.SameRuns.{same_owner, same_scrutinee}

module _ {a b : List ℕ} (e : EqualUpToTypes a b) where
  same_place_law : (same : ℕ → ℕ → Bool) (kind k m : ℕ) → same_place same a a kind k m ≡ same_place same b b kind k m
  unfolding same_place
  same_place_law same kind k m = rw (same_owner e k, same_owner e m, same_scrutinee e k, same_scrutinee e m) refl

  same_tree_law : (d : ℕ) → same_tree a a d ≡ same_tree b b d
  unfolding same_tree
  same_tree_law zero = refl
  same_tree_law (suc d) =
      fun_ext (λ k. fun_ext (λ m.
      ap₂ (λ (x y : List ℕ). same_fields (same_tree a a d) x y && same_place (same_tree a a d) a a (kind_of x) k m) (e.records k) (e.records m)
      ∙ ap (λ t. same_fields (same_tree a a d) (node_record b k) (node_record b m) && t) (same_place_law (same_tree a a d) (kind_of (node_record b k)) k m)
      ∙ ap (λ (same : ℕ → ℕ → Bool). same_fields same (node_record b k) (node_record b m) && same_place same b b (kind_of (node_record b k)) k m) (same_tree_law d)))

  same_deepest : deepest a ≡ deepest b
  unfolding deepest
  same_deepest = ap (λ n. n + n) e.nodes

  pub same_equal_trees : equal_trees a ≡ equal_trees b
  unfolding equal_trees
  same_equal_trees = ap (same_tree a a) same_deepest ∙ same_tree_law (deepest b)
