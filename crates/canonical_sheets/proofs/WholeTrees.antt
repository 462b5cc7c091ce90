-- The tree of a node without a depth.
use mathlib.Core.Path.{◌≡◌, ap, ◌∙◌}
use Prim.Native.Nat.{ℕ, suc, ◌-◌, ◌<◌}
use mathlib.Core.List.{List}
use native.Mathlib.Omega.{arith}
use Rattle.definitions.specs.Records.{kind_of, field, field_count}
use Rattle.definitions.specs.Layouts.{nodes, node_record}
use Rattle.definitions.specs.Checks.{sheet_verdict}
use Rattle.definitions.specs.CanonicalSheet.{Fields, first_fields, fields_within, fields_of}
use Rattle.definitions.specs.Verdict.{Accepted}
use Rattle.trees.proofs.Parts.{part_smaller}
use Rattle.canonical_sheets.proofs.Sizes.{depths, first_fields_same}

-- the kind of node n
abbrev pub kind_at : List ℕ → ℕ → ℕ
kind_at b n = kind_of (node_record b n)

-- the first i fields of node k
abbrev pub up_to : List ℕ → ℕ → ℕ → Fields
up_to b k i = first_fields (kind_at b) (fields_of b) (node_record b k) i

module _ (b : List ℕ) (accepted : sheet_verdict b ≡ Accepted) where
  tree_by : (d k : ℕ) → nodes b ≡ suc d → k < nodes b → fields_within b (suc d) k ≡ up_to b k (field_count (node_record b k))
  unfolding fields_within
  tree_by d k e h =
      first_fields_same (kind_at b) (fields_within b d) (fields_of b) (node_record b k) (field_count (node_record b k))
      (λ i l t.
      let s = part_smaller b accepted k h i l t in
      depths b accepted d (nodes b) (field (node_record b k) i) (omega (arith, s, h, e)) (omega (arith, s, h)) (omega (arith, s, h)))

  pub tree_law : (k : ℕ) → k < nodes b → fields_of b k ≡ up_to b k (field_count (node_record b k))
  tree_law k h =
      let n = nodes b - 1 in
      let e : nodes b ≡ suc n = omega (arith, h) in
      ap (λ (d : ℕ). fields_within b d k) e ∙ tree_by n k e h
