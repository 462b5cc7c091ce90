-- No tree of an accepted sheet has more nodes than the sheet.
use mathlib.Core.Path.{◌≡◌, refl, sym, ap}
use Prim.Native.Nat.{ℕ, zero, suc, ◌+◌, ◌≤◌, ◌<◌}
use mathlib.Core.List.{List}
use mathlib.Core.Bool.{Bool, true, false, cond}
use native.Mathlib.Omega.{arith}
use native.Mathlib.Decide.{ℕ_discrete}
use Rattle.definitions.specs.Records.{kind_of, field, field_count}
use Rattle.definitions.specs.Lists.{sum_of}
use Rattle.definitions.specs.Layouts.{nodes, node_record, body_of, owner_of}
use Rattle.definitions.specs.References.{children, child}
use Rattle.definitions.specs.SheetRules.{parent_of}
use Rattle.definitions.specs.Checks.{sheet_verdict}
use Rattle.definitions.specs.Trees.{names_node}
use Rattle.definitions.specs.CanonicalSheet.{fields_of, size_of}
use Rattle.definitions.specs.declared.Layout.TheVariants.{Sheet}
use Rattle.definitions.specs.Verdict.{Accepted}
use Rattle.accepted.proofs.Sums.{sum_term}
use Rattle.accepted.proofs.Owners.{run_start, end_within_law, owner_below}
use Rattle.accepted.proofs.Children.{ChildOf}
use Rattle.accepted.proofs.Checks.{sheet_shape, trees_pass}
use Rattle.accepted.proofs.Trees.{record_child}
use Rattle.accepted.proofs.Parents.{record_parent_there}
use Rattle.canonical_sheets.proofs.ChildFields.{over_nodes, over_children}
use Rattle.canonical_sheets.proofs.Sizes.{body_size}
use Rattle.canonical_sheets.proofs.FirstFields.{size_none, size_branch, size_plain}
use Rattle.canonical_sheets.proofs.WholeTrees.{kind_at, up_to, tree_law}
use Rattle.canonical_writer.specs.Sizes.{tree_size}

module _ (b : List ℕ) (k : ℕ) where
  abbrev rec : List ℕ
  rec = node_record b k

  -- how many nodes are in the first fields, as a sum over those that name nodes
  size_by : (n m : ℕ) (t : Bool) → names_node (kind_of rec) n ≡ t → size_of (up_to b k n) ≡ m → size_of (up_to b k (suc n)) ≡ m + cond t (tree_size b (field rec n)) 0
  size_by n m true e g = omega (arith, size_branch (kind_at b) (fields_of b) rec n e, g)
  size_by n m false e g = omega (arith, size_plain (kind_at b) (fields_of b) rec n e, g)

  size_sum : (n : ℕ) → size_of (up_to b k n) ≡ over_nodes rec (tree_size b) n
  unfolding sum_of
  size_sum zero = size_none (kind_at b) (fields_of b) rec
  size_sum (suc n) = size_by n (over_nodes rec (tree_size b) n) (names_node (kind_of rec) n) refl (size_sum n)

module _ (b : List ℕ) (accepted : sheet_verdict b ≡ Accepted) where
  pub whole_size : (k : ℕ) → k < nodes b → size_of (up_to b k (field_count (node_record b k))) ≡ size_of (fields_of b k)
  whole_size k h = sym (ap size_of (tree_law b accepted k h))

  -- a child's tree is within its parent's
  child_size : (p k : ℕ) → p < nodes b → ChildOf (node_record b p) k → tree_size b k ≤ size_of (fields_of b p)
  child_size p k h c =
      let rec = node_record b p in
      let there = c.there in
      let t = sum_term c.place (children rec) (λ j. tree_size b (child rec j)) there.below in
      let e : tree_size b (child rec c.place) ≡ tree_size b k = ap (tree_size b) there.is in
      omega (arith, whole_size p h, size_sum b p (field_count rec), over_children rec (tree_size b), t, e)

  -- no tree has more nodes than the sheet
  limit_by : (d k : ℕ) → nodes b ≤ k + d → k < nodes b → tree_size b k ≤ nodes b
  limit_by zero k l h = absurd (omega (arith, l, h))
  limit_by (suc d) k l h =
      let f = owner_of Sheet b k in
      let shape = sheet_shape b accepted in
      let g = owner_below Sheet b shape k h in
      elim (ℕ_discrete k (body_of Sheet b f)) [
        | yes e ↦
            let s : tree_size b k ≡ tree_size b (body_of Sheet b f) = ap (tree_size b) e in
            omega (arith, s, body_size b accepted f g, run_start Sheet b shape f, end_within_law Sheet b shape f g)
        | no e ↦
            let p = record_parent_there b (trees_pass b accepted) k h e in
            let c = record_child b (trees_pass b accepted) (parent_of b k) k p.0 p.1 in
            omega (arith, child_size (parent_of b k) k p.0 p.1, limit_by d (parent_of b k) (omega (arith, l, c.smaller)) p.0)
      ]

  pub size_limit : {k : ℕ} → k < nodes b → tree_size b k ≤ nodes b
  size_limit {k} h = limit_by (nodes b) k (omega arith) h
