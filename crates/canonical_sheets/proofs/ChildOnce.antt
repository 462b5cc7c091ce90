-- In a tree that stands in a file each node but the root is a child once, and the root never.
use mathlib.Core.Path.{◌≡◌, refl, sym, ap, ◌∙◌}
use Prim.Native.Nat.{ℕ, zero, suc, ◌+◌, ◌≤◌, ◌<◌}
use mathlib.Core.List.{List}
use mathlib.Core.Bool.{Bool, true, false, cond}
use native.Mathlib.Omega.{arith}
use lib.Dec.{eqb}
use Rattle.definitions.specs.Records.{kind_of, field, field_count}
use Rattle.definitions.specs.Lists.{sum_of}
use Rattle.definitions.specs.Layouts.{node_record}
use Rattle.definitions.specs.References.{children, child}
use Rattle.definitions.specs.Trees.{names_node}
use Rattle.canonical_sheets.proofs.Sums.{count_sum}
use Rattle.canonical_sheets.proofs.ChildFields.{over_nodes, over_children}
use Rattle.canonical_sheets.proofs.Sizes.{times}
use Rattle.canonical_sheets.proofs.Placed.{Starts, Placed, placed}

-- 1 at node x, 0 at others
abbrev pub one_at : ℕ → ℕ → ℕ
one_at x i = cond (eqb i x) 1 0

module _ (b c : List ℕ) (x : ℕ) where
  -- how often node x is a child of node p
  abbrev times_of : ℕ → ℕ
  times_of p = times c p x

  times_fields : (p : ℕ) → times_of p ≡ over_nodes (node_record c p) (one_at x) (field_count (node_record c p))
  times_fields p = count_sum (children (node_record c p)) (λ j. eqb (child (node_record c p) j) x) ∙ sym (over_children (node_record c p) (one_at x))

  -- one field more: its tree, with its root at node r, stands from node m to before node u
  field_once : (s m u r n : ℕ) (t : Bool) → (t ≡ false → u ≡ m) → (t ≡ true → u ≡ suc r)
      → (t ≡ true → sum_of (suc r) times_of + sum_of m (one_at x) ≡ sum_of r (one_at x) + sum_of m times_of)
      → sum_of m times_of + n + sum_of s (one_at x) ≡ sum_of m (one_at x) + sum_of s times_of
      → sum_of u times_of + (n + cond t (one_at x r) 0) + sum_of s (one_at x) ≡ sum_of u (one_at x) + sum_of s times_of
  unfolding sum_of
  field_once s m u r n true stays passes below h =
      let v : sum_of (suc r) (one_at x) ≡ sum_of r (one_at x) + one_at x r = refl in
      rw (passes refl) (omega (arith, below refl, h, v))
  field_once s m u r n false stays passes below h = rw (stays refl) (omega (arith, h))

  fields_once : {s k q : ℕ} (w : Starts b c s k q) → kind_of (node_record c q) ≡ kind_of (node_record b k)
      → ((i : ℕ) → i < field_count (node_record b k) → names_node (kind_of (node_record b k)) i ≡ true
      → sum_of (suc (field (node_record c q) i)) times_of + sum_of (w.start i) (one_at x)
      ≡ sum_of (field (node_record c q) i) (one_at x) + sum_of (w.start i) times_of)
      → (n : ℕ) → n ≤ field_count (node_record b k)
      → sum_of (w.start n) times_of + over_nodes (node_record c q) (one_at x) n + sum_of s (one_at x) ≡ sum_of (w.start n) (one_at x) + sum_of s times_of
  unfolding sum_of
  fields_once w kinds below zero h = rw w.from (omega arith)
  fields_once {s} {q} w kinds below (suc n) h =
      let two = node_record c q in
      field_once s (w.start n) (w.start (suc n)) (field two n) (over_nodes two (one_at x) n) (names_node (kind_of two) n)
      (λ t. w.stays n h (rw kinds at t)) (λ t. w.passes n h (rw kinds at t)) (λ t. below n h (rw kinds at t))
      (fields_once w kinds below n (omega (arith, h)))

  pub tree_once : {f s k q : ℕ} → Placed b c f s k q → sum_of (suc q) times_of + sum_of s (one_at x) ≡ sum_of q (one_at x) + sum_of s times_of
  unfolding sum_of
  tree_once (placed {k} {q} y w below) =
      let n = field_count (node_record b k) in
      let g = fields_once w y.kinds (λ i h t. tree_once (below i h t)) n (omega arith) in
      let t : times_of q ≡ over_nodes (node_record c q) (one_at x) n = times_fields q ∙ ap (over_nodes (node_record c q) (one_at x)) y.counts in
      let u : sum_of (w.start n) times_of ≡ sum_of q times_of = ap (λ (m : ℕ). sum_of m times_of) w.to in
      let v : sum_of (w.start n) (one_at x) ≡ sum_of q (one_at x) = ap (λ (m : ℕ). sum_of m (one_at x)) w.to in
      omega (arith, g, t, u, v)
