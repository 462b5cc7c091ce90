-- The loops over the fields of a node that gets a new number: the nodes in the fields passed have the numbers before `start`.
use mathlib.Core.Path.{◌≡◌, ap, ◌∙◌}
use Prim.Native.Nat.{ℕ, ◌+◌, ◌≤◌, ◌<◌}
use mathlib.Core.List.{List}
use mathlib.Core.Bool.{Bool, true, false}
use native.Mathlib.Omega.{arith}
use lib.ListN.{get_or}
use Rattle.definitions.specs.Sizes.{most_nodes}
use Rattle.definitions.specs.Records.{field}
use Rattle.definitions.specs.Layouts.{nodes}
use Rattle.definitions.specs.Trees.{names_node}
use Rattle.definitions.specs.CanonicalSheet.{fields_of, size_of}
use Rattle.definitions.specs.declared.Layout.TheVariants.{Sheet}
use Rattle.accepted.proofs.Head.{nodes_limit}
use Rattle.accepted.proofs.Checks.{sheet_shape}
use Rattle.canonical_sheets.proofs.WholeTrees.{up_to}
use Rattle.canonical_writer.specs.Sizes.{tree_size}
use Rattle.canonical_writer.specs.Order.{first_number, Renumbered}
use Rattle.canonical_writer.proofs.FieldSteps.{AtField, next_field, none_passed, all_passed, plain_size, node_smaller, node_size, size_within}

-- before field i of a node that gets a new number
pub record Passing (b sizes rec : List ℕ) (q k kind count start i : ℕ) : Type 0 where
  pub node : Renumbered b sizes q k
  pub at_field : AtField b rec k kind count i
  pub begun : start ≡ first_number b q k + size_of (up_to b k i)

module _ {b sizes : List ℕ} {q k : ℕ} (p : Renumbered b sizes q k) where
  nodes_few : nodes b ≤ most_nodes
  nodes_few = nodes_limit Sheet b (sheet_shape b p.accepted)

  pub number_few : q < most_nodes
  number_few = omega (arith, p.below, nodes_few)

  pub node_few : k < most_nodes
  node_few = omega (arith, p.numbered.below, nodes_few)

  -- its size, which its number is enough for
  pub own_size : {x : ℕ} → x ≡ get_or sizes k 0 → x ≡ tree_size b k
  own_size e = e ∙ p.sized.entry k p.numbered.below

  pub size_room : tree_size b k ≤ q + 1
  size_room = omega (arith, p.numbered.room)

  pub passing_begins : {rec : List ℕ} {kind count start : ℕ} → AtField b rec k kind count 0 → start + tree_size b k ≡ q + 1 → Passing b sizes rec q k kind count start 0
  passing_begins f e = record { node = p; at_field = f; begun = omega (arith, e, none_passed f) }

module _ {b sizes rec : List ℕ} {q k kind count start i : ℕ} (w : Passing b sizes rec q k kind count start i) where
  -- all fields are passed
  pub passed_all : count ≤ i → up_to b k i ≡ fields_of b k
  passed_all l = all_passed w.at_field w.node.accepted w.node.numbered.below l

  pub passed_to : count ≤ i → start ≡ q
  passed_to l = omega (arith, w.begun, ap size_of (passed_all l), w.node.numbered.room)

  -- a field that names no node
  module _ (l : i < count) {t : Bool} (e : t ≡ names_node kind i) where
    pub passing_plain : t ≡ false → Passing b sizes rec q k kind count start (i + 1)
    passing_plain f =
        record { node = w.node; at_field = next_field w.at_field l; begun = omega (arith, w.begun, plain_size w.at_field e f) }

    -- a field that names node x
    module _ (f : t ≡ true) {x : ℕ} (g : x ≡ field rec i) where
      pub child_below : x < nodes b
      child_below =
          let n = w.node.numbered.below in
          omega (arith, n, node_smaller w.at_field w.node.accepted n l e f g)

      pub child_few : {y : ℕ} → y ≡ x → y < most_nodes
      child_few h = omega (arith, h, child_below, nodes_few w.node)

      pub child_size : {y n : ℕ} → y ≡ x → n ≡ get_or sizes y 0 → n ≡ tree_size b x
      child_size h r = r ∙ rw h (w.node.sized.entry x child_below)

      size_more : start + tree_size b x ≡ first_number b q k + size_of (up_to b k (i + 1))
      size_more = omega (arith, w.begun, node_size w.at_field w.node.accepted w.node.numbered.below l e f g)

      pub child_within : start + tree_size b x ≤ q
      child_within =
          let n = w.node.numbered in
          omega (arith, size_more, n.room, size_within w.at_field w.node.accepted n.below l e f g)

      -- the next start is above this one, and in the table
      pub child_step : {y n : ℕ} → y ≡ x → n ≡ get_or sizes y 0 → (0 < n) × (start + n < most_nodes)
      child_step h r =
          let size = child_size h r in
          (omega (arith, size), omega (arith, size, child_within, number_few w.node))

      pub passing_node : {n : ℕ} → n ≡ start + tree_size b x → Passing b sizes rec q k kind count n (i + 1)
      passing_node h = record { node = w.node; at_field = next_field w.at_field l; begun = h ∙ size_more }
