-- The ranges of the head's counts in a file whose shape is accepted.
use mathlib.Core.Path.{◌≡◌}
use Prim.Native.Nat.{ℕ, ◌≤◌}
use mathlib.Core.List.{List}
use native.Mathlib.Omega.{arith}
use borrow.Author.Tests.{eqb-true}
use Rattle.definitions.specs.Records.{record_of, kind_of}
use Rattle.definitions.specs.Layouts.{readings, items, functions, nodes, head_kind, is_due}
use Rattle.definitions.specs.Shape.{item_limit, file_shape}
use Rattle.definitions.specs.Sizes.{most_readings, most_functions, most_nodes}
use Rattle.definitions.specs.declared.Layout.{Layout}
use Rattle.definitions.specs.Verdict.{Accepted}
use Rattle.laws.proofs.Walk.{HeadRanges, head_ranges}
use Rattle.accepted.proofs.Records.{kind_due, counts_right}

module _ (y : Layout) (b : List ℕ) (accepted : file_shape y b ≡ Accepted) where
  -- the head is the first record
  pub head_kind_law : kind_of (record_of b 0) ≡ head_kind y
  unfolding is_due
  head_kind_law = eqb-true (kind_of (record_of b 0)) (head_kind y) (kind_due y b accepted 0 (omega arith))

  ranges : HeadRanges y b
  ranges = head_ranges y b (record_of b 0) (counts_right y b accepted 0 (omega arith))

  -- "readings I 0..32"
  pub readings_limit : readings b ≤ most_readings
  readings_limit = ranges.readings

  -- "constructors K 0..64", "formals P 0..512"
  pub items_limit : items b ≤ item_limit y
  items_limit = ranges.items

  -- "functions F 1..64"
  pub functions_least : 1 ≤ functions b
  functions_least = ranges.function

  pub functions_limit : functions b ≤ most_functions
  functions_limit = ranges.functions

  -- "nodes N 1..1,024"
  pub nodes_least : 1 ≤ nodes b
  nodes_least = ranges.node

  pub nodes_limit : nodes b ≤ most_nodes
  nodes_limit = ranges.nodes
