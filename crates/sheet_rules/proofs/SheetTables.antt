-- Laws of an opened sheet with its tables: what is read through them is what the definitions say.
use mathlib.Core.Path.{◌≡◌, refl, ap, ◌∙◌}
use Prim.Native.Nat.{ℕ, ◌+◌, ◌-◌, ◌<◌}
use mathlib.Core.List.{List}
use native.Mathlib.Omega.{arith}
use lib.ListN.{get_or}
use Rattle.definitions.specs.Sizes.{most_nodes}
use Rattle.definitions.specs.Records.{record_at, field}
use Rattle.definitions.specs.Layouts.{items, functions, nodes, first_item, first_function, first_node, due, item_record, function_record, owner_of}
use Rattle.definitions.specs.References.{parameters}
use Rattle.definitions.specs.declared.Layout.TheVariants.{Sheet}
use Rattle.accepted.proofs.Head.{nodes_least, nodes_limit}
use Rattle.accepted.proofs.Owners.{owner_below}
use Rattle.file_records.specs.Index.{Opened, start_in}
use Rattle.sheet_rules.specs.Nodes.{NamesAt}
use Rattle.file_records.proofs.Indices.{indexed_field}

-- a field of a function and of a constructor, as the index shows them
pub opened_function : (b starts : List ℕ) (f j : ℕ) {x : ℕ} → Opened Sheet b starts → f < functions b
    → x ≡ field (record_at b (start_in starts (first_function Sheet b + f))) j → x ≡ field (function_record Sheet b f) j
opened_function b starts f j {x} o h e =
    indexed_field b starts (due b) (first_function Sheet b + f) j x (record_at b (start_in starts (first_function Sheet b + f))) o.index
    (omega (arith, h)) refl e

pub opened_constructor : (b starts : List ℕ) (c j : ℕ) {x : ℕ} → Opened Sheet b starts → c < items b
    → x ≡ field (record_at b (start_in starts (first_item Sheet b + c))) j → x ≡ field (item_record Sheet b c) j
opened_constructor b starts c j {x} o h e =
    indexed_field b starts (due b) (first_item Sheet b + c) j x (record_at b (start_in starts (first_item Sheet b + c))) o.index
    (omega (arith, h)) refl e

-- a function's parameter count
pub opened_parameters : (b starts : List ℕ) (f x : ℕ) → Opened Sheet b starts → f < functions b
    → x ≡ field (record_at b (start_in starts (first_function Sheet b + f))) 0 → x ≡ parameters b f
opened_parameters b starts f x = opened_function b starts f 0

-- the owner of the node of record r
module _ {b starts owners : List ℕ} {r : ℕ} (w : NamesAt b starts owners r) where
  pub node_below : r - first_node b < nodes b
  node_below = omega (arith, w.below, nodes_least Sheet b w.file.accepted)

  pub node_narrow : {f : ℕ} → f ≡ first_node b → r - f < most_nodes
  node_narrow e = omega (arith, e, node_below, nodes_limit Sheet b w.file.accepted)

  owner_is : (k x : ℕ) → k ≡ r - first_node b → x ≡ get_or owners k 0 → x ≡ owner_of Sheet b (r - first_node b)
  owner_is k x e f = f ∙ rw e (w.owned.entry (r - first_node b) node_below)

  owner_few : (k x : ℕ) → k ≡ r - first_node b → x ≡ get_or owners k 0 → x < functions b
  owner_few k x e f = rw (owner_is k x e f) (owner_below Sheet b w.file.accepted (r - first_node b) node_below)

  pub owner_parameters : (k : ℕ) {x : ℕ} → k ≡ r - first_node b → x ≡ get_or owners k 0 → {y : ℕ} → y ≡ field (record_at b (start_in starts (first_function Sheet b + x))) 0
      → y ≡ parameters b (owner_of Sheet b (r - first_node b))
  owner_parameters k {x} e f {y} g = opened_parameters b starts x y w.file (owner_few k x e f) g ∙ ap (parameters b) (owner_is k x e f)
