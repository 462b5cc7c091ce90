-- One turn of a loop over the fields of a node, where the table of sizes is right for the nodes before it.
use mathlib.Core.Path.{◌≡◌, sym, ap, ◌∙◌}
use Prim.Native.Nat.{ℕ, suc, ◌+◌, ◌≤◌, ◌<◌}
use mathlib.Core.List.{List}
use mathlib.Core.Bool.{Bool, true, false}
use native.Mathlib.Omega.{arith}
use native.Mathlib.Numerals.{add-one}
use lib.ListN.{get_or}
use Rattle.definitions.specs.Records.{kind_of, field, field_count}
use Rattle.definitions.specs.Layouts.{nodes, node_record}
use Rattle.definitions.specs.Checks.{sheet_verdict}
use Rattle.definitions.specs.Trees.{names_node}
use Rattle.definitions.specs.CanonicalSheet.{fields_of, size_of}
use Rattle.definitions.specs.Verdict.{Accepted}
use Rattle.trees.proofs.Parts.{part_smaller}
use Rattle.canonical_sheets.proofs.FirstFields.{size_none, size_branch, size_plain, sizes_rise}
use Rattle.canonical_sheets.proofs.WholeTrees.{kind_at, up_to, tree_law}
use Rattle.canonical_writer.specs.Sizes.{tree_size, Sizes}
use Rattle.canonical_writer.proofs.SizeLimits.{whole_size}

-- before field i of node k
pub record AtField (b rec : List ℕ) (k kind count i : ℕ) : Type 0 where
  pub there : rec ≡ node_record b k
  pub kinds : kind ≡ kind_of rec
  pub counts : count ≡ field_count rec
  pub reached : i ≤ count

pub first_field : {b rec : List ℕ} {k kind count : ℕ} → rec ≡ node_record b k → kind ≡ kind_of rec → count ≡ field_count rec → AtField b rec k kind count 0
first_field e f g = record { there = e; kinds = f; counts = g; reached = omega arith }

pub next_field : {b rec : List ℕ} {k kind count i : ℕ} → AtField b rec k kind count i → i < count → AtField b rec k kind count (i + 1)
next_field w l = record { there = w.there; kinds = w.kinds; counts = w.counts; reached = omega arith }

module _ {b rec : List ℕ} {k kind count i : ℕ} (w : AtField b rec k kind count i) where
  pub field_inside : i < count → i < field_count rec
  field_inside l = omega (arith, w.counts)

  -- no field is passed, or all are
  pub none_passed : size_of (up_to b k 0) ≡ 0
  none_passed = size_none (kind_at b) (fields_of b) (node_record b k)

  pub all_passed : sheet_verdict b ≡ Accepted → k < nodes b → count ≤ i → up_to b k i ≡ fields_of b k
  all_passed accepted below l =
      let e : i ≡ field_count rec = omega (arith, w.counts, w.reached) in
      ap (up_to b k) (rw w.there at e) ∙ sym (tree_law b accepted k below)

  names_is : {t : Bool} (u : Bool) → t ≡ names_node kind i → t ≡ u → names_node (kind_of (node_record b k)) i ≡ u
  names_is u e f = rw (← w.there, ← w.kinds) (sym e ∙ f)

  -- a field that names no node
  module _ {t : Bool} (e : t ≡ names_node kind i) (f : t ≡ false) where
    pub plain_field : names_node (kind_of (node_record b k)) i ≡ false
    plain_field = names_is false e f

    pub plain_size : size_of (up_to b k (i + 1)) ≡ size_of (up_to b k i)
    plain_size = rw add-one (size_plain (kind_at b) (fields_of b) (node_record b k) i plain_field)

  -- a field that names node x
  module _ (accepted : sheet_verdict b ≡ Accepted) (below : k < nodes b) (l : i < count) {t : Bool} (e : t ≡ names_node kind i) (f : t ≡ true)
      {x : ℕ} (g : x ≡ field rec i) where
    pub node_field : names_node (kind_of (node_record b k)) i ≡ true
    node_field = names_is true e f

    pub node_is : x ≡ field (node_record b k) i
    node_is = rw w.there at g

    inside : i < field_count (node_record b k)
    inside = rw w.there at (field_inside l)

    pub node_smaller : x < k
    node_smaller = rw node_is (part_smaller b accepted k below i inside node_field)

    pub node_size : size_of (up_to b k (i + 1)) ≡ size_of (up_to b k i) + tree_size b x
    node_size = rw (add-one, node_is) (omega (arith, size_branch (kind_at b) (fields_of b) (node_record b k) i node_field))

    pub size_within : size_of (up_to b k (i + 1)) ≤ size_of (fields_of b k)
    size_within =
        rw add-one (omega (arith, sizes_rise (kind_at b) (fields_of b) (node_record b k) (suc i) (field_count (node_record b k)) inside, whole_size b accepted k below))

    -- its entry in the table of sizes
    pub node_entry : {sizes : List ℕ} {n y : ℕ} → Sizes b sizes n → k ≤ n → y ≡ x → get_or sizes y 0 ≡ tree_size b x
    node_entry s h q = rw q (s.entry x (omega (arith, node_smaller)))
