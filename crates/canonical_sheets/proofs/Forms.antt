-- The trees of a file of bytes are formed.
use mathlib.Core.Path.{◌≡◌, refl}
use Prim.Native.Nat.{ℕ, zero, suc, ◌+◌, ◌*◌, ◌≤◌, ◌<◌}
use mathlib.Core.List.{List, []}
use mathlib.Core.Bool.{Bool, true, false, cond}
use native.Mathlib.Omega.{arith}
use lib.ListN.{length, take, drop, length-take}
use Rattle.definitions.specs.Bytes.{word}
use Rattle.definitions.specs.Records.{whole, start_of, record_at, record_of, kind_of, field, field_count}
use Rattle.definitions.specs.SheetKinds
use Rattle.definitions.specs.Layouts.{nodes, first_node, node_record, body_of}
use Rattle.definitions.specs.References.{every_other, from_first}
use Rattle.definitions.specs.Trees.{names_node}
use Rattle.definitions.specs.CanonicalSheet.{Fields, none, plain, branch, first_fields, fields_within, first_bodies}
use Rattle.definitions.specs.declared.Layout.TheVariants.{Sheet}
use Rattle.laws.proofs.ByteFiles.{Bytes, record_below, word_below}
use Rattle.canonical_sheets.proofs.Stands.{width_of, Formed, formed_none, formed_plain, formed_branch}

-- the first fields of a record, one after the other
module _ (kind : ℕ → ℕ) (below : ℕ → Fields) (rec : List ℕ) where
  abbrev first : ℕ → Fields
  first n = first_fields kind below rec n

  module _ (P : ℕ → Fields → Type 0)
      (node : (n : ℕ) → names_node (kind_of rec) n ≡ true → P n (first n) → P (suc n) (branch (first n) (kind (field rec n)) (below (field rec n))))
      (number : (n : ℕ) → names_node (kind_of rec) n ≡ false → P n (first n) → P (suc n) (plain (first n) (field rec n))) where
    field_by : (n : ℕ) (t : Bool) → names_node (kind_of rec) n ≡ t → P n (first n)
        → P (suc n) (cond t (branch (first n) (kind (field rec n)) (below (field rec n))) (plain (first n) (field rec n)))
    field_by n true e p = node n e p
    field_by n false e p = number n e p

    pub field_by_field : P 0 none → (n : ℕ) → P n (first n)
    unfolding first_fields
    field_by_field p zero = p
    field_by_field p (suc n) = field_by n (names_node (kind_of rec) n) refl (field_by_field p n)

  pub first_width : (n : ℕ) → width_of (first n) ≡ n
  unfolding width_of
  first_width n = field_by_field (λ m fs. width_of fs ≡ m) (λ m t e. rw e refl) (λ m t e. rw e refl) refl n

  formed_first : ((x : ℕ) → kind x < 65536) → ((x : ℕ) → width_of (below x) < 32766) → ((x : ℕ) → Formed (kind x) (below x)) → ((i : ℕ) → field rec i < 65536)
      → (n : ℕ) → Formed (kind_of rec) (first n)
  formed_first p q r e n =
      field_by_field (λ m fs. Formed (kind_of rec) fs)
      (λ m t f. formed_branch f (rw (first_width m) t) (p (field rec m)) (q (field rec m)) (r (field rec m)))
      (λ m t f. formed_plain f (rw (first_width m) t) (e m)) formed_none n

length_by : (t : Bool) (n : ℕ) (l : List ℕ) → length (cond t (take n l) []) ≤ n
length_by true n l = rw (length-take n l) (omega arith)
length_by false n l = omega arith

-- each field of an if names a node
names_all : (i : ℕ) → names_node SheetKinds.conditional i ≡ true
unfolding names_node every_other from_first
names_all i = refl

module _ (b : List ℕ) (bytes : Bytes b) where
  node_bytes_law : (k : ℕ) → Bytes (node_record b k)
  unfolding record_of
  node_bytes_law k = record_below b (start_of b (first_node b + k)) bytes

  pub kind_small : (k : ℕ) → kind_of (node_record b k) < 65536
  kind_small k = word_below (node_record b k) 2 (node_bytes_law k)

  field_small : (k i : ℕ) → field (node_record b k) i < 65536
  field_small k i = word_below (node_record b k) (4 + 2 * i) (node_bytes_law k)

  count_small : (k : ℕ) → field_count (node_record b k) < 32766
  unfolding record_of record_at field_count
  count_small k =
      let at = start_of b (first_node b + k) in
      omega (arith, length_by (whole b at) (word b at) (drop at b), word_below b at bytes)

  tree_width : (d k : ℕ) → width_of (fields_within b d k) < 32766
  unfolding fields_within width_of
  tree_width zero k = omega arith
  tree_width (suc d) k = rw (first_width (λ n. kind_of (node_record b n)) (fields_within b d) (node_record b k) (field_count (node_record b k))) (count_small k)

  pub tree_formed : (d k : ℕ) → Formed (kind_of (node_record b k)) (fields_within b d k)
  unfolding fields_within
  tree_formed zero k = formed_none
  tree_formed (suc d) k =
      formed_first (λ n. kind_of (node_record b n)) (fields_within b d) (node_record b k) kind_small (tree_width d) (tree_formed d) (field_small k)
      (field_count (node_record b k))

  -- bodies are formed as the fields of an if
  pub bodies_formed : (f : ℕ) → Formed SheetKinds.conditional (first_bodies b f)
  unfolding first_bodies
  bodies_formed zero = formed_none
  bodies_formed (suc f) =
      formed_branch (bodies_formed f) (names_all (width_of (first_bodies b f))) (kind_small (body_of Sheet b f)) (tree_width (nodes b) (body_of Sheet b f))
      (tree_formed (nodes b) (body_of Sheet b f))
