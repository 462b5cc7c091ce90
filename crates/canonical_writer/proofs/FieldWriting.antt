-- The fields of a node that gets a new number, while they are written.
use mathlib.Core.Path.{◌≡◌, ◌∙◌}
use Prim.Native.Nat.{ℕ, suc, ◌+◌, ◌≤◌, ◌<◌}
use mathlib.Core.List.{List, [], ◌∷◌}
use mathlib.Core.Bool.{Bool, true, false}
use native.Mathlib.Omega.{arith}
use native.Mathlib.Numerals.{add-one}
use Rattle.definitions.specs.Records.{field}
use Rattle.definitions.specs.Layouts.{node_record}
use Rattle.definitions.specs.Trees.{names_node}
use Rattle.definitions.specs.CanonicalSheet.{fields_of, size_of, field_words}
use Rattle.translation_words.specs.Writing.{WroteWords}
use Rattle.translation_words.proofs.Writing.{wrote_nothing, wrote_then, wrote_element}
use Rattle.canonical_sheets.proofs.FirstFields.{words_none, words_branch, words_plain}
use Rattle.canonical_sheets.proofs.WholeTrees.{kind_at, up_to}
use Rattle.canonical_writer.specs.Sizes.{tree_size}
use Rattle.canonical_writer.specs.Order.{first_number}
use Rattle.canonical_writer.proofs.FieldSteps.{plain_field, node_field}
use Rattle.canonical_writer.proofs.Passing.{Passing, passed_all}

-- the first i fields are written
pub record FieldsWritten (b out : List ℕ) (at q k i next : ℕ) (o : List ℕ) : Type 0 where
  pub wrote : WroteWords out at (field_words (first_number b q k) (up_to b k i)) next o

pub fields_begin : {b out : List ℕ} {at q k : ℕ} → FieldsWritten b out at q k 0 at out
fields_begin {b} {out} {at} {k = k} = record { wrote = rw (words_none (kind_at b) (fields_of b) (node_record b k)) (wrote_nothing out at) }

module _ {b sizes rec out : List ℕ} {at q k kind count start i next : ℕ} {o : List ℕ} (w : Passing b sizes rec q k kind count start i)
    (v : FieldsWritten b out at q k i next o) where
  pub fields_end : count ≤ i → WroteWords out at (field_words (first_number b q k) (fields_of b k)) next o
  fields_end l = rw (passed_all w l) at v.wrote

  -- one field more, which holds y
  module _ (l : i < count) {t : Bool} (e : t ≡ names_node kind i) {x y m : ℕ} {p : List ℕ} (g : x ≡ field rec i) (u : WroteWords o next (y ∷ []) m p) where
    field_is : x ≡ field (node_record b k) i
    field_is = rw w.at_field.there at g

    pub fields_plain : t ≡ false → y ≡ x → FieldsWritten b out at q k (i + 1) m p
    fields_plain f h =
        record {
          wrote = rw (add-one, words_plain (kind_at b) (fields_of b) (node_record b k) i (plain_field w.at_field e f) (first_number b q k)) (wrote_then v.wrote (wrote_element (h ∙ field_is) u));
        }

    pub fields_node : t ≡ true → suc y ≡ start + tree_size b x → FieldsWritten b out at q k (i + 1) m p
    fields_node f h =
        let names = node_field w.at_field w.node.accepted w.node.numbered.below l e f g in
        let z : y ≡ first_number b q k + size_of (up_to b k i) + size_of (fields_of b (field (node_record b k) i))
        = rw (← field_is) (omega (arith, h, w.begun)) in
        record { wrote = rw (add-one, words_branch (kind_at b) (fields_of b) (node_record b k) i names (first_number b q k)) (wrote_then v.wrote (wrote_element z u)) }
