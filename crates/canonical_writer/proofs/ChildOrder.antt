-- The children of a node entered into the table of order, field by field: the table from one number on becomes that from the number before.
use mathlib.Core.Path.{◌≡◌, refl, ◌∙◌}
use Prim.Native.Nat.{ℕ, suc, ◌+◌, ◌≤◌, ◌<◌}
use mathlib.Core.List.{List, [], ◌++◌, append_assoc, append-nil}
use mathlib.Core.Bool.{Bool, true, false}
use native.Mathlib.Omega.{arith}
use native.Mathlib.Numerals.{add-one}
use native.Mathlib.Decide.{ℕ_discrete}
use lib.ListN.{length, set, length-set}
use lib.Seq.{get_or-set_other}
use Rattle.definitions.specs.Sizes.{most_nodes}
use Rattle.definitions.specs.Records.{kind_of, field}
use Rattle.definitions.specs.Layouts.{nodes, node_record}
use Rattle.definitions.specs.Trees.{names_node}
use Rattle.definitions.specs.Translate.{record_words}
use Rattle.definitions.specs.CanonicalSheet.{bodies, first_fields, fields_of, field_words, tree_words}
use Rattle.canonical_sheets.proofs.FirstFields.{records_branch, records_plain}
use Rattle.canonical_sheets.proofs.WholeTrees.{kind_at, up_to}
use Rattle.canonical_writer.specs.Sizes.{tree_size}
use Rattle.canonical_writer.specs.Order.{entry_at, first_number, Roots, Numbered, Renumbered, OrderFrom, EnterAt}
use Rattle.canonical_writer.proofs.FieldSteps.{plain_field, node_field, node_is}
use Rattle.canonical_writer.proofs.Passing.{Passing, number_few, passed_all, passed_to, child_below, child_within}
use Rattle.canonical_writer.proofs.RecordsFrom.{records_from, records_kept, records_before}
use Rattle.canonical_writer.proofs.Roots.{roots_more, LastRoot, last_root}

-- the nodes that the first i fields of node k name are entered: node k gets number q, and the next tree starts at `start`
pub record Children (b order₀ order : List ℕ) (q k start i : ℕ) : Type 0 where
  pub full : length order ≡ most_nodes
  pub kept : (j : ℕ) → q ≤ j → entry_at order j ≡ entry_at order₀ j
  pub words : List ℕ
  pub roots : Roots b order start (words ++ tree_words (first_number b q k) (up_to b k i))
  pub rest : tree_words 0 (bodies b) ≡ words ++ tree_words (first_number b q k) (fields_of b k) ++ records_from b order₀ q

words_none : (b : List ℕ) (k s : ℕ) → tree_words s (up_to b k 0) ≡ []
unfolding first_fields tree_words
words_none b k s = refl

-- node k gets number q
module _ {b starts sizes order₀ : List ℕ} {q : ℕ} (p : EnterAt b starts sizes order₀ q) {k : ℕ} (e : k ≡ entry_at order₀ q) where
  last : LastRoot b order₀ q k p.above.words
  last = last_root p.above.roots refl e

  pub renumbered : Renumbered b sizes q k
  renumbered = record { accepted = p.sheet.sheet.accepted; sized = p.sheet.sized; below = p.below; numbered = last.numbered }

  pub children_begin : {start : ℕ} → start + tree_size b k ≡ q + 1 → Children b order₀ order₀ q k start 0
  children_begin {start} f =
      let s : start ≡ first_number b q k = omega (arith, f) in
      record {
        full = p.above.full;
        kept = λ j l. refl;
        words = last.before;
        roots = rw (words_none, append-nil, s) last.roots;
        rest = records_before b order₀ last.before (tree_words (first_number b q k) (fields_of b k)) p.below e p.above.rest last.is;
      }

  -- all fields are passed
  pub children_done : {order rec : List ℕ} {kind count start i : ℕ} → Passing b sizes rec q k kind count start i → Children b order₀ order q k start i → count ≤ i
      → OrderFrom b order q
  children_done {order} w v l =
      record {
        full = v.full;
        words = v.words ++ tree_words (first_number b q k) (fields_of b k);
        roots = rw (passed_to w l, passed_all w l) at v.roots;
        rest = v.rest ∙ rw (records_kept b order₀ order q v.kept) refl;
        entry = entry;
      }
    where
      entry : (j : ℕ) → q ≤ j → j < nodes b → Numbered b j (entry_at order j)
      entry j r h = elim (ℕ_discrete j q) [
        | yes c ↦ rw (v.kept j r, c, ← e) last.numbered
        | no c ↦ rw (v.kept j r) (p.above.entry j (omega (arith, c, r)) h)
      ]

-- one field more
module _ {b sizes rec order₀ order : List ℕ} {q k kind count start i : ℕ} (w : Passing b sizes rec q k kind count start i)
    (v : Children b order₀ order q k start i) (l : i < count) {t : Bool} (e : t ≡ names_node kind i) where
  pub children_plain : t ≡ false → Children b order₀ order q k start (i + 1)
  children_plain f =
      let same = records_plain (kind_at b) (fields_of b) (node_record b k) i (plain_field w.at_field e f) (first_number b q k) in
      record { full = v.full; kept = v.kept; words = v.words; roots = rw (add-one, same) v.roots; rest = v.rest }

  -- which names node x
  module _ (f : t ≡ true) {x : ℕ} (g : x ≡ field rec i) where
    words_more : v.words ++ tree_words (first_number b q k) (up_to b k (i + 1))
        ≡ v.words ++ tree_words (first_number b q k) (up_to b k i) ++ tree_words start (fields_of b x)
        ++ record_words (kind_of (node_record b x)) (field_words start (fields_of b x))
    words_more =
        let accepted = w.node.accepted in
        let below = w.node.numbered.below in
        let names = node_field w.at_field accepted below l e f g in
        rw (add-one, w.begun, node_is w.at_field accepted below l e f g, records_branch (kind_at b) (fields_of b) (node_record b k) i names (first_number b q k))
        (simp append_assoc)

    pub children_node : {m n : ℕ} → n ≡ start + tree_size b x → suc m ≡ n → Children b order₀ (set order m x) q k n (i + 1)
    children_node {m} h r =
        let within = child_within w l e f g in
        record {
          full = length-set order m x ∙ v.full;
          kept = λ j d. get_or-set_other order m j x 0 (λ z. omega (arith, z, d, h, r, within)) ∙ v.kept j d;
          words = v.words;
          roots = roots_more v.roots (child_below w l e f g) h r (omega (arith, h, within, v.full, number_few w.node)) words_more;
          rest = v.rest;
        }
