-- The records of nodes with their new numbers, as they are written.
use mathlib.Core.Path.{◌≡◌, sym, ◌∙◌}
use Prim.Native.Nat.{ℕ, ◌+◌, ◌*◌, ◌≤◌, ◌<◌}
use mathlib.Core.List.{List, [], ◌∷◌}
use native.Mathlib.Omega.{arith}
use lib.ListN.{length}
use Rattle.definitions.specs.Sizes.{most_nodes}
use Rattle.definitions.specs.Records.{record_of, kind_of, field_count}
use Rattle.definitions.specs.Layouts.{nodes, first_node, due, node_record}
use Rattle.definitions.specs.Checks.{sheet_verdict}
use Rattle.definitions.specs.CanonicalSheet.{fields_of, field_words}
use Rattle.definitions.specs.declared.Layout.TheVariants.{Sheet}
use Rattle.definitions.specs.Verdict.{Accepted}
use Rattle.accepted.proofs.Sums.{sum_term}
use Rattle.accepted.proofs.Head.{nodes_limit}
use Rattle.accepted.proofs.Records.{within_limit, records_fill, record_fields, start_sum}
use Rattle.accepted.proofs.Checks.{sheet_shape}
use Rattle.translation_words.specs.Writing.{WroteWords}
use Rattle.translation_words.proofs.Writing.{wrote_record}
use Rattle.canonical_sheets.proofs.Stands.{words_width}
use Rattle.canonical_sheets.proofs.Lengths.{width_of_law}
use Rattle.canonical_writer.specs.Order.{entry_at, first_number, numbered_words, Renumbered}
use Rattle.canonical_writer.specs.Writing.{PutAt}

-- a record is no longer than the sheet
record_few : (b : List ℕ) → sheet_verdict b ≡ Accepted → (k : ℕ) → k < nodes b → field_count (node_record b k) ≤ 65535
record_few b accepted k h =
    let shape = sheet_shape b accepted in
    let term = sum_term (first_node b + k) (due b) (λ i. length (record_of b i)) (omega arith) in
    omega (
      arith,
      term,
      start_sum Sheet b shape (due b) (omega arith),
      records_fill Sheet b shape,
      within_limit Sheet b shape,
      record_fields Sheet b shape (first_node b + k) (omega arith),
    )

module _ {b starts sizes order : List ℕ} {q : ℕ} (p : PutAt b starts sizes order q) where
  abbrev accepted : sheet_verdict b ≡ Accepted
  accepted = p.tables.sheet.sheet.accepted

  pub number_few : q < most_nodes
  number_few = omega (arith, p.below, nodes_limit Sheet b (sheet_shape b accepted))

  -- node k gets number q
  module _ {k : ℕ} (e : k ≡ entry_at order q) where
    pub renumbered : Renumbered b sizes q k
    renumbered =
        record { accepted = accepted; sized = p.tables.sheet.sized; below = p.below; numbered = rw e (p.tables.ordered.entry q p.below) }

    -- its record
    module _ {rec : List ℕ} (f : rec ≡ node_record b k) where
      pub fields_few : {n : ℕ} → n ≡ field_count rec → n ≤ 65535
      fields_few g = rw (g, f) (record_few b accepted k renumbered.numbered.below)

      pub node_written : {out : List ℕ} {at kind count n : ℕ} {o : List ℕ} {m : ℕ} {o' : List ℕ} → WroteWords out at ((4 + 2 * count) ∷ kind ∷ []) n o
          → WroteWords o n (field_words (first_number b q k) (fields_of b k)) m o' → kind ≡ kind_of rec → count ≡ field_count rec
          → WroteWords out at (numbered_words b q (entry_at order q)) m o'
      unfolding numbered_words
      node_written {count = count} w v g h =
          let width : count ≡ length (field_words (first_number b q k) (fields_of b k))
          = rw f at h ∙ sym (words_width (first_number b q k) (fields_of b k) ∙ width_of_law b k renumbered.numbered.below) in
          rw (← e, ← f, ← g) (wrote_record w v width)
