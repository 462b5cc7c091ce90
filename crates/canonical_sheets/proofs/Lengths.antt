-- The canonical file is as long as the sheet.
use mathlib.Core.Path.{◌≡◌, refl, ap, ◌∙◌}
use Prim.Native.Nat.{ℕ, zero, suc, ◌+◌, ◌*◌, ◌≤◌, ◌<◌}
use mathlib.Core.List.{List, ◌++◌}
use native.Mathlib.Omega.{arith}
use native.Mathlib.Nat.{not-suc-le-zero}
use lib.ListN.{length, length-append}
use Rattle.definitions.specs.Bytes.{bytes_of}
use Rattle.definitions.specs.Records.{start_of, record_of, kind_of, field_count}
use Rattle.definitions.specs.Lists.{sum_of}
use Rattle.definitions.specs.Layouts.{functions, nodes, first_node, due, node_record}
use Rattle.definitions.specs.Shape.{file_shape}
use Rattle.definitions.specs.Checks.{sheet_verdict}
use Rattle.definitions.specs.CanonicalSheet.{Fields, none, plain, branch, fields_within, fields_of, bodies, size_of, field_words, tree_words, sections, canonical}
use Rattle.definitions.specs.Translate.{record_words}
use Rattle.definitions.specs.declared.Layout.TheVariants.{Sheet}
use Rattle.definitions.specs.Verdict.{Accepted}
use Rattle.laws.proofs.Words.{bytes_length}
use Rattle.accepted.proofs.Sums.{sum_same}
use Rattle.accepted.proofs.Records.{records_fill, record_fields, start_sum}
use Rattle.accepted.proofs.Sections.{node_counts_sum}
use Rattle.accepted.proofs.Checks.{sheet_shape}
use Rattle.readback.proofs.Made.{words_length}
use Rattle.readback.proofs.Totals.{sum_parts, sum_twice}
use Rattle.canonical_sheets.proofs.Stands.{width_of, words_width}
use Rattle.canonical_sheets.proofs.Forms.{first_width}
use Rattle.canonical_sheets.proofs.Sizes.{tally, tallies}
use Rattle.canonical_sheets.proofs.ReadBack.{sections_length}

-- a record's words are its length, its kind and its fields
words_tally : (s : ℕ) (fs : Fields) → length (tree_words s fs) ≡ tally (λ k w. 2 + w) fs
unfolding tree_words tally
words_tally s none = refl
words_tally s (plain fs x) = words_tally s fs
words_tally s (branch fs k gs) =
    let t = s + size_of fs in
    length-append (tree_words s fs ++ tree_words t gs) (record_words k (field_words t gs))
    ∙ omega (arith, length-append (tree_words s fs) (tree_words t gs), words_tally s fs, words_tally t gs, words_length k (field_words t gs), words_width t gs)

-- a node has as many fields as its record
width_by : (b : List ℕ) (d k : ℕ) → 0 < d → width_of (fields_within b d k) ≡ field_count (node_record b k)
unfolding fields_within
width_by b zero k h = absurd (not-suc-le-zero h)
width_by b (suc d) k h = first_width (λ n. kind_of (node_record b n)) (fields_within b d) (node_record b k) (field_count (node_record b k))

pub width_of_law : (b : List ℕ) (k : ℕ) → k < nodes b → width_of (fields_of b k) ≡ field_count (node_record b k)
width_of_law b k h = width_by b (nodes b) k (omega (arith, h))

module _ (b : List ℕ) (accepted : sheet_verdict b ≡ Accepted) where
  abbrev shaped : file_shape Sheet b ≡ Accepted
  shaped = sheet_shape b accepted

  -- a number for each node by its kind and width, summed over the trees and over the nodes
  pub tally_of_nodes : (v : ℕ → ℕ → ℕ) → tally v (bodies b) ≡ sum_of (nodes b) (λ k. v (kind_of (node_record b k)) (field_count (node_record b k)))
  unfolding bodies
  tally_of_nodes v =
      tallies b accepted v (functions b) (omega arith)
      ∙ rw (node_counts_sum Sheet b shaped)
      (sum_same (nodes b) (λ k. v (kind_of (node_record b k)) (width_of (fields_of b k))) (λ k. v (kind_of (node_record b k)) (field_count (node_record b k)))
      (λ k h. ap (λ (w : ℕ). v (kind_of (node_record b k)) w) (width_of_law b k h)))

  halves : (n : ℕ) → n ≤ due b → start_of b n ≡ 2 * sum_of n (λ r. 2 + field_count (record_of b r))
  halves n h =
      start_sum Sheet b shaped n h
      ∙ sum_same n (λ r. length (record_of b r)) (λ r. (2 + field_count (record_of b r)) * 2)
      (λ r l. record_fields Sheet b shaped r (omega (arith, h, l)) ∙ omega arith)
      ∙ sum_twice n (λ r. 2 + field_count (record_of b r))

  pub length_kept : length (canonical b) ≡ length b
  unfolding canonical
  length_kept =
      length-append (sections b) (bytes_of (tree_words 0 (bodies b)))
      ∙ omega (
        arith,
        sections_length b accepted,
        halves (first_node b) (omega arith),
        bytes_length (tree_words 0 (bodies b)),
        words_tally 0 (bodies b),
        tally_of_nodes (λ k w. 2 + w),
        sum_parts (first_node b) (nodes b) (λ r. 2 + field_count (record_of b r)),
        halves (due b) (omega arith),
        records_fill Sheet b shaped,
      )
