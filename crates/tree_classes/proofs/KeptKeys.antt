-- Tables that agree below a node give it one key and one bucket: its parts are smaller.
use mathlib.Core.Path.{◌≡◌, sym, ◌∙◌}
use Prim.Native.Nat.{ℕ, ◌≤◌, ◌<◌}
use mathlib.Core.List.{List}
use mathlib.Core.Bool.{true}
use native.Mathlib.Omega.{arith}
use Rattle.definitions.specs.Records.{kind_of, field, field_count}
use Rattle.definitions.specs.Layouts.{nodes, node_record}
use Rattle.definitions.specs.Checks.{sheet_verdict}
use Rattle.definitions.specs.Trees.{names_node}
use Rattle.definitions.specs.Verdict.{Accepted}
use Rattle.trees.proofs.Parts.{part_smaller}
use Rattle.tree_classes.specs.Keys.{bucket_of, SameKey}
use Rattle.tree_classes.proofs.SameKeys.{value_kept, bucket_kept}

module _ (b : List ℕ) (accepted : sheet_verdict b ≡ Accepted) (class class' : ℕ → ℕ) (n : ℕ) (agree : (x : ℕ) → x < n → class x ≡ class' x) where
  parts_kept : (k i : ℕ) → k ≤ n → k < nodes b → i < field_count (node_record b k) → names_node (kind_of (node_record b k)) i ≡ true
      → class (field (node_record b k) i) ≡ class' (field (node_record b k) i)
  parts_kept k i l h m e = agree (field (node_record b k) i) (omega (arith, l, part_smaller b accepted k h i m e))

  pub node_bucket_kept : (k p : ℕ) → k ≤ n → k < nodes b → bucket_of class (node_record b k) p ≡ bucket_of class' (node_record b k) p
  node_bucket_kept k p l h = bucket_kept class class' (node_record b k) (λ i. parts_kept k i l h) p

  pub key_kept : {place : ℕ → ℕ} {j k : ℕ} → j ≤ n → k ≤ n → j < nodes b → k < nodes b → SameKey class place b j k → SameKey class' place b j k
  key_kept {place} {j} {k} l m h g s =
      record {
        kinds = s.kinds;
        counts = s.counts;
        places = s.places;
        values = λ i q.
            sym (value_kept class class' (node_record b j) (λ x. parts_kept j x l h) i q)
            ∙ s.values i q
            ∙ value_kept class class' (node_record b k) (λ x. parts_kept k x m g) i (rw (← s.counts) q);
      }
