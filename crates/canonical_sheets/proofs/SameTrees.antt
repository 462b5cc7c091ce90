-- The bodies of the canonical file and of the sheet have equal trees (document 02, request 4), so that both run alike.
use mathlib.Core.Path.{◌≡◌, refl, sym, ◌∙◌}
use Prim.Native.Nat.{ℕ, ◌<◌}
use mathlib.Core.List.{List}
use mathlib.Core.Bool.{true}
use native.Mathlib.Omega.{arith}
use Rattle.definitions.specs.Records.{kind_of, field, field_count}
use Rattle.definitions.specs.SheetKinds
use Rattle.definitions.specs.Layouts.{nodes, node_record, body_of, owner_of}
use Rattle.definitions.specs.NodeFields.{Clause}
use Rattle.definitions.specs.SheetNodes.{case_of, scrutinee_of}
use Rattle.definitions.specs.Checks.{sheet_verdict}
use Rattle.definitions.specs.Trees.{same_tree, deepest}
use Rattle.definitions.specs.CanonicalSheet.{canonical}
use Rattle.definitions.specs.declared.Layout.TheVariants.{Sheet}
use Rattle.definitions.specs.Verdict.{Accepted}
use Rattle.laws.proofs.ByteFiles.{Bytes}
use Rattle.accepted.proofs.SheetRecords.{SheetRecord, is_case_law, node_is}
use Rattle.accepted.proofs.Checks.{sheet_shape}
use Rattle.accepted.proofs.Owners.{owner_below, body_below}
use Rattle.accepted.proofs.Patterns.{in_clause, pattern_held}
use Rattle.trees.specs.Depths.{Within, deeper}
use Rattle.trees.proofs.Depths.{within_deepest}
use Rattle.trees.proofs.Heads.{from_heads}
use Rattle.trees.proofs.Parts.{pattern_of}
use Rattle.shared_runs.specs.Reads.{EqualTrees, AlikeSheets}
use Rattle.canonical_sheets.proofs.ReadBack.{functions_read, body_read}
use Rattle.canonical_sheets.proofs.Cases.{names_scrutinee}
use Rattle.canonical_sheets.proofs.Kept.{parameters_kept}
use Rattle.canonical_sheets.proofs.Twins.{Twin, pair, twin_owner, twin_child, twin_body}

-- a record that is a case
case_kind : {rec : List ℕ} {n : ℕ} {cs : List Clause} → SheetRecord rec (case_of n cs) → (kind_of rec ≡ SheetKinds.case_of) × (0 < field_count rec)
case_kind (is_case_law e m l g) = (e, omega (arith, m))

module _ (b : List ℕ) (accepted : sheet_verdict b ≡ Accepted) (bytes : Bytes b) where
  abbrev form : List ℕ
  form = canonical b

  -- a pattern variable's function has a case as its body
  body_case : (k : ℕ) → k < nodes b → kind_of (node_record b k) ≡ SheetKinds.pattern_variable
      → (kind_of (node_record b (body_of Sheet b (owner_of Sheet b k))) ≡ SheetKinds.case_of)
      × (0 < field_count (node_record b (body_of Sheet b (owner_of Sheet b k))))
  body_case k h e =
      let f = owner_of Sheet b k in
      let w = pattern_held b accepted k h (pattern_of b accepted k h e) in
      let i = in_clause b accepted (nodes b) k w.constructor h w.within in
      case_kind (node_is b (sheet_shape b accepted) (body_of Sheet b f) (body_below Sheet b (sheet_shape b accepted) f (owner_below Sheet b (sheet_shape b accepted) k h)) i.body)

  -- whose scrutinee is
  module _ {f k q : ℕ} (t : Twin b f k q) where
    one_scrutinee : scrutinee_of b k ≡ field (node_record b (body_of Sheet b f)) 0
    unfolding scrutinee_of
    one_scrutinee = rw (pair t).owner refl

    two_scrutinee : scrutinee_of form q ≡ field (node_record form (body_of Sheet b f)) 0
    unfolding scrutinee_of
    two_scrutinee = rw (twin_owner b accepted t, body_read b accepted f t.function) refl

    scrutinees : kind_of (node_record b k) ≡ SheetKinds.pattern_variable → Twin b f (scrutinee_of b k) (scrutinee_of form q)
    scrutinees z =
        let x : (kind_of (node_record b (body_of Sheet b f)) ≡ SheetKinds.case_of) × (0 < field_count (node_record b (body_of Sheet b f)))
        = rw (pair t).owner at (body_case k (pair t).below z) in
        rw (one_scrutinee, two_scrutinee)
        (twin_child b accepted (twin_body b accepted bytes f t.function) 0 x.1 (names_scrutinee x.0))

  same_tree_law : {e k : ℕ} → Within b e k → {f q : ℕ} → Twin b f k q → same_tree b form e k q ≡ true
  same_tree_law (deeper {e = d} {k} down across) {q} t =
      from_heads b form d k q
      (record {
        kinds = sym (pair t).kinds;
        counts = sym (pair t).counts;
        parts = λ i l n. same_tree_law (down i l n) (twin_child b accepted t i l n);
        numbers = λ i l n. sym ((pair t).plain i l n);
        owners = λ z. (pair t).owner ∙ sym (twin_owner b accepted t);
        scrutinees = λ z. same_tree_law (across z) (scrutinees t z);
      })

  pub twins_equal : {f k q : ℕ} → Twin b f k q → EqualTrees b form k q
  twins_equal {k} t = record { depth = deepest b; equal = same_tree_law (within_deepest b accepted k (pair t).below) t }

  pub alike : AlikeSheets b form
  alike =
      record {
        count = sym (functions_read b accepted);
        parameters = λ f h. sym (parameters_kept b accepted f h);
        bodies = λ f h. rw (body_read b accepted f h) (twins_equal (twin_body b accepted bytes f h));
      }
