-- The translation of an accepted sheet is an accepted translation.
use mathlib.Core.Path.{◌≡◌, refl, ◌∙◌}
use Prim.Native.Nat.{ℕ, suc, ◌+◌, ◌-◌, ◌≤◌, ◌<◌}
use mathlib.Core.List.{List}
use native.Mathlib.Omega.{arith}
use native.Mathlib.Decide.{ℕ_discrete, dec_lt}
use lib.ListN.{length}
use lib.Dec.{leb, eqb}
use borrow.Author.Tests.{le-leb, eq-eqb}
use Rattle.definitions.specs.Sizes.{translation_bytes}
use Rattle.definitions.specs.Records.{start_of}
use Rattle.definitions.specs.Numbers.{oversize, bad_record}
use Rattle.definitions.specs.Verdicts.{first_of}
use Rattle.definitions.specs.Layouts.{functions, nodes, first_node, due}
use Rattle.definitions.specs.References.{parameters, references}
use Rattle.definitions.specs.Shape.{shape, file_shape}
use Rattle.definitions.specs.Checks.{sheet_verdict, translation_verdict}
use Rattle.definitions.specs.Labels.{Labelling}
use Rattle.definitions.specs.Translate.{formal_of, formals, translation_by}
use Rattle.definitions.specs.declared.Layout.TheVariants.{Translation}
use Rattle.definitions.specs.Verdict.{Accepted}
use Rattle.laws.proofs.Verdicts.{then_accepted, require_true, first_all}
use Rattle.readback.proofs.Records.{translation_items, translation_functions, translation_nodes, translation_filled}
use Rattle.readback.proofs.Totals.{sum_reached}
use Rattle.readback.proofs.Size.{translation_limit}
use Rattle.readback.proofs.Passing.{Passes, passes_shape, passes_references}
use Rattle.readback.proofs.SectionsPass.{head_passes, function_passes, formal_passes}
use Rattle.readback.proofs.NodesPass.{node_passes}

-- record r is one that passes the checks
pub record RecordPasses (t : List ℕ) (r : ℕ) : Type 0 where
  pub kind : ℕ
  pub fields : List ℕ
  pub passes : Passes t r kind fields

passing : {t : List ℕ} {r kind : ℕ} {fs : List ℕ} → Passes t r kind fs → RecordPasses t r
passing {t} {r} {kind} {fs} p = record { kind = kind; fields = fs; passes = p }

module _ (same : Labelling) (b : List ℕ) (accepted : sheet_verdict b ≡ Accepted) where
  function_at : (r : ℕ) → 0 < r → r ≤ functions (translation_by same b) → RecordPasses (translation_by same b) r
  function_at r l h =
      let f : r - 1 < functions b = omega (arith, l, h, translation_functions same b accepted) in
      let e : 1 + (r - 1) ≡ r = omega arith in
      rw e at (passing (function_passes same b accepted (r - 1) f))

  formal_at : (r : ℕ) → functions (translation_by same b) < r → r < first_node (translation_by same b) → RecordPasses (translation_by same b) r
  unfolding formals formal_of
  formal_at r l h =
      let t = translation_by same b in
      let p : r - suc (functions t) < formals b = omega (arith, l, h, translation_items same b accepted) in
      let f = sum_reached (functions b) (r - suc (functions t)) (parameters b) p in
      let e : 1 + functions t + formal_of b f.term f.place ≡ r = omega (arith, l, f.is) in
      rw e at (passing (formal_passes same b accepted f.term f.place f.below f.inside))

  node_at : (r : ℕ) → first_node (translation_by same b) ≤ r → r < due (translation_by same b) → RecordPasses (translation_by same b) r
  node_at r l h =
      let t = translation_by same b in
      let k : r - first_node t < nodes b = omega (arith, l, h, translation_nodes same b accepted) in
      let e : first_node t + (r - first_node t) ≡ r = omega arith in
      rw e at (passing (node_passes same b accepted (r - first_node t) k))

  -- each record that is due passes
  record_passes : (r : ℕ) → r < due (translation_by same b) → RecordPasses (translation_by same b) r
  record_passes r h =
      let t = translation_by same b in
      elim (ℕ_discrete r 0) [
        | yes e ↦ rw e (passing (head_passes same b accepted))
        | no e ↦ elim (dec_lt (functions t) r) [
          | no l ↦ function_at r (omega (arith, e)) (omega (arith, l))
          | yes l ↦ elim (dec_lt r (first_node t)) [ yes m ↦ formal_at r l m | no m ↦ node_at r (omega (arith, m)) h ]
        ]
      ]

  shape_passes : (r : ℕ) → r < due (translation_by same b) → shape Translation (translation_by same b) r ≡ Accepted
  shape_passes r h = let p = record_passes r h in passes_shape (translation_by same b) r p.kind p.fields p.passes

  references_pass : (r : ℕ) → r < due (translation_by same b) → references (translation_by same b) r ≡ Accepted
  references_pass r h = let p = record_passes r h in passes_references (translation_by same b) r p.kind p.fields p.passes

  pub translation_shaped : file_shape Translation (translation_by same b) ≡ Accepted
  unfolding file_shape
  translation_shaped =
      let t = translation_by same b in
      let size = require_true (leb (length t) translation_bytes) oversize 0 (le-leb (length t) translation_bytes (omega (arith, translation_limit same b accepted))) in
      let each = first_all (due t) (shape Translation t) shape_passes in
      let filled = require_true (eqb (start_of t (due t)) (length t)) bad_record (due t) (eq-eqb (start_of t (due t)) (length t) (translation_filled same b accepted)) in
      rw (size, then_accepted Accepted (first_of (due t) (shape Translation t)) refl, each, filled) (then_accepted Accepted Accepted refl)

  pub translation_accepted_law : translation_verdict (translation_by same b) ≡ Accepted
  unfolding translation_verdict
  translation_accepted_law =
      let t = translation_by same b in
      then_accepted (file_shape Translation t) (first_of (due t) (references t)) translation_shaped ∙ first_all (due t) (references t) references_pass
