-- A typed sheet with its types removed is an accepted sheet without types, and translates like the typed sheet.
use mathlib.Core.Path.{◌≡◌, refl, ap, ◌∙◌}
use Prim.Native.Nat.{ℕ, ◌+◌, ◌<◌}
use mathlib.Core.List.{List}
use mathlib.Core.Bool.{true, false}
use native.Mathlib.Omega.{arith}
use lib.ListN.{length}
use lib.Dec.{leb, eqb}
use borrow.Author.Tests.{le-leb, eq-eqb}
use Rattle.definitions.specs.Records.{start_of}
use Rattle.definitions.specs.Sizes.{sheet_bytes}
use Rattle.definitions.specs.Numbers.{oversize, bad_record, bad_tree}
use Rattle.definitions.specs.Verdicts.{◌and_then◌}
use Rattle.definitions.specs.Layouts.{is_typed, readings, nodes, first_node, due}
use Rattle.definitions.specs.Shape.{shape, file_shape}
use Rattle.definitions.specs.References.{references}
use Rattle.definitions.specs.SheetRules.{arguments, tree_right, tree, pattern_right, pattern}
use Rattle.definitions.specs.Types.{types}
use Rattle.definitions.specs.Checks.{checks_to_six, sheet_verdict}
use Rattle.definitions.specs.Translate.{translation}
use Rattle.definitions.specs.TypesRemoved.{types_removed}
use Rattle.definitions.specs.declared.Layout.TheVariants.{Sheet}
use Rattle.definitions.specs.Verdict.{Accepted}
use Rattle.laws.proofs.Verdicts.{then_accepted, require_true, first_all}
use Rattle.accepted.proofs.Records.{within_limit}
use Rattle.accepted.proofs.Checks.{sheet_shape, tree_right_law, pattern_right_law}
use Rattle.typed_sheets.specs.UpToTypes.{EqualUpToTypes}
use Rattle.typed_sheets.proofs.SameTranslation.{same_translation}
use Rattle.typed_sheets.proofs.SameChecks.{same_first_node, same_tree_right, same_pattern_right}
use Rattle.typed_sheets.proofs.UntypedRecords.{removed_filled, removed_shorter, no_types_left}
use Rattle.typed_sheets.proofs.UpToTypes.{equal_up_to_types}
use Rattle.typed_sheets.proofs.RemovedPasses.{shape_passes, names_pass}

module _ (b : List ℕ) (accepted : sheet_verdict b ≡ Accepted) where
  pub removed_untyped : is_typed (types_removed b) ≡ false
  removed_untyped = no_types_left b (sheet_shape b accepted)

  module _ (typed : is_typed b ≡ true) where
    equal : EqualUpToTypes (types_removed b) b
    equal = equal_up_to_types b accepted typed

    same_due : due (types_removed b) ≡ due b
    same_due = rw (same_first_node equal, equal.nodes) refl

    shape_accepted : file_shape Sheet (types_removed b) ≡ Accepted
    unfolding file_shape
    shape_accepted =
        let t = types_removed b in
        let s = sheet_shape b accepted in
        let size = require_true (leb (length t) sheet_bytes) oversize 0
        (le-leb (length t) sheet_bytes (omega (arith, removed_shorter b s, within_limit Sheet b s))) in
        let each = first_all (due t) (shape Sheet t) (λ r h. shape_passes b accepted typed r (rw same_due at h)) in
        let fill : start_of t (due t) ≡ length t = ap (start_of t) same_due ∙ removed_filled b s in
        let filled = require_true (eqb (start_of t (due t)) (length t)) bad_record (due t) (eq-eqb (start_of t (due t)) (length t) fill) in
        then_accepted _ _ (then_accepted _ _ size ∙ each) ∙ filled

    tree_passes : (k : ℕ) → k < nodes (types_removed b) → tree (types_removed b) k ≡ Accepted
    unfolding tree
    tree_passes k h =
        require_true (tree_right (types_removed b) k) bad_tree (first_node (types_removed b) + k)
        (same_tree_right equal k ∙ tree_right_law b accepted k (rw equal.nodes at h))

    pattern_passes : (k : ℕ) → k < nodes (types_removed b) → pattern (types_removed b) k ≡ Accepted
    unfolding pattern
    pattern_passes k h =
        require_true (pattern_right (types_removed b) k) bad_tree (first_node (types_removed b) + k)
        (same_pattern_right equal k ∙ pattern_right_law b accepted k (rw equal.nodes at h))

    types_pass : types (types_removed b) ≡ Accepted
    unfolding types
    types_pass = rw removed_untyped refl

    pub removed_accepted : sheet_verdict (types_removed b) ≡ Accepted
    unfolding sheet_verdict checks_to_six
    removed_accepted =
        let t = types_removed b in
        let names = first_all (due t) (λ r. references t r and_then arguments t r) (λ r h. names_pass b accepted typed r (rw same_due at h)) in
        let trees = first_all (nodes t) (tree t) tree_passes in
        let patterns = first_all (nodes t) (pattern t) pattern_passes in
        then_accepted _ _ (then_accepted _ _ (then_accepted _ _ (then_accepted _ _ shape_accepted ∙ names) ∙ trees) ∙ patterns) ∙ types_pass

    -- "it translates like the sheet with its types removed"
    pub removed_translation : translation (types_removed b) ≡ translation b
    removed_translation = same_translation equal

    pub removed_readings : readings (types_removed b) ≡ readings b
    removed_readings = equal.readings
