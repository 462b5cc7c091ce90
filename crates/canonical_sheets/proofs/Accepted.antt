-- The canonical file of an accepted sheet is an accepted sheet, and runs alike.
use mathlib.Core.Path.{◌≡◌, refl, sym}
use Prim.Native.Nat.{ℕ, ◌+◌}
use mathlib.Core.List.{List}
use lib.IntN.{ℤ}
use Rattle.definitions.specs.Numbers.{bad_tree}
use Rattle.definitions.specs.Verdicts.{◌and_then◌, first_of}
use Rattle.definitions.specs.Layouts.{nodes, first_node, due}
use Rattle.definitions.specs.References.{references}
use Rattle.definitions.specs.SheetRules.{arguments, tree_right, tree, pattern}
use Rattle.definitions.specs.Types.{types}
use Rattle.definitions.specs.Checks.{checks_to_six, sheet_verdict}
use Rattle.definitions.specs.Translate.{translation}
use Rattle.definitions.specs.Run.{run_answer}
use Rattle.definitions.specs.CanonicalSheet.{canonical}
use Rattle.definitions.specs.Verdict.{Accepted}
use Rattle.laws.proofs.Verdicts.{then_accepted, require_true, first_all}
use Rattle.laws.proofs.ByteFiles.{Bytes}
use Rattle.shared_runs.specs.SameRuns.{SameRuns, SameAnswers}
use Rattle.shared_runs.proofs.Shared.{equal_shares, two_sheets_run_alike, two_sheets_answer_alike}
use Rattle.canonical_sheets.proofs.ReadBack.{readings_read}
use Rattle.canonical_sheets.proofs.TreesPass.{file_shaped, names_pass, tree_passes}
use Rattle.canonical_sheets.proofs.PatternsPass.{pattern_passes}
use Rattle.canonical_sheets.proofs.TypesPass.{types_pass}
use Rattle.canonical_sheets.proofs.SameTrees.{alike}

module _ (b : List ℕ) (bytes : Bytes b) (accepted : sheet_verdict b ≡ Accepted) where
  abbrev form : List ℕ
  form = canonical b

  trees_accepted : first_of (nodes form) (tree form) ≡ Accepted
  unfolding tree
  trees_accepted = first_all (nodes form) (tree form) (λ q h. require_true (tree_right form q) bad_tree (first_node form + q) (tree_passes b bytes accepted q h))

  pub canonical_accepted : sheet_verdict form ≡ Accepted
  unfolding sheet_verdict checks_to_six
  canonical_accepted =
      rw (
        file_shaped b bytes accepted,
        then_accepted Accepted (first_of (due form) (λ r. references form r and_then arguments form r)) refl,
        names_pass b bytes accepted,
        then_accepted Accepted (first_of (nodes form) (tree form)) refl,
        trees_accepted,
        then_accepted Accepted (first_of (nodes form) (pattern form)) refl,
        first_all (nodes form) (pattern form) (pattern_passes b bytes accepted),
        then_accepted Accepted (types form) refl,
      ) (types_pass b bytes accepted)

  -- "Outcome, value, steps and cell count of the owner's runs are kept": the rule's, and a run's answers, refusals included; `lent` is how
  -- many cell bytes are lent
  pub runs_kept : (rs : List ℤ) (steps nesting cells_allowed : ℕ) → SameRuns (translation b) (translation form) rs steps nesting cells_allowed
  unfolding translation
  runs_kept = two_sheets_run_alike accepted canonical_accepted (alike b accepted bytes) (equal_shares b) (equal_shares form)

  pub answers_kept : (rs : List ℤ) (steps nesting cells_allowed lent : ℕ)
      → SameAnswers (run_answer (translation b) rs steps nesting cells_allowed lent) (run_answer (translation form) rs steps nesting cells_allowed lent)
  unfolding translation
  answers_kept =
      two_sheets_answer_alike accepted canonical_accepted (alike b accepted bytes) (equal_shares b) (equal_shares form) (sym (readings_read b accepted))
