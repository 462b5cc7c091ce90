-- Labels and actuals where calls repeat: one statement over the list, by one computation; then a sheet's translation with the old
-- labelling and the new, and a run of each.
use mathlib.Core.Path.{◌≡◌, refl}
use Prim.Native.Nat.{ℕ}
use mathlib.Core.List.{List, [], ◌∷◌, map}
use lib.IntN.{pos}
use Rattle.definitions.specs.Lists.{listed}
use Rattle.definitions.specs.References.{parameters}
use Rattle.definitions.specs.Checks.{sheet_verdict}
use Rattle.definitions.specs.Outcomes.{number_outcome}
use Rattle.definitions.specs.Trees.{equal_trees}
use Rattle.definitions.specs.Labels.{never_shared, label_of, actuals}
use Rattle.definitions.specs.Translate.{translation, unshared_translation}
use Rattle.definitions.specs.Run.{run_answer}
use Rattle.definitions.specs.Verdict.{Verdict, Accepted}
use Rattle.sheets.specs.Starred.{answering}
use Rattle.sheets.specs.EqualCalls.{LabelTrial, num, first, sum, of, cased, repeated, repeated_within, two_functions, own_parameters, patterns, template, template_with, label_trials}
use Rattle.sheets.proofs.Opened.{opened}

-- the reader's verdict on a trial's sheet, the labels of the calls, and the actuals
pub record Labelled : Type 0 where
  pub verdict : Verdict
  pub labels : List ℕ
  pub actuals : List (List ℕ)

abbrev pub labelled : LabelTrial → Labelled
labelled t =
    let same = equal_trees t.sheet in
    record {
      verdict = sheet_verdict t.sheet;
      labels = map (label_of same t.sheet t.function) t.calls;
      actuals = listed (parameters t.sheet t.function) (actuals same t.sheet t.function);
    }

pub labels_hold : map labelled label_trials ≡ map (λ (t : LabelTrial). record { verdict = Accepted; labels = t.labels; actuals = t.actuals }) label_trials
unfolding opened num first sum of cased repeated repeated_within two_functions own_parameters patterns template label_trials
labels_hold = refl

-- three calls of `double` have one label in the new labelling and list one actual; two calls of `list` have one label
pub template_shared : translation template ≡ template_with (10 ∷ []) 0 0 0
unfolding opened num first sum of template template_with
template_shared = refl

pub template_unshared : unshared_translation template ≡ template_with (10 ∷ 12 ∷ 16 ∷ []) 1 2 1
unfolding opened never_shared unshared_translation num first sum of template template_with
template_unshared = refl

-- and both run alike: 6, 34 steps, 4 cells
pub template_run : run_answer (translation template) [] 1000 100 100 6800 ≡ answering (number_outcome (pos 6)) 34 4
unfolding opened num first sum of template
template_run = refl

pub template_run_unshared : run_answer (unshared_translation template) [] 1000 100 100 6800 ≡ answering (number_outcome (pos 6)) 34 4
unfolding opened never_shared unshared_translation num first sum of template
template_run_unshared = refl
