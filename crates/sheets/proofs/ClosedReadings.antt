-- Hirer's runs of translated sheets: one statement over the list, by one computation.
use mathlib.Core.Path.{◌≡◌, refl}
use mathlib.Core.List.{map}
use Rattle.definitions.specs.Translate.{translation}
use Rattle.definitions.specs.Hirer.{reading_allowed, node_allowed, closed_at, closed_verdict, hirer_verdict, hirer_answer}
use Rattle.sheets.specs.ClosedReadings.{HirerTrial, never_called, not_taken, one_read, hirer_trials}
use Rattle.sheets.proofs.Opened.{opened}

-- with 9 steps, and no cells
pub hirers_answers : map (λ (t : HirerTrial). hirer_answer (translation t.sheet) t.set t.readings 9 t.nesting 0 0) hirer_trials ≡ map (λ (t : HirerTrial). t.answer) hirer_trials
unfolding opened reading_allowed node_allowed closed_at closed_verdict hirer_verdict hirer_answer never_called not_taken one_read hirer_trials
hirers_answers = refl
