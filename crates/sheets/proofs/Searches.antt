-- Searches of a translated sheet: one statement over the list, by one computation.
use mathlib.Core.Path.{◌≡◌, refl}
use mathlib.Core.List.{map}
use Rattle.definitions.specs.Lists.{first_passing}
use Rattle.definitions.specs.Translate.{translation}
use Rattle.definitions.specs.ReadingSearch.{value_at, count_to, value_count, range_fits, search_verdict, readings_tried, ends_in, run_finds, first_finding, searched_by, searched_after, search_answer}
use Rattle.sheets.specs.Searches.{SearchTrial, quotients, search, search_trials}
use Rattle.sheets.proofs.Opened.{opened}

-- with no cells
pub searches_answers : map (λ (t : SearchTrial). search_answer (translation quotients) t.readings t.asked t.steps t.nesting 0 0) search_trials
    ≡ map (λ (t : SearchTrial). t.answer) search_trials
unfolding opened first_passing value_at count_to value_count range_fits search_verdict readings_tried ends_in run_finds first_finding searched_by searched_after search_answer quotients search search_trials
searches_answers = refl
