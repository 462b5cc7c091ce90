-- Sheets in canonical form: one statement over the list, by one computation each.
use mathlib.Core.Path.{◌≡◌, refl}
use mathlib.Core.List.{map}
use Rattle.definitions.specs.Verdicts.{◌and_then◌}
use Rattle.definitions.specs.Checks.{sheet_verdict}
use Rattle.definitions.specs.CanonicalSheet.{first_fields, fields_within, first_bodies, bodies, size_of, field_words, tree_words, sections, canonical}
use Rattle.definitions.specs.Verdict.{Accepted}
use Rattle.sheets.specs.CanonicalForms.{Drawing, drawings}
use Rattle.sheets.proofs.Opened.{opened}

-- each is accepted, so is its form, and its form is the expected one
pub drawings_accepted : map (λ (d : Drawing). sheet_verdict d.sheet and_then sheet_verdict d.form) drawings ≡ map (λ (d : Drawing). Accepted) drawings
unfolding opened drawings
drawings_accepted = refl

pub forms_hold : map (λ (d : Drawing). canonical d.sheet) drawings ≡ map (λ (d : Drawing). d.form) drawings
unfolding opened drawings first_fields fields_within first_bodies bodies size_of field_words tree_words sections canonical
forms_hold = refl

-- and the form of a form is itself
pub forms_again : map (λ (d : Drawing). canonical d.form) drawings ≡ map (λ (d : Drawing). d.form) drawings
unfolding opened drawings first_fields fields_within first_bodies bodies size_of field_words tree_words sections canonical
forms_again = refl
