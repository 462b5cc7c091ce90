-- The own answer of an accepted typed sheet is never a type error.
use mathlib.Core.Path.{◌≡◌, refl}
use Prim.Native.Nat.{ℕ}
use mathlib.Core.List.{List}
use mathlib.Core.Bool.{true}
use lib.IntN.{ℤ}
use Rattle.definitions.specs.Numbers.{is_number, is_constructor}
use Rattle.definitions.specs.Layouts.{is_typed, body_of}
use Rattle.definitions.specs.Outcomes.{Outcome, number_outcome, constructor_outcome, end_outcome}
use Rattle.definitions.specs.Checks.{sheet_verdict}
use Rattle.definitions.specs.declared.Layout.TheVariants.{Sheet}
use Rattle.definitions.specs.Verdict.{Accepted}
use Rattle.agreement.specs.Meaning.{End, outcome_of, OwnAnswer}
use Rattle.typed_sheets.specs.TypeErrors.{NoTypeError}
use Rattle.typed_sheets.specs.Fits.{OfType, a_number, a_constructor, a_fault}
use Rattle.typed_sheets.proofs.Settings.{start_at}
use Rattle.typed_sheets.proofs.Ends.{no_type_error, end_type}

typed_outcome : {b : List ℕ} {t : ℕ} {e : End} → OfType b t e → NoTypeError (outcome_of e).outcome
unfolding outcome_of number_outcome constructor_outcome end_outcome
typed_outcome a_number = no_type_error is_number refl refl
typed_outcome (a_constructor a h t) = no_type_error is_constructor refl refl
typed_outcome (a_fault p) = p

pub own_sound : (b : List ℕ) (rs : List ℤ) → sheet_verdict b ≡ Accepted → is_typed b ≡ true → (a : Outcome) → OwnAnswer b rs a → NoTypeError a.outcome
own_sound b rs accepted typed a o =
    rw o.agrees at (typed_outcome (end_type b accepted typed o.means (body_of Sheet b 0) refl (start_at b accepted)))
