-- Every refusal has one of the table's numbers for a refusal.
use mathlib.Core.Path.{◌≡◌, refl}
use Prim.Native.Nat.{ℕ, zero, suc}
use mathlib.Core.List.{List}
use mathlib.Core.Bool.{Bool, true, false, cond}
use lib.IntN.{ℤ}
use Rattle.definitions.specs.Ranges.{within}
use Rattle.definitions.specs.Numbers.{truncated, oversize, bad_record, bad_count, out_of_range, bad_tree, bad_arguments, short_output, bad_readings, bad_allowance}
use Rattle.definitions.specs.Numbers.{closed_reading, ill_typed, bad_range, is_refusal}
use Rattle.definitions.specs.Verdicts.{◌and_then◌, require, first_of}
use Rattle.definitions.specs.Layouts.{is_typed, due, nodes}
use Rattle.definitions.specs.Shape.{shape_at, shape, file_shape}
use Rattle.definitions.specs.References.{references}
use Rattle.definitions.specs.SheetRules.{arguments, tree, pattern}
use Rattle.definitions.specs.Types.{typing, types}
use Rattle.definitions.specs.Checks.{checks_to_six, sheet_verdict, translation_verdict}
use Rattle.definitions.specs.Translate.{translation_refusal}
use Rattle.definitions.specs.CanonicalSheet.{canonical_refusal}
use Rattle.definitions.specs.Run.{run_verdict}
use Rattle.definitions.specs.declared.Layout.{Layout}
use Rattle.definitions.specs.declared.Layout.TheVariants.{Sheet, Translation}
use Rattle.definitions.specs.Verdict.{Verdict, Accepted, Refused}
use Rattle.definitions.specs.Hirer.{closed_at, closed_verdict}
use Rattle.definitions.specs.ReadingSearch.{Query, search_verdict}
use Rattle.batch.specs.Promise.{rows_checks, rows_verdict}
use Rattle.join.specs.Promise.{join_verdict}
use Rattle.definitions.specs.DriverView.{view_verdict}
use Rattle.demands.specs.Hirer.{hirer_refusals}

abbrev pub NumberedIn : Verdict → Type 0
NumberedIn Accepted = Unit {0}
NumberedIn (Refused n p) = is_refusal n ≡ true

either : (v w : Verdict) → NumberedIn v → NumberedIn w → NumberedIn (v and_then w)
unfolding ◌and_then◌
either Accepted w h g = g
either (Refused n p) w h g = h

chosen : (t : Bool) (v w : Verdict) → NumberedIn v → NumberedIn w → NumberedIn (cond t v w)
chosen true v w h g = h
chosen false v w h g = g

required : (t : Bool) (n p : ℕ) → is_refusal n ≡ true → NumberedIn (require t n p)
unfolding require
required true n p h = tt
required false n p h = h

each : (n : ℕ) (rule : ℕ → Verdict) → ((r : ℕ) → NumberedIn (rule r)) → NumberedIn (first_of n rule)
unfolding first_of
each zero rule h = tt
each (suc n) rule h = either (first_of n rule) (rule n) (each n rule h) (h n)

shape_numbered : (y : Layout) (b : List ℕ) (r : ℕ) → NumberedIn (shape y b r)
unfolding shape shape_at is_refusal within
shape_numbered y b r =
    either _ _ (either _ _ (either _ _ (either _ _ (required _ truncated r refl) (required _ bad_record r refl))
    (required _ truncated r refl)) (required _ bad_record r refl)) (required _ bad_count r refl)

file_numbered : (y : Layout) (b : List ℕ) → NumberedIn (file_shape y b)
unfolding file_shape is_refusal within
file_numbered y b =
    either _ _ (either _ _ (required _ oversize 0 refl) (each (due b) (shape y b) (shape_numbered y b)))
    (required _ bad_record (due b) refl)

references_numbered : (b : List ℕ) (r : ℕ) → NumberedIn (references b r)
unfolding references is_refusal within
references_numbered b r = required _ out_of_range r refl

pub translation_numbered : (b : List ℕ) → NumberedIn (translation_verdict b)
unfolding translation_verdict is_refusal within
translation_numbered b = either _ _ (file_numbered Translation b) (each (due b) (references b) (references_numbered b))

types_numbered : (b : List ℕ) → NumberedIn (types b)
unfolding types typing is_refusal within
types_numbered b = chosen (is_typed b) _ Accepted (each (nodes b) _ (λ k. required _ ill_typed _ refl)) tt

pub sheet_numbered : (b : List ℕ) → NumberedIn (sheet_verdict b)
unfolding sheet_verdict checks_to_six arguments tree pattern is_refusal within
sheet_numbered b =
    either _ _ (either _ _ (either _ _ (either _ _ (file_numbered Sheet b)
    (each (due b) _ (λ r. either _ _ (references_numbered b r) (required _ bad_arguments r refl))))
    (each (nodes b) _ (λ k. required _ bad_tree _ refl)))
    (each (nodes b) _ (λ k. required _ bad_tree _ refl)))
    (types_numbered b)

pub translating_numbered : (b : List ℕ) (room : ℕ) → NumberedIn (translation_refusal b room)
unfolding translation_refusal is_refusal within
translating_numbered b room = either _ _ (sheet_numbered b) (required _ short_output 0 refl)

pub canonical_numbered : (b : List ℕ) (room : ℕ) → NumberedIn (canonical_refusal b room)
unfolding canonical_refusal is_refusal within
canonical_numbered b room = either _ _ (sheet_numbered b) (required _ short_output 0 refl)

pub running_numbered : (b : List ℕ) (rs : List ℤ) (nesting cells_allowed lent : ℕ) → NumberedIn (run_verdict b rs nesting cells_allowed lent)
unfolding run_verdict is_refusal within
running_numbered b rs nesting cells_allowed lent =
    either _ _ (either _ _ (translation_numbered b) (required _ bad_readings 0 refl)) (required _ bad_allowance 0 refl)

pub joining_numbered : (b : List ℕ) (room : ℕ) (rs : List ℤ) (nesting cells_allowed lent : ℕ) → NumberedIn (join_verdict b room rs nesting cells_allowed lent)
unfolding join_verdict is_refusal within
joining_numbered b room rs nesting cells_allowed lent =
    either _ _ (either _ _ (either _ _ (sheet_numbered b) (required _ short_output 0 refl)) (required _ bad_readings 0 refl))
    (required _ bad_allowance 0 refl)

pub batch_numbered : (b : List ℕ) (rows : ℕ) (rs : List ℤ) (nesting cells_allowed lent room : ℕ) → NumberedIn (rows_verdict b rows rs nesting cells_allowed lent room)
unfolding rows_verdict rows_checks is_refusal within
batch_numbered b rows rs nesting cells_allowed lent room =
    either _ _ (translation_numbered b)
    (either _ _ (either _ _ (required _ bad_readings 0 refl) (required _ bad_allowance 0 refl)) (required _ short_output 0 refl))

pub hiring_numbered : (b : List ℕ) (set : ℕ) (rs : List ℤ) (nesting cells_allowed lent : ℕ) → NumberedIn (hirer_refusals b set rs nesting cells_allowed lent)
unfolding closed_verdict closed_at is_refusal within
hiring_numbered b set rs nesting cells_allowed lent =
    either _ _ (either _ _ (either _ _ (translation_numbered b) (each (nodes b) _ (λ k. required _ closed_reading _ refl))) (required _ bad_readings 0 refl))
    (required _ bad_allowance 0 refl)

pub searching_numbered : (b : List ℕ) (rs : List ℤ) (q : Query) (nesting cells_allowed lent : ℕ) → NumberedIn (search_verdict b rs q nesting cells_allowed lent)
unfolding search_verdict is_refusal within
searching_numbered b rs q nesting cells_allowed lent = either _ _ (running_numbered b rs nesting cells_allowed lent) (required _ bad_range 0 refl)

pub viewing_numbered : (b : List ℕ) (room : ℕ) → NumberedIn (view_verdict b room)
unfolding view_verdict is_refusal within
viewing_numbered b room = either _ _ (required _ bad_record 0 refl) (required _ short_output 0 refl)
