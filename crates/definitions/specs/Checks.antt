-- What a reader says of a file (document 01, "Order"; document 02, request 11: 22 "after 6"): the first refusal, number and place,
-- or accepted.
use Rattle.std.specs.Prelude.{ℕ, List}
use Rattle.definitions.specs.Verdicts.{◌and_then◌, first_of}
use Rattle.definitions.specs.Layouts.{nodes, due}
use Rattle.definitions.specs.Shape.{file_shape}
use Rattle.definitions.specs.References.{references}
use Rattle.definitions.specs.SheetRules.{arguments, tree, pattern}
use Rattle.definitions.specs.Types.{types}
use Rattle.definitions.specs.declared.Layout.TheVariants.{Sheet, Translation}
use Rattle.definitions.specs.Verdict.{Verdict}

-- the checks of a sheet up to 6
unfoldable pub checks_to_six : List ℕ → Verdict
checks_to_six b =
    file_shape Sheet b
    and_then first_of (due b) (λ r. references b r and_then arguments b r)
    and_then first_of (nodes b) (tree b)
    and_then first_of (nodes b) (pattern b)

-- what the reader of sheets says
unfoldable pub sheet_verdict : List ℕ → Verdict
sheet_verdict b = checks_to_six b and_then types b

-- what the reader of translations says; "Translations never give 6 or 7"
unfoldable pub translation_verdict : List ℕ → Verdict
translation_verdict b = file_shape Translation b and_then first_of (due b) (references b)
