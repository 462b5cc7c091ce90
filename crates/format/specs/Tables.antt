-- What the readers that give their tables back answer: the tables of an accepted file, or the refusal.
use Rattle.std.specs.Prelude.{◌≡◌, ℕ, List, Result, IfOk}
use Rattle.definitions.specs.Checks.{sheet_verdict, translation_verdict}
use Rattle.definitions.specs.Verdict.{Accepted}
use Rattle.definitions.specs.Refusals.{as_verdict}
use Rattle.definitions.specs.declared.refusals.Refusal.{Refusal}
use Rattle.format.specs.Readers.{ReadSheet, ReadTranslation}
use Rattle.format.specs.declared.sheet.SheetTables.{SheetTables}
use Rattle.format.specs.declared.translation.TranslationTables.{TranslationTables}

pub record ReadsSheet (b : List ℕ) (r : Result SheetTables Refusal) : Type 0 where
  pub verdict : as_verdict r ≡ sheet_verdict b
  pub tables : IfOk r (λ t. ReadSheet b Accepted t.starts t.ends t.owners)

pub record ReadsTranslation (b : List ℕ) (r : Result TranslationTables Refusal) : Type 0 where
  pub verdict : as_verdict r ≡ translation_verdict b
  pub tables : IfOk r (λ t. ReadTranslation b Accepted t.starts t.ends)
