-- What the readers give: the verdict, and of an accepted file its index and the tables of its runs and owners.
use Rattle.std.specs.Prelude.{◌≡◌, ℕ, List, length}
use Rattle.definitions.specs.Sizes.{most_records, most_functions, most_nodes}
use Rattle.definitions.specs.Layouts.{due}
use Rattle.definitions.specs.Checks.{sheet_verdict, translation_verdict}
use Rattle.definitions.specs.declared.Layout.TheVariants.{Sheet, Translation}
use Rattle.definitions.specs.Verdict.{Verdict, Accepted}
use Rattle.file_records.specs.Index.{Indexed}
use Rattle.file_runs.specs.Runs.{RunEndTable, Owners}

-- tables that a reader's caller lends, each of its full size
pub record LentTables (starts ends : List ℕ) : Type 0 where
  pub starts_length : length starts ≡ most_records
  pub ends_length : length ends ≡ most_functions

pub record LentSheetTables (starts ends owners : List ℕ) : Type 0 where
  pub tables : LentTables starts ends
  pub owners_length : length owners ≡ most_nodes

-- what reading a translation gives: the verdict, and of an accepted one the index and the ends of runs
pub record ReadTranslation (b : List ℕ) (v : Verdict) (starts ends : List ℕ) : Type 0 where
  pub verdict : v ≡ translation_verdict b
  pub index : v ≡ Accepted → Indexed b starts (due b)
  pub runs : v ≡ Accepted → RunEndTable Translation b ends

-- what reading a sheet gives: the verdict, and of an accepted one the index, the ends of runs and the owners
pub record ReadSheet (b : List ℕ) (v : Verdict) (starts ends owners : List ℕ) : Type 0 where
  pub verdict : v ≡ sheet_verdict b
  pub index : v ≡ Accepted → Indexed b starts (due b)
  pub runs : v ≡ Accepted → RunEndTable Sheet b ends
  pub owned : v ≡ Accepted → Owners b owners
