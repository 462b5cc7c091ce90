-- What reading a translation for a hirer gives: the first refusal before the owner's 10, and of a file with none the table of its nodes.
use Rattle.std.specs.Prelude.{◌≡◌, ℕ, List, ℤ, length, eqb}
use Rattle.definitions.specs.Numbers.{bad_readings}
use Rattle.definitions.specs.Verdicts.{◌and_then◌, require}
use Rattle.definitions.specs.Layouts.{readings}
use Rattle.definitions.specs.Hirer.{hirer_verdict}
use Rattle.definitions.specs.Verdict.{Verdict, Accepted}
use Rattle.run.specs.NodeTable.{Readable}

pub record ReadForHirer (b : List ℕ) (set : ℕ) (rs : List ℤ) (v : Verdict) (tab : List ℕ) : Type 0 where
  pub verdict : v ≡ (hirer_verdict b set and_then require (eqb (length rs) (readings b)) bad_readings 0)
  pub readable : v ≡ Accepted → Readable b tab
