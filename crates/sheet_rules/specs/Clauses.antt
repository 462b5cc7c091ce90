-- The table of clauses: for each node one more than the constructor of the clause in whose tree it stands, 0 where it
-- stands in none.
use Rattle.std.specs.Prelude.{◌≡◌, ℕ, ◌+◌, ◌≤◌, ◌<◌, List, get_or}
use Rattle.std.proofs.Math.Option.{Option, none, some}
use Rattle.definitions.specs.Layouts.{nodes}
use Rattle.definitions.specs.SheetRules.{clause_within}
use Rattle.definitions.specs.declared.Layout.TheVariants.{Sheet}
use Rattle.file_records.specs.Index.{Opened}
use Rattle.file_runs.specs.Runs.{RunEndTable, Owners}
use Rattle.sheet_rules.specs.Seen.{ParentsOf, TreesAccepted}

-- the entry of a constructor, or of none
unfoldable pub entry_of : Option ℕ → ℕ
entry_of none = 0
entry_of (some c) = 1 + c

pub record ClausesOf (b held : List ℕ) : Type 0 where
  pub entry : (k : ℕ) → k < nodes b → get_or held k 0 ≡ entry_of (clause_within b (nodes b) k)

-- the table while it is filled from the last node on: the entries from node k on are right
pub record ClausesFrom (b held : List ℕ) (k : ℕ) : Type 0 where
  pub entry : (j : ℕ) → k ≤ j → j < nodes b → get_or held j 0 ≡ entry_of (clause_within b (nodes b) j)

-- an opened sheet whose trees are accepted, with the tables of runs, owners and parents
pub record Ruled (b starts ends owners parents : List ℕ) : Type 0 where
  pub file : Opened Sheet b starts
  pub runs : RunEndTable Sheet b ends
  pub owned : Owners b owners
  pub parents_right : ParentsOf b parents
  pub checks : TreesAccepted b
