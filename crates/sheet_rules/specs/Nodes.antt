-- A record and a node of an opened sheet, with the tables that the rules look into.
use Rattle.std.specs.Prelude.{ℕ, ◌<◌, List, Bool, ◌&&◌, ltb, eqb}
use Rattle.definitions.specs.Layouts.{nodes, due, owner_of}
use Rattle.definitions.specs.References.{child}
use Rattle.definitions.specs.declared.Layout.TheVariants.{Sheet}
use Rattle.file_records.specs.Index.{Opened}
use Rattle.file_runs.specs.Runs.{RunEndTable, Owners}

-- record r of an opened sheet with the table of owners
pub record NamesAt (b starts owners : List ℕ) (r : ℕ) : Type 0 where
  pub file : Opened Sheet b starts
  pub owned : Owners b owners
  pub below : r < due b

-- node k of an opened sheet with the tables of runs and owners
pub record NodeAt (b starts ends owners : List ℕ) (k : ℕ) : Type 0 where
  pub file : Opened Sheet b starts
  pub runs : RunEndTable Sheet b ends
  pub owned : Owners b owners
  pub below : k < nodes b

-- whether the j-th node that a record names is smaller than node k and in the same function
abbrev pub child_right : List ℕ → List ℕ → ℕ → ℕ → Bool
child_right b rec k j = ltb (child rec j) k && eqb (owner_of Sheet b (child rec j)) (owner_of Sheet b k)
