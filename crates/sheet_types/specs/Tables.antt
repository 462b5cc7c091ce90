-- The table of types of a typed sheet's nodes.
use Rattle.std.specs.Prelude.{◌≡◌, ℕ, ◌<◌, List, cond, get_or, ltb}
use Rattle.definitions.specs.Sizes.{most_nodes}
use Rattle.definitions.specs.SheetKinds
use Rattle.definitions.specs.Records.{kind_of}
use Rattle.definitions.specs.Layouts.{nodes, node_record}
use Rattle.definitions.specs.Types.{number_type, type_of}
use Rattle.definitions.specs.declared.Layout.TheVariants.{Sheet}
use Rattle.file_records.specs.Index.{Opened}
use Rattle.file_runs.specs.Runs.{Owners}
use Rattle.sheet_rules.specs.Seen.{TreesAccepted}
use Rattle.sheet_rules.specs.Clauses.{ClausesOf}

-- entry c of a table of types; 0 past its end
unfoldable pub type_in : List ℕ → ℕ → ℕ
type_in types c = cond (ltb c most_nodes) (get_or types c number_type) number_type

-- the types of the nodes before node k are in the table
pub record TypesBelow (b types : List ℕ) (k : ℕ) : Type 0 where
  pub entry : (j : ℕ) → j < k → type_in types j ≡ type_of b j

-- node k of an opened sheet whose names and trees are accepted
pub record NamedAt (b starts : List ℕ) (k : ℕ) : Type 0 where
  pub file : Opened Sheet b starts
  pub checks : TreesAccepted b
  pub below : k < nodes b

-- and it is a case with this record
pub record CaseAt (b starts : List ℕ) (k : ℕ) (rec : List ℕ) : Type 0 where
  pub node : NamedAt b starts k
  pub is : rec ≡ node_record b k
  pub kind : kind_of rec ≡ SheetKinds.case_of

-- a node with the tables of owners and clauses
pub record TypedAt (b starts owners held : List ℕ) (k : ℕ) : Type 0 where
  pub node : NamedAt b starts k
  pub owned : Owners b owners
  pub clauses : ClausesOf b held
