-- The classes of trees: the numbering by keys, and what it comes to (document 02, request 4).
use Rattle.std.specs.Prelude.{◌≡◌, ℕ, ◌≤◌, ◌<◌, List, length}
use Rattle.definitions.specs.Sizes.{most_nodes}
use Rattle.definitions.specs.Lists.{first_passing}
use Rattle.definitions.specs.Layouts.{nodes}
use Rattle.definitions.specs.Checks.{sheet_verdict}
use Rattle.definitions.specs.Trees.{equal_trees}
use Rattle.definitions.specs.declared.Layout.TheVariants.{Sheet}
use Rattle.definitions.specs.Verdict.{Accepted}
use Rattle.file_records.specs.Index.{Opened}
use Rattle.file_runs.specs.Runs.{RunEndTable, Owners}
use Rattle.tree_classes.specs.Keys.{entry_of, SameKey}

-- an accepted sheet with the index of its records
pub record AcceptedSheet (b starts : List ℕ) : Type 0 where
  pub accepted : sheet_verdict b ≡ Accepted
  pub file : Opened Sheet b starts

-- and with the owners of its nodes, or the ends of its runs
pub record OwnedSheet (b starts owners : List ℕ) : Type 0 where
  pub sheet : AcceptedSheet b starts
  pub owned : Owners b owners

pub record EndedSheet (b starts ends : List ℕ) : Type 0 where
  pub sheet : AcceptedSheet b starts
  pub runs : RunEndTable Sheet b ends

-- an accepted sheet with the tables of its reader
pub record ReadTables (b starts ends owners : List ℕ) : Type 0 where
  pub sheet : AcceptedSheet b starts
  pub runs : RunEndTable Sheet b ends
  pub owned : Owners b owners

-- the first n nodes are numbered: those with one key, and no others, have one number, which is the first of them
pub record Numbered (b : List ℕ) (place : ℕ → ℕ) (classes : List ℕ) (n : ℕ) : Type 0 where
  pub size : length classes ≡ most_nodes
  pub below : (k : ℕ) → k < n → entry_of classes k ≤ k
  pub first : (k : ℕ) → k < n → entry_of classes (entry_of classes k) ≡ entry_of classes k
  pub key : (j k : ℕ) → j < n → k < n → entry_of classes j ≡ entry_of classes k → SameKey (entry_of classes) place b j k
  pub class : (j k : ℕ) → j < n → k < n → SameKey (entry_of classes) place b j k → entry_of classes j ≡ entry_of classes k

-- entry k is the first node whose tree is that of node k
pub record FirstNodes (b classes : List ℕ) : Type 0 where
  pub size : length classes ≡ most_nodes
  pub entry : (k : ℕ) → k < nodes b → entry_of classes k ≡ first_passing k (λ m. equal_trees b m k)
