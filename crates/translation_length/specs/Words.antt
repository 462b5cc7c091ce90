-- How many words the parts of a translation take (document 01, "Translation").
use Rattle.std.specs.Prelude.{cond, ◌||◌, ℕ, ◌/◌, List, length, eqb}
use Rattle.definitions.specs.Records.{kind_of}
use Rattle.definitions.specs.SheetKinds
use Rattle.definitions.specs.Layouts.{nodes}
use Rattle.definitions.specs.Trees.{equal_trees}
use Rattle.definitions.specs.Translate.{formal_words, node_words}
use Rattle.tree_classes.specs.Classes.{AcceptedSheet}
use Rattle.call_labels.specs.Tables.{Counts}

-- an accepted sheet with the number of labels of each function
pub record CountedLabels (b starts counts : List ℕ) : Type 0 where
  pub sheet : AcceptedSheet b starts
  pub counted : Counts b counts (nodes b)

-- the formals of function f, and node k
abbrev pub formal_length : List ℕ → ℕ → ℕ
formal_length b f = length (formal_words (equal_trees b) b f)

abbrev pub node_length : List ℕ → ℕ → ℕ
node_length b k = length (node_words (equal_trees b) b k)

-- a node by its record in the sheet: a call and a pattern variable have two fields in the translation, another node as many as in the sheet
unfoldable pub record_length : List ℕ → ℕ
record_length rec = cond (eqb (kind_of rec) SheetKinds.call || eqb (kind_of rec) SheetKinds.pattern_variable) 4 (length rec / 2)
