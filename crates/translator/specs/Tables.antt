-- The translator's tables of an accepted sheet (document 01, "Translation"), beside those of `call_labels`: the calls in order, and
-- the first formal of each function.
use Rattle.std.specs.Prelude.{◌≡◌, ℕ, ◌+◌, ◌≤◌, ◌<◌, List, true, length, get_or}
use Rattle.definitions.specs.Sizes.{most_functions, most_nodes}
use Rattle.definitions.specs.Lists.{sum_of, count_of}
use Rattle.definitions.specs.Layouts.{functions, nodes, node_record}
use Rattle.definitions.specs.References.{parameters}
use Rattle.definitions.specs.Shape.{file_shape}
use Rattle.definitions.specs.Trees.{equal_trees}
use Rattle.definitions.specs.Labels.{is_first}
use Rattle.definitions.specs.declared.Layout.TheVariants.{Sheet}
use Rattle.definitions.specs.Verdict.{Accepted}
use Rattle.file_records.specs.Index.{Opened}
use Rattle.file_runs.specs.Runs.{Owners}
use Rattle.tree_classes.specs.Classes.{ReadTables, FirstNodes}
use Rattle.call_labels.specs.Tables.{Labels, Counts, label_count, Classed}

-- entry f is the sum of the terms before f; entry n is the sum of all n
pub record Sums (n : ℕ) (at : ℕ → ℕ) (sums : List ℕ) : Type 0 where
  pub entry : (f : ℕ) → f ≤ n → get_or sums f 0 ≡ sum_of f at

-- calls for the numbers of the first n functions give those of `at`
abbrev pub Gives : (ℕ → ℕ → Type 0) → ℕ → (ℕ → ℕ) → Type 0
Gives post n at = (f x : ℕ) → f < n → post f x → x ≡ at f

-- they may be made, and give numbers whose sum a table holds
pub record Summable (pre : ℕ → Type 0) (post : ℕ → ℕ → Type 0) (n : ℕ) : Type 0 where
  pub few : n ≤ most_functions
  pub callable : (f : ℕ) → f < n → pre f
  pub at : ℕ → ℕ
  pub given : Gives post n at
  pub small : sum_of n at ≤ 65535

-- the number of labels of the functions before function f
abbrev pub labels_before : List ℕ → ℕ → ℕ
labels_before b f = sum_of f (label_count b)

-- the first calls in order of function and label: of the first n nodes, each stands after its function's labels so far
pub record CallOrder (b order : List ℕ) (n : ℕ) : Type 0 where
  pub size : length order ≡ most_nodes
  pub entry : (f k : ℕ) → k < n → is_first (equal_trees b) b f k ≡ true → get_or order (labels_before b f + count_of k (is_first (equal_trees b) b f)) 0 ≡ k

-- an accepted sheet with the first node of each tree, labels and the first place of each function
pub record Placing (b starts classes labels firsts : List ℕ) : Type 0 where
  pub trees : Classed b starts classes
  pub labelled : Labels b labels (nodes b)
  pub first : Sums (functions b) (label_count b) firsts

-- its node k, where the calls before it are in order
pub record PlaceAt (b starts classes labels firsts order : List ℕ) (k : ℕ) : Type 0 where
  pub tables : Placing b starts classes labels firsts
  pub ordered : CallOrder b order k
  pub below : k < nodes b
  pub narrow : k < most_nodes

-- an opened sheet with its calls in order
pub record OrderedCalls (b starts firsts order : List ℕ) : Type 0 where
  pub file : Opened Sheet b starts
  pub first : Sums (functions b) (label_count b) firsts
  pub ordered : CallOrder b order (nodes b)

-- function f of such a sheet, and a position
pub record FormalAt (b starts firsts order : List ℕ) (f i : ℕ) : Type 0 where
  pub tables : OrderedCalls b starts firsts order
  pub below : f < functions b
  pub narrow : f < most_functions
  pub position : i ≤ 65535

-- an accepted sheet with the tables of its reader, the first node of each tree, the labels and their number for each function
pub record CallTables (b starts ends owners classes labels counts : List ℕ) : Type 0 where
  pub read : ReadTables b starts ends owners
  pub found : FirstNodes b classes
  pub labelled : Labels b labels (nodes b)
  pub counted : Counts b counts (nodes b)

-- or with its reader's tables, the labels and first formals
pub record NodeTables (b starts ends owners labels formals : List ℕ) : Type 0 where
  pub read : ReadTables b starts ends owners
  pub labelled : Labels b labels (nodes b)
  pub summed : Sums (functions b) (parameters b) formals

-- and with the calls in order
pub record Tables (b starts ends owners labels firsts order formals : List ℕ) : Type 0 where
  pub node : NodeTables b starts ends owners labels formals
  pub first : Sums (functions b) (label_count b) firsts
  pub ordered : CallOrder b order (nodes b)

-- node k of an accepted sheet with the tables for nodes, and its record
pub record NodeRead (b starts ends owners labels formals rec : List ℕ) (k : ℕ) : Type 0 where
  pub tables : NodeTables b starts ends owners labels formals
  pub below : k < nodes b
  pub narrow : k < most_nodes
  pub there : rec ≡ node_record b k

-- node k of an opened sheet with the tables of owners and of first formals
pub record OwnerFormals (b owners formals : List ℕ) (k : ℕ) : Type 0 where
  pub shaped : file_shape Sheet b ≡ Accepted
  pub owned : Owners b owners
  pub summed : Sums (functions b) (parameters b) formals
  pub below : k < nodes b
