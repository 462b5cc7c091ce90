-- The places of nodes: what a node counts as besides its fields (document 02, request 4: "a parameter as its function and position,
-- a pattern variable as its scrutinee's tree and position").
use Rattle.std.specs.Prelude.{◌≡◌, ℕ, ◌<◌, List, cond, length, eqb}
use Rattle.definitions.specs.Sizes.{most_functions, most_nodes}
use Rattle.definitions.specs.Records.{kind_of, field}
use Rattle.definitions.specs.Layouts.{node_record, body_of, owner_of}
use Rattle.definitions.specs.SheetKinds
use Rattle.definitions.specs.declared.Layout.TheVariants.{Sheet}
use Rattle.tree_classes.specs.Keys.{entry_of}

-- the place of a node of kind `kind` in function f, by a number for each function's scrutinee
unfoldable pub place_of : (ℕ → ℕ) → ℕ → ℕ → ℕ
place_of scrutinee kind f = cond (eqb kind SheetKinds.parameter) f (cond (eqb kind SheetKinds.pattern_variable) (scrutinee f) 0)

-- entry k of the first n is the place of node k
pub record Placed (b : List ℕ) (scrutinee : ℕ → ℕ) (places : List ℕ) (n : ℕ) : Type 0 where
  pub size : length places ≡ most_nodes
  pub entry : (k : ℕ) → k < n → entry_of places k ≡ place_of scrutinee (kind_of (node_record b k)) (owner_of Sheet b k)

-- entry f of the first n is the class of the node that field 0 of function f's body names
pub record ScrutineeClasses (b : List ℕ) (class : ℕ → ℕ) (scrutinees : List ℕ) (n : ℕ) : Type 0 where
  pub size : length scrutinees ≡ most_functions
  pub entry : (f : ℕ) → f < n → entry_of scrutinees f ≡ class (field (node_record b (body_of Sheet b f)) 0)
