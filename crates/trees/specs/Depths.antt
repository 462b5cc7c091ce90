-- How deep the tree of a node is, and where the scrutinee of a pattern variable stands.
use Rattle.std.specs.Prelude.{◌≡◌, ℕ, suc, ◌<◌, List, true}
use Rattle.std.proofs.Math.Option.{none}
use Rattle.definitions.specs.Records.{kind_of, field, field_count}
use Rattle.definitions.specs.Layouts.{nodes, node_record, body_of, owner_of}
use Rattle.definitions.specs.SheetKinds
use Rattle.definitions.specs.SheetNodes.{scrutinee_of}
use Rattle.definitions.specs.SheetRules.{clause_within}
use Rattle.definitions.specs.Trees.{names_node}
use Rattle.definitions.specs.declared.Layout.TheVariants.{Sheet}

-- the tree of node k is at most this deep
pub data Within (b : List ℕ) : ℕ → ℕ → Type 0 where
  deeper : {e k : ℕ}
      → ((i : ℕ) → i < field_count (node_record b k) → names_node (kind_of (node_record b k)) i ≡ true → Within b e (field (node_record b k) i))
      → (kind_of (node_record b k) ≡ SheetKinds.pattern_variable → Within b e (scrutinee_of b k))
      → Within b (suc e) k

-- node n is in no clause, and no body
pub record Outside (b : List ℕ) (n : ℕ) : Type 0 where
  pub below : n < nodes b
  pub place : clause_within b (nodes b) n ≡ none
  pub no_body : n ≡ body_of Sheet b (owner_of Sheet b n) → ⊥

-- so is the scrutinee of a pattern variable's case, and it is in the function of node k
pub record Scrutinee (b : List ℕ) (k n : ℕ) : Type 0 where
  pub outside : Outside b n
  pub owner : owner_of Sheet b n ≡ owner_of Sheet b k
