-- The tables of children: for each node how often it is a child, 2 for more than once, and the last node that has it as a
-- child.
use Rattle.std.specs.Prelude.{◌≡◌, ℕ, ◌+◌, ◌≤◌, ◌<◌, min, List, cond, not, length, get_or, set, eqb, ltb}
use Rattle.definitions.specs.Sizes.{most_nodes}
use Rattle.definitions.specs.Lists.{count_of, sum_of, last_of}
use Rattle.definitions.specs.Layouts.{nodes, due, node_record}
use Rattle.definitions.specs.References.{children, child, references}
use Rattle.definitions.specs.SheetRules.{arguments, times_child, tree, parent_of}
use Rattle.definitions.specs.Verdicts.{◌and_then◌, first_of}
use Rattle.definitions.specs.Verdict.{Accepted}

-- how often node k is among the first n nodes that a record names
unfoldable pub times_in : List ℕ → ℕ → ℕ → ℕ
times_in rec n k = count_of n (λ j. eqb (child rec j) k)

-- once more: once, or more than once
unfoldable pub once : ℕ → ℕ
once n = cond (ltb n 1) 1 2

-- two tables with an entry for each node, the first of counts up to 2
pub record ChildTables (times parents : List ℕ) : Type 0 where
  pub times_length : length times ≡ most_nodes
  pub parents_length : length parents ≡ most_nodes
  pub small : (k : ℕ) → k < most_nodes → get_or times k 0 ≤ 2

-- the tables after one node is noted as a child of node p
pub record NotedOne (c p : ℕ) (times parents times' parents' : List ℕ) : Type 0 where
  pub counted : times' ≡ cond (ltb c most_nodes) (set times c (once (get_or times c 0))) times
  pub last : parents' ≡ cond (ltb c most_nodes) (set parents c p) parents

-- the tables after the first n nodes that the record of node p names are noted
pub record Noted (rec : List ℕ) (p n : ℕ) (times parents times' parents' : List ℕ) : Type 0 where
  pub counted : (k : ℕ) → k < most_nodes → get_or times' k 0 ≡ min 2 (get_or times k 0 + times_in rec n k)
  pub last : (k : ℕ) → k < most_nodes → get_or parents' k 0 ≡ cond (eqb (times_in rec n k) 0) (get_or parents k 0) p
  pub sized : ChildTables times' parents'

-- the tables after the children of the first p nodes are noted
pub record Seen (b : List ℕ) (p : ℕ) (times parents : List ℕ) : Type 0 where
  pub counted : (k : ℕ) → k < most_nodes → get_or times k 0 ≡ min 2 (sum_of p (λ q. times_in (node_record b q) (children (node_record b q)) k))
  pub last : (k : ℕ) → k < most_nodes
      → get_or parents k 0 ≡ last_of p (λ q. not (eqb (times_in (node_record b q) (children (node_record b q)) k) 0))
  pub sized : ChildTables times parents

-- the table of how often each node is a child, 2 for more than once
pub record TimesOf (b times : List ℕ) : Type 0 where
  pub entry : (k : ℕ) → k < nodes b → get_or times k 0 ≡ min 2 (times_child b k)

-- the table of parents
pub record ParentsOf (b parents : List ℕ) : Type 0 where
  pub entry : (k : ℕ) → k < nodes b → get_or parents k 0 ≡ parent_of b k

-- a sheet whose references, argument counts and trees are accepted
pub record TreesAccepted (b : List ℕ) : Type 0 where
  pub names : first_of (due b) (λ r. references b r and_then arguments b r) ≡ Accepted
  pub trees : first_of (nodes b) (tree b) ≡ Accepted
