-- What the writer goes by, and what it leaves.
use Rattle.std.specs.Prelude.{◌≡◌, ℕ, ◌≤◌, ◌<◌, List, length}
use Rattle.std.proofs.lemmas.List.Edits.{sets}
use Rattle.definitions.specs.Layouts.{nodes, node_record}
use Rattle.definitions.specs.CanonicalSheet.{canonical}
use Rattle.canonical_writer.specs.Sizes.{SizedSheet}
use Rattle.canonical_writer.specs.Order.{Renumbered, Ordered}

-- a node that gets a new number, and its record
pub record PutFields (b rec sizes : List ℕ) (k q : ℕ) : Type 0 where
  pub node : Renumbered b sizes q k
  pub there : rec ≡ node_record b k

-- a sheet with the tables of sizes and of order
pub record PutNodes (b starts sizes order : List ℕ) : Type 0 where
  pub sheet : SizedSheet b starts sizes
  pub ordered : Ordered b order

-- and one of its numbers
pub record PutAt (b starts sizes order : List ℕ) (q : ℕ) : Type 0 where
  pub tables : PutNodes b starts sizes order
  pub below : q < nodes b

-- and an output with room for it
pub record Write (b starts sizes order out : List ℕ) : Type 0 where
  pub tables : PutNodes b starts sizes order
  pub room : length b ≤ length out

-- the canonical form was written over the front of an output
pub record WroteCanonical (b out : List ℕ) (n : ℕ) (out' : List ℕ) : Type 0 where
  pub all : n ≡ length (canonical b)
  pub output : out' ≡ sets out 0 (canonical b)
