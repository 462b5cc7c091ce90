-- The tables of the runs of nodes: where each function's ends, and which function owns each node.
use Rattle.std.specs.Prelude.{◌≡◌, ℕ, ◌+◌, ◌<◌, List, cond, get_or, leb}
use Rattle.definitions.specs.Layouts.{functions, nodes, run_end, owner_of}
use Rattle.definitions.specs.declared.Layout.{Layout}
use Rattle.definitions.specs.declared.Layout.TheVariants.{Sheet}

-- the table of the ends of runs: entry f is the first node after the run of function f
pub record RunEndTable (y : Layout) (b ends : List ℕ) : Type 0 where
  pub entry : (f : ℕ) → f < functions b → get_or ends f 0 ≡ run_end y b f

-- the owner of node k from that of the node before it, by a table of ends
unfoldable pub owner_after : List ℕ → ℕ → ℕ → ℕ
owner_after ends f k = cond (leb (get_or ends f 0) k) (f + 1) f

-- the table of owners: entry k is the function whose run holds node k
pub record Owners (b owners : List ℕ) : Type 0 where
  pub entry : (k : ℕ) → k < nodes b → get_or owners k 0 ≡ owner_of Sheet b k
