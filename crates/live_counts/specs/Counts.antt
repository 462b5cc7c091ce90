-- The counts of a run, which are the steps left, the cells alive, the most that were alive together and the oldest cell: with a call opened, a
-- call closed, and a constructor that was remembered. What a visit ended with is told by its kind, that of the entry that remembers it, and 0
-- for a stop or a fault.
use Rattle.std.specs.Prelude.{ℕ, suc, min, max, Bool, ◌&&◌, cond, leb, eqb}
use Rattle.definitions.specs.CellBytes.{number_kind, constructor_kind}
use Rattle.live_counts.specs.declared.Counts.{Counts}

-- its own cell is alive
unfoldable pub call_opened : Counts → Counts
call_opened counts =
    let own = suc counts.live in
    record { left = counts.left; live = own; most = max counts.most own; oldest = own }

-- whether a call with this own cell gives back, as `live_after` of `LiveCells` says it
unfoldable pub gives_back : ℕ → ℕ → ℕ → Bool
gives_back kind own oldest = eqb kind number_kind && leb own oldest

-- by how many cells were alive before it, the oldest before it, and the kind of what its visit ended with
unfoldable pub call_closed : ℕ → ℕ → ℕ → Counts → Counts
call_closed before oldest kind counts =
    record {
      left = counts.left;
      live = cond (gives_back kind (suc before) counts.oldest) before counts.live;
      most = counts.most;
      oldest = min oldest counts.oldest;
    }

-- what a formal's actual ended with is remembered in cell c, where that is the formal's own
unfoldable pub constructor_noted : Bool → ℕ → ℕ → Counts → Counts
constructor_noted own c kind counts =
    record {
      left = counts.left;
      live = counts.live;
      most = counts.most;
      oldest = cond (own && eqb kind constructor_kind) (min counts.oldest c) counts.oldest;
    }
