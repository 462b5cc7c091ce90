-- What remembering saves, what it leaves alone and what it does not keep: one statement over a list of trials, and two evaluations and a
-- hand-made translation beside it, by computation.
use mathlib.Core.Path.{◌≡◌, refl}
use mathlib.Core.List.{map}
use Rattle.definitions.specs.Rule.{where_cell}
use Rattle.definitions.specs.PlainCells.{plain_cell_of, under_tail, formal_by_plain_cells, with_cell, call_by_plain_cells, by_plain_cells, plain_evaluation}
use Rattle.sheets.specs.EqualCalls.{num, first, sum, of}
use Rattle.sheets.specs.Remembering.{five_times, twice, remembering, took, foreign_formal, lent, Remembering}
use Rattle.sheets.proofs.Opened.{opened}
use Rattle.sheets.proofs.Observed.{observed, expected, endless, all_hold}

trials_agree : map observed remembering ≡ map expected remembering
unfolding opened observed expected endless num first sum of five_times twice remembering
trials_agree = refl

pub remembering_holds : Remembering
unfolding opened plain_cell_of under_tail formal_by_plain_cells with_cell where_cell call_by_plain_cells by_plain_cells plain_evaluation num first sum of five_times took foreign_formal lent
remembering_holds =
    record {
      hold = all_hold remembering trials_agree;
      with_memory_law = refl;
      without = refl;
      foreign_accepted = refl;
      foreign_answer = refl;
      foreign_cells = refl;
    }
