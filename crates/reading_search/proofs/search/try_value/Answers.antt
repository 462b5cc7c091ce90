-- `reading_search::search::try_value` meets its contract: the reading is set, and the run is that of the table.
use mir.Syntax.{w32}
use mir.ValLaws.{to_z-of_z}
use native.Mathlib.Omega.{arith}
use Rattle.definitions.specs.declared.Layout.TheVariants.{Translation}
use Rattle.accepted.proofs.Head.{readings_limit}
use Rattle.accepted.proofs.Checks.{translation_shape}
use Rattle.run.proofs.ReadingEntries.{one_readable}
use Rattle.reading_search.proofs.Searching.{tried}
use Rattle.reading_search.proofs.search.try_value.Goals as goal

pub set_reading-requires : goal.set_reading-requires
set_reading-requires c =
    let pre = c.requires in
    (pre.readable.room, omega (arith, pre.there, readings_limit Translation _ (translation_shape _ pre.readable.accepted)))

pub run_held-end-requires : goal.run_held-end-requires
run_held-end-requires c =
    let pre = c.requires in
    (rw c.set_reading.ensures (one_readable _ _ pre.readable), pre.fit)

pub returns : goal.returns
returns c =
    let run = c.run_held-end in
    (tried c.requires c.ranges.z (rw (to_z-of_z w32 _ c.ranges.z) at c.set_reading.ensures) run.ensures.0 c.ends_in.ensures, run.ensures.1)
