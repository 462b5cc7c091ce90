-- `run::node_table::set_readings` meets its contract: the readings passed are set, and the nodes stay.
use mathlib.Core.Path.{refl}
use native.Mathlib.Omega.{arith}
use lib.IntN.{pos}
use lib.ListN.{get_or}
use mir.Syntax.{w32}
use mir.Val.{SFits}
use mir.ValLaws.{to_z-of_z}
use borrow.Author.Rules.{rules}
use Rattle.run.proofs.ReadingEntries.{setting_begins, setting_goes_on, setting_ends}
use Rattle.run.proofs.node_table.set_readings.Goals as goal

pub loop-i-init : goal.loop-i-init
loop-i-init c =
    let pre = c.requires in
    setting_begins _ _ pre.0 pre.1

pub set_reading-requires : goal.set_reading-requires
set_reading-requires c =
    let loop_test = c.loop-i-test in
    let inv = c.loop-i.invariant in
    (inv.room, omega (arith, inv.narrow, loop_test.true))

pub loop-i-preserved : goal.loop-i-preserved
loop-i-preserved c =
    let loop_test = c.loop-i-test in
    let inv = c.loop-i.invariant in
    let args = c.args in
    let fits : SFits w32 (get_or args.readings.now c.loop-i.i (pos 0)) = record { sfits = search rules } in
    rw (c.set_reading.ensures, to_z-of_z w32 _ fits) (setting_goes_on _ _ _ _ inv _ loop_test.true fits refl)

pub returns : goal.returns
returns c = setting_ends _ _ _ _ c.loop-i.invariant c.loop-i-test.false
