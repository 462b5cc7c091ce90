-- `run::node_table::set_readings` meets its contract: the readings passed are set, and the nodes stay.
use Rattle.run.proofs.ReadingEntries.{SettingReadings}
use Rattle.run.proofs.node_table.set_readings.Given as goal

abbrev pub invariant-loop-i : goal.invariant-loop-i
invariant-loop-i l = SettingReadings l.initial.tab l.readings l.tab l.i
