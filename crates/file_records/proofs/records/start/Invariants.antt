-- `file_records::records::start` meets its contract. The loop's invariant: the place is where record i starts.
use Rattle.definitions.specs.Records.{start_of}
use mathlib.Core.Path.{◌≡◌}
use Prim.Native.Nat.{◌≤◌}
use Rattle.file_records.proofs.records.start.Given as goal

abbrev pub invariant-loop-i : goal.invariant-loop-i
invariant-loop-i l = (l._i ≤ l.r) × (l.at ≡ start_of l.b l._i)
