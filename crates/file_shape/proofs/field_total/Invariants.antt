-- `file_shape::field_total` meets its contract. The loop's invariant: the total is the sum over the functions passed.
use Rattle.laws.proofs.Runs.{Totalled}
use Rattle.file_records.specs.Index.{Indexed}
use Prim.Native.Nat.{◌≤◌, ◌+◌, ◌*◌}
use Rattle.file_shape.proofs.field_total.Given as goal

abbrev pub invariant-loop-f : goal.invariant-loop-f
invariant-loop-f l = (l.f ≤ l.count) × (Indexed l.b l.starts (l.first + l.count)) × (l.total ≤ 65535 * l.f) × Totalled l.b l.first l.j l.f l.total
