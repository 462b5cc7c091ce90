-- The loop has walked over `i` records. Assumes nothing.
use mathlib.Core.Path.{◌≡◌}
use Prim.Native.Nat.{◌≤◌, ◌<◌}
use Rattle.file_writer.specs.Writing.{walk_end, start_of}
use Rattle.file_writer.proofs.start.Given as goal

abbrev pub invariant-loop-i : goal.invariant-loop-i
invariant-loop-i l = (l._i ≤ l.r) × (l.at ≡ start_of l.file l._i) × (l.at < walk_end)
