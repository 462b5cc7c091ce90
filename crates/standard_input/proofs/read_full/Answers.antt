-- What was read stands at the buffer's front.
use Rattle.std.proofs.Common.{rules}
use Rattle.standard_input.proofs.Reading.{reads_on}
use Rattle.standard_input.proofs.read_full.Goals as goal

pub loop-done-preserved : goal.loop-done-preserved
loop-done-preserved g c =
    let before = c.loop-done.invariant in
    let read = c.in_ok-count.ensures in
    (search rules, reads_on _ _ _ _ _ _ _ _ before.0 read.bound.0 before.1 read.bytes.0)
