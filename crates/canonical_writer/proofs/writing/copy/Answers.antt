-- `canonical_writer::writing::copy` meets its contract. The loop's invariant: the bytes passed are copied.
use native.Mathlib.Omega.{arith}
use Rattle.canonical_writer.proofs.Copying.{copying_begins, copying_goes_on, copying_done}
use Rattle.canonical_writer.proofs.writing.copy.Goals as goal

pub loop-i-init : goal.loop-i-init
loop-i-init c = copying_begins

pub bounds-out-i : goal.bounds-out-i
bounds-out-i c =
    let pre = c.requires in
    let inv = c.loop-i.invariant in
    omega (arith, pre.0, pre.1, inv.kept, c.loop-i-test.true)

pub loop-i-preserved : goal.loop-i-preserved
loop-i-preserved c =
    let pre = c.requires in
    copying_goes_on c.loop-i.invariant c.loop-i-test.true pre.0

pub shape_of-out : goal.shape_of-out
shape_of-out c = c.loop-i.invariant.kept

pub returns : goal.returns
returns c = copying_done c.loop-i.invariant c.loop-i-test.false
