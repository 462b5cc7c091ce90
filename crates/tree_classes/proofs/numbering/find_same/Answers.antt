-- `tree_classes::numbering::find_same` meets its contract. The loop's invariant: the nodes of the chain that were passed have other keys.
use mathlib.Core.Path.{sym, ◌∙◌}
use Rattle.tree_classes.proofs.SameKeys.{key_found}
use Rattle.tree_classes.proofs.Walks.{walk_begins, walk_finds, walk_goes_on, walk_falls, other_key}
use Rattle.tree_classes.proofs.numbering.find_same.Goals as goal

pub loop-next-init : goal.loop-next-init
loop-next-init c = walk_begins c.requires

pub returns-then-same_key : goal.returns-then-same_key
returns-then-same_key c =
    walk_finds c.requires c.loop-next.invariant c.loop-next-test.true (key_found (sym c.same_key.ensures ∙ c.if-same_key.true))

pub loop-next-smaller : goal.loop-next-smaller
loop-next-smaller c =
    walk_falls c.requires c.loop-next.invariant c.loop-next-test.true c.from-next.ensures

pub loop-next-preserved : goal.loop-next-preserved
loop-next-preserved c =
    let pre = c.requires in
    walk_goes_on pre c.loop-next.invariant c.loop-next-test.true
    (other_key pre c.loop-next.invariant c.loop-next-test.true c.same_key.ensures c.if-same_key.false) c.from-next.ensures
