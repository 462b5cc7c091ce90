-- `run::node_table::fill_nodes` meets its contract: the entries of the nodes passed are right.
use Rattle.run.proofs.Entries.{filling_begins, filling_below, filling_room, filling_goes_on, filled}
use Rattle.run.proofs.node_table.fill_nodes.Goals as goal

pub loop-k-init : goal.loop-k-init
loop-k-init c =
    let pre = c.requires in
    filling_begins _ _ _ _ _ pre.0 c.nodes-count.ensures pre.2

pub entry_at-x-requires : goal.entry_at-x-requires
entry_at-x-requires c =
    let pre = c.requires in
    (pre.0, pre.1, filling_below _ _ _ _ c.loop-k.invariant c.loop-k-test.true)

pub bounds-tab-from : goal.bounds-tab-from
bounds-tab-from c =
    let loop = c.loop-k in
    let loop_test = c.loop-k-test in
    filling_room _ _ _ _ loop.invariant _ loop_test.true c.from.ensures

pub loop-k-preserved : goal.loop-k-preserved
loop-k-preserved c =
    let loop = c.loop-k in
    let loop_test = c.loop-k-test in
    filling_goes_on _ _ _ _ loop.invariant _ _ loop_test.true c.from.ensures c.entry_at-x.ensures

pub returns : goal.returns
returns c = filled _ _ _ _ c.loop-k.invariant c.loop-k-test.false
