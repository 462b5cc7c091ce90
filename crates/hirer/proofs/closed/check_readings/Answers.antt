-- `hirer::closed::check_readings` meets its contract. The loop's invariant: the nodes passed are allowed.
use Rattle.hirer.proofs.Closing.{closing_node, closing_more, closing_refused, closing_done}
use Rattle.laws.proofs.Verdicts.{passed_none}
use native.Mathlib.Omega.{arith}
use Rattle.hirer.proofs.closed.check_readings.Goals as goal

pub loop-k-init : goal.loop-k-init
loop-k-init c =
    let first_node = c.first_node-first in
    record {
      readable = c.requires;
      start = first_node.ensures.0;
      low = first_node.ensures.1;
      counts = c.nodes-count.ensures;
      reached = omega arith;
      passed = passed_none _;
    }

pub node_allowed-requires : goal.node_allowed-requires
node_allowed-requires c =
    let loop = c.loop-k in
    (loop.invariant.readable, closing_node loop.invariant c.loop-k-test.true)

pub returns-then-not-node_allowed : goal.returns-then-not-node_allowed
returns-then-not-node_allowed c =
    let loop = c.loop-k in
    let loop_test = c.loop-k-test in
    let node_allowed = c.node_allowed in
    closing_refused loop.invariant loop_test.true node_allowed.ensures c.if-not-node_allowed.true c.from.ensures

pub loop-k-preserved : goal.loop-k-preserved
loop-k-preserved c =
    let loop = c.loop-k in
    let loop_test = c.loop-k-test in
    closing_more loop.invariant loop_test.true c.node_allowed.ensures c.if-not-node_allowed.false

pub returns : goal.returns
returns c = closing_done c.loop-k.invariant c.loop-k-test.false
