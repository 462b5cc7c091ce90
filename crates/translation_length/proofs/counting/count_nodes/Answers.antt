-- `translation_length::counting::count_nodes` meets its contract. The loop's invariant: the words of the nodes passed are summed.
use mathlib.Core.Path.{◌∙◌}
use native.Mathlib.Omega.{arith}
use Rattle.translation_length.proofs.WordCounts.{none_summed, one_summed, sum_within, all_summed, words_limit, node_counted}
use Rattle.translation_length.proofs.counting.count_nodes.Goals as goal

pub loop-k-init : goal.loop-k-init
loop-k-init c = none_summed

pub overflow_add-total : goal.overflow_add-total
overflow_add-total c =
    let pre = c.requires in
    let taken = c.loop-k-test.true in
    let count = c.from-count.ensures ∙ c.nodes.ensures in
    let node = node_counted pre taken count c.first_node-first.ensures.0 c.indexed.ensures c.count_node-total.ensures in
    omega (arith, sum_within c.loop-k.invariant taken node count, words_limit _ pre.accepted)

pub loop-k-preserved : goal.loop-k-preserved
loop-k-preserved c =
    let pre = c.requires in
    let taken = c.loop-k-test.true in
    let count = c.from-count.ensures ∙ c.nodes.ensures in
    one_summed c.loop-k.invariant taken
    (node_counted pre taken count c.first_node-first.ensures.0 c.indexed.ensures c.count_node-total.ensures)

pub returns : goal.returns
returns c =
    let pre = c.requires in
    let sum = all_summed c.loop-k.invariant c.loop-k-test.false (c.from-count.ensures ∙ c.nodes.ensures) in
    (sum, omega (arith, sum, words_limit _ pre.accepted))
