-- `translator::calls::place_node` meets its contract: a first call is put in its place, and another node leaves the table.
use native.Mathlib.Omega.{arith}
use Rattle.definitions.specs.declared.Layout.TheVariants.{Sheet}
use Rattle.accepted.proofs.Head.{nodes_limit}
use Rattle.call_labels.proofs.CallLabels.{call_read, none_read, none_first, not_first}
use Rattle.translator.proofs.CallOrder.{place_read, is_first_law, place_narrow, call_ordered, other_ordered}
use Rattle.translator.proofs.calls.place_node.Goals as goal

pub returns-then-from-k : goal.returns-then-from-k
returns-then-from-k c =
    let pre = c.requires in
    other_ordered _ _ _ (not_first pre.tables.trees pre.below c.from.ensures c.if-from-k.true) pre.ordered

pub bounds-firsts-f : goal.bounds-firsts-f
bounds-firsts-f c =
    let pre = c.requires in
    let trees = pre.tables.trees in
    let call = call_read trees.sheet pre.below c.first_node.ensures.0 c.indexed-rec.ensures
    c.kind.ensures c.if-kind-eq-CALL.true c.field.ensures c.from-f.ensures in
    omega (arith, call.function, call.few)

pub bounds-order-from : goal.bounds-order-from
bounds-order-from c =
    let pre = c.requires in
    let trees = pre.tables.trees in
    let call = call_read trees.sheet pre.below c.first_node.ensures.0 c.indexed-rec.ensures
    c.kind.ensures c.if-kind-eq-CALL.true c.field.ensures c.from-f.ensures in
    let place = place_read _ pre.tables call c.from.ensures c.if-from-k.false c.from-then-kind-eq-CALL.ensures
    c.from-then-kind-eq-CALL-2.ensures in
    let test = is_first_law _ pre.tables call c.from.ensures c.if-from-k.false in
    omega (arith, place_narrow _ pre.ordered call test place, nodes_limit Sheet _ trees.sheet.file.accepted)

pub returns-then-kind-eq-CALL : goal.returns-then-kind-eq-CALL
returns-then-kind-eq-CALL c =
    let pre = c.requires in
    let trees = pre.tables.trees in
    let call = call_read trees.sheet pre.below c.first_node.ensures.0 c.indexed-rec.ensures
    c.kind.ensures c.if-kind-eq-CALL.true c.field.ensures c.from-f.ensures in
    let place = place_read _ pre.tables call c.from.ensures c.if-from-k.false c.from-then-kind-eq-CALL.ensures
    c.from-then-kind-eq-CALL-2.ensures in
    let test = is_first_law _ pre.tables call c.from.ensures c.if-from-k.false in
    call_ordered _ pre.ordered call test place (nodes_limit Sheet _ trees.sheet.file.accepted)

pub returns-else-kind-eq-CALL : goal.returns-else-kind-eq-CALL
returns-else-kind-eq-CALL c =
    let pre = c.requires in
    other_ordered _ _ _
    (none_first _ _ (none_read pre.tables.trees.sheet pre.below c.first_node.ensures.0 c.indexed-rec.ensures c.kind.ensures
    c.if-kind-eq-CALL.false)) pre.ordered
