-- `call_labels::label_node` meets its contract: a call is labelled and counted, and another node leaves the tables.
use native.Mathlib.Omega.{arith}
use Rattle.call_labels.proofs.CallLabels.{call_read, none_read, first_limit, count_small, call_labelled, call_counted, other_labelled, other_counted}
use Rattle.call_labels.proofs.label_node.Goals as goal

pub label_call-requires : goal.label_call-requires
label_call-requires c =
    let pre = c.requires in
    let call = call_read pre.tables.sheet pre.below c.first_node.ensures.0 c.indexed-rec.ensures
    c.kind.ensures c.if-kind-eq-CALL.true c.field.ensures c.from.ensures in
    let limit = first_limit pre.tables.sheet.accepted pre.tables.found call in
    record {
      function = omega (arith, call.function, call.few);
      earlier = omega (arith, c.from-then-kind-eq-CALL.ensures, limit);
      narrow = call.narrow;
      room = count_small pre.tables.sheet.accepted pre.tables.found call pre.labelled pre.counted;
    }

pub returns-then-kind-eq-CALL : goal.returns-then-kind-eq-CALL
returns-then-kind-eq-CALL c =
    let pre = c.requires in
    let call = call_read pre.tables.sheet pre.below c.first_node.ensures.0 c.indexed-rec.ensures
    c.kind.ensures c.if-kind-eq-CALL.true c.field.ensures c.from.ensures in
    let accepted = pre.tables.sheet.accepted in
    let first = c.from-then-kind-eq-CALL.ensures in (
      rw c.label_call.ensures.label (call_labelled accepted pre.tables.found call pre.labelled pre.counted first),
      rw c.label_call.ensures.count (call_counted accepted pre.tables.found call pre.labelled pre.counted first),
    )

pub returns-else-kind-eq-CALL : goal.returns-else-kind-eq-CALL
returns-else-kind-eq-CALL c =
    let pre = c.requires in
    let none = none_read pre.tables.sheet pre.below c.first_node.ensures.0 c.indexed-rec.ensures
    c.kind.ensures c.if-kind-eq-CALL.false in
    (other_labelled _ _ none _ pre.labelled, other_counted _ _ none _ pre.counted)
