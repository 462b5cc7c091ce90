-- `sheet_types::types` meets its contract. The loop's invariant: the nodes passed keep the rules, and their types are in the table.
use mathlib.Core.Path.{◌∙◌}
use Rattle.sheet_types.proofs.Typing.{typing_begins, named_at, typed_at, typing_room, typing_record, children_refused, result_refused, typing_goes_on}
use borrow.Author.Rules.{rules}
use Rattle.sheet_types.proofs.types.Goals as goal

pub loop-k-init : goal.loop-k-init
loop-k-init c =
    let pre = c.requires in
    typing_begins pre.0 pre.1 (search rules) c.first_node-first.ensures (c.from-count.ensures ∙ c.nodes.ensures)

pub type_at-t-requires : goal.type_at-t-requires
type_at-t-requires c = search (rules, typed_at, typing_record)

pub bounds-types-k : goal.bounds-types-k
bounds-types-k c = search typing_room

pub children_typed-requires : goal.children_typed-requires
children_typed-requires c = search (rules, named_at, typing_record)

pub returns-then-not-children_typed : goal.returns-then-not-children_typed
returns-then-not-children_typed c = search children_refused

pub returns-then-not-result_typed : goal.returns-then-not-result_typed
returns-then-not-result_typed c =
    result_refused c.loop-k.invariant c.loop-k-test.true c.indexed-rec.ensures c.type_at-t.ensures c.children_typed.ensures
    c.if-not-children_typed.false c.result_typed.ensures c.if-not-result_typed.true

pub loop-k-preserved : goal.loop-k-preserved
loop-k-preserved c =
    typing_goes_on c.loop-k.invariant c.loop-k-test.true c.indexed-rec.ensures c.type_at-t.ensures c.children_typed.ensures
    c.if-not-children_typed.false c.result_typed.ensures c.if-not-result_typed.false
