-- The cycle of visits meets its contracts.
use mathlib.Core.Path.{refl, sym, ◌∙◌}
use native.Mathlib.Omega.{arith}
use mir.Syntax.{w32}
use mir.ValLaws.{to_z-of_z}
use borrow.Author.Rules.{rules}
use Rattle.run.proofs.EntryReads.{kind_read, kind_last, first_read, reading_narrow, entry_room, node_room, actual_room}
use Rattle.run.proofs.SimpleSteps.{number_ends, reading_ends, tuple_ends}
use Rattle.run.proofs.Visiting.{no_step_left, no_nesting_left, kind_asked, step_counted}
use Rattle.run.proofs.CallSteps.{call_ends, live_below, body_due, body_asked, body_returned}
use Rattle.run.proofs.Remains.{visit_asked, visit_returned}
use Rattle.run.proofs.Operands.{choice_awaits, left_awaits, right_awaits, operand_asked, operand_visited, choice_visited, left_visited, operand_ends}
use Rattle.run.proofs.Operands.{choice_known, choice_visits, choice_ends, operator_returned}
use Rattle.run.proofs.Choices.{select_misses, branch_misses, case_misses}
use Rattle.run.proofs.FormalSteps.{formal_ends, cell_read, known_returned, formal_seeks, actual_missed, actual_asked, actual_returned}
use Rattle.run.specs.GoingOn.{a_select, a_conditional, a_case}
use Rattle.run.proofs.Endings.{number_misses, number_taken, no_number, ended_number, constructor_taken, no_constructor, ended_constructor}
use Rattle.run.proofs.visit.+visits.Goals as goal

-- A visit meets its contract: the two stops, a step counted, and the function of the node's kind.
pub visit-returns-then-left-eq0 : goal.visit-returns-then-left-eq0
visit-returns-then-left-eq0 t c = no_step_left c.requires c.if-left-eq0.true c.packed.ensures c.ended.ensures

pub visit-returns-then-limits-eq0 : goal.visit-returns-then-limits-eq0
visit-returns-then-limits-eq0 t c = no_nesting_left c.requires c.if-left-eq0.false c.if-limits-eq0.true c.packed-then-limits-eq0.ensures c.ended-then-limits-eq0.ensures

pub visit-entry-node-requires : goal.visit-entry-node-requires
visit-entry-node-requires t c = entry_room c.requires.equipped c.requires.there

pub visit-returns-then-kind-eq-NUMBER : goal.visit-returns-then-kind-eq-NUMBER
visit-returns-then-kind-eq-NUMBER t c =
    let read = kind_read c.requires c.entry-node.ensures c.kind_in-kind.ensures c.if-kind-eq-NUMBER.true in
    let step_taken = step_counted c.requires c.if-left-eq0.false c.if-limits-eq0.false in
    step_taken.returned (number_ends (kind_asked (c.decreases, c.requires) c.if-left-eq0.false c.if-limits-eq0.false read).1 c.entry-node.ensures
    (to_z-of_z w32 _ (record { sfits = search rules })) c.number_in.ensures c.packed-then-kind-eq-NUMBER.ensures c.number.ensures)

pub visit-visit_formal-requires : goal.visit-visit_formal-requires
visit-visit_formal-requires t c =
    kind_asked (c.decreases, c.requires) c.if-left-eq0.false c.if-limits-eq0.false (kind_read c.requires c.entry-node.ensures c.kind_in-kind.ensures c.if-kind-eq-FORMAL.true)

pub visit-returns-then-kind-eq-FORMAL : goal.visit-returns-then-kind-eq-FORMAL
visit-returns-then-kind-eq-FORMAL t c =
    let step_taken = step_counted c.requires c.if-left-eq0.false c.if-limits-eq0.false in
    step_taken.returned c.visit_formal.ensures

pub visit-returns-then-kind-eq-TUPLE : goal.visit-returns-then-kind-eq-TUPLE
visit-returns-then-kind-eq-TUPLE t c =
    let read = kind_read c.requires c.entry-node.ensures c.kind_in-kind.ensures c.if-kind-eq-TUPLE.true in
    let step_taken = step_counted c.requires c.if-left-eq0.false c.if-limits-eq0.false in
    step_taken.returned (tuple_ends (kind_asked (c.decreases, c.requires) c.if-left-eq0.false c.if-limits-eq0.false read).1 c.packed-then-kind-eq-TUPLE.ensures c.constructor.ensures)

pub visit-visit_call-requires : goal.visit-visit_call-requires
visit-visit_call-requires t c =
    kind_asked (c.decreases, c.requires) c.if-left-eq0.false c.if-limits-eq0.false (kind_read c.requires c.entry-node.ensures c.kind_in-kind.ensures c.if-kind-eq-CALL.true)

pub visit-returns-then-kind-eq-CALL : goal.visit-returns-then-kind-eq-CALL
visit-returns-then-kind-eq-CALL t c =
    let step_taken = step_counted c.requires c.if-left-eq0.false c.if-limits-eq0.false in
    step_taken.returned c.visit_call.ensures

pub visit-visit_select-requires : goal.visit-visit_select-requires
visit-visit_select-requires t c =
    kind_asked (c.decreases, c.requires) c.if-left-eq0.false c.if-limits-eq0.false (kind_read c.requires c.entry-node.ensures c.kind_in-kind.ensures c.if-kind-eq-SELECT.true)

pub visit-returns-then-kind-eq-SELECT : goal.visit-returns-then-kind-eq-SELECT
visit-returns-then-kind-eq-SELECT t c =
    let step_taken = step_counted c.requires c.if-left-eq0.false c.if-limits-eq0.false in
    step_taken.returned c.visit_select.ensures

pub visit-visit_operator-requires : goal.visit-visit_operator-requires
visit-visit_operator-requires t c =
    kind_asked (c.decreases, c.requires) c.if-left-eq0.false c.if-limits-eq0.false (kind_read c.requires c.entry-node.ensures c.kind_in-kind.ensures c.if-kind-eq-OPERATOR.true)

pub visit-returns-then-kind-eq-OPERATOR : goal.visit-returns-then-kind-eq-OPERATOR
visit-returns-then-kind-eq-OPERATOR t c =
    let step_taken = step_counted c.requires c.if-left-eq0.false c.if-limits-eq0.false in
    step_taken.returned c.visit_operator.ensures

pub visit-reading-requires : goal.visit-reading-requires
visit-reading-requires t c =
    let read = kind_read c.requires c.entry-node.ensures c.kind_in-kind.ensures c.if-kind-eq-READING.true in
    let node = (kind_asked (c.decreases, c.requires) c.if-left-eq0.false c.if-limits-eq0.false read).1 in
    reading_narrow node (first_read node.equipped node.node c.entry-node.ensures (λ q. omega (arith, q)) c.first_in.ensures)

pub visit-returns-then-kind-eq-READING : goal.visit-returns-then-kind-eq-READING
visit-returns-then-kind-eq-READING t c =
    let read = kind_read c.requires c.entry-node.ensures c.kind_in-kind.ensures c.if-kind-eq-READING.true in
    let step_taken = step_counted c.requires c.if-left-eq0.false c.if-limits-eq0.false in
    step_taken.returned (reading_ends (kind_asked (c.decreases, c.requires) c.if-left-eq0.false c.if-limits-eq0.false read).1 c.entry-node.ensures
    c.first_in.ensures (to_z-of_z w32 _ (record { sfits = search rules })) c.reading.ensures
    c.packed-then-kind-eq-READING.ensures c.number-then-kind-eq-READING.ensures)

pub visit-visit_conditional-requires : goal.visit-visit_conditional-requires
visit-visit_conditional-requires t c =
    kind_asked (c.decreases, c.requires) c.if-left-eq0.false c.if-limits-eq0.false (kind_read c.requires c.entry-node.ensures c.kind_in-kind.ensures c.if-kind-eq-CONDITIONAL.true)

pub visit-returns-then-kind-eq-CONDITIONAL : goal.visit-returns-then-kind-eq-CONDITIONAL
visit-returns-then-kind-eq-CONDITIONAL t c =
    let step_taken = step_counted c.requires c.if-left-eq0.false c.if-limits-eq0.false in
    step_taken.returned c.visit_conditional.ensures

pub visit-visit_case-requires : goal.visit-visit_case-requires
visit-visit_case-requires t c =
    kind_asked (c.decreases, c.requires) c.if-left-eq0.false c.if-limits-eq0.false
    (kind_last c.requires c.entry-node.ensures c.kind_in-kind.ensures
    c.if-kind-eq-NUMBER.false c.if-kind-eq-READING.false c.if-kind-eq-FORMAL.false c.if-kind-eq-SELECT.false c.if-kind-eq-OPERATOR.false
    c.if-kind-eq-CONDITIONAL.false c.if-kind-eq-CALL.false c.if-kind-eq-TUPLE.false)

pub visit-returns : goal.visit-returns
visit-returns t c =
    let step_taken = step_counted c.requires c.if-left-eq0.false c.if-limits-eq0.false in
    step_taken.returned c.visit_case.ensures

-- A call meets its contract: one cell more is alive, the body is visited under it, and the call is closed.
pub visit_call-returns-then-limits-live : goal.visit_call-returns-then-limits-live
visit_call-returns-then-limits-live t c = call_ends _ (c.decreases, c.requires) c.if-limits-live.true c.packed.ensures c.ended.ensures

pub visit_call-entry-node-requires : goal.visit_call-entry-node-requires
visit_call-entry-node-requires t c = node_room c.requires

pub visit_call-open_call-requires : goal.visit_call-open_call-requires
visit_call-open_call-requires t c = live_below (c.decreases, c.requires) c.if-limits-live.false

pub visit_call-visit-x-requires : goal.visit_call-visit-x-requires
visit_call-visit-x-requires t c =
    let due = body_due c.args.cells.now (c.decreases, c.requires) c.if-limits-live.false c.entry-node.ensures
    c.first_in.ensures c.second_in.ensures c.third_in.ensures c.add_cell.ensures c.open_call.ensures in
    body_asked due c.pair_of-body.ensures

pub visit_call-close_call-requires : goal.visit_call-close_call-requires
visit_call-close_call-requires t c = live_below (c.decreases, c.requires) c.if-limits-live.false

pub visit_call-returns : goal.visit_call-returns
visit_call-returns t c =
    let due = body_due c.args.cells.now (c.decreases, c.requires) c.if-limits-live.false c.entry-node.ensures
    c.first_in.ensures c.second_in.ensures c.third_in.ensures c.add_cell.ensures c.open_call.ensures in
    body_returned due c.pair_of-body.ensures c.visit-x.ensures c.kind_in.ensures c.close_call.ensures

-- A formal meets its contract: its cell is read, and what it remembers is returned, or the actual that the head label names is sought,
pub visit_formal-returns-then-w-eq0 : goal.visit_formal-returns-then-w-eq0
visit_formal-returns-then-w-eq0 t c = formal_ends (c.decreases, c.requires) c.if-w-eq0.true c.packed.ensures c.ended.ensures

pub visit_formal-entry-node-requires : goal.visit_formal-entry-node-requires
visit_formal-entry-node-requires t c = node_room c.requires

pub visit_formal-returns-then-is_value : goal.visit_formal-returns-then-is_value
visit_formal-returns-then-is_value t c =
    let read = cell_read {cells = c.args.cells.now} (c.decreases, c.requires) c.if-w-eq0.false c.entry-node.ensures c.first_in-place.ensures c.is_own-own.ensures c.recall-known.ensures in
    known_returned read (sym c.is_value.ensures ∙ c.if-is_value.true)

pub visit_formal-listed-requires : goal.visit_formal-listed-requires
visit_formal-listed-requires t c = actual_room c.requires c.entry-node.ensures c.second_in.ensures c.third_in.ensures

pub visit_formal-returns-in_default : goal.visit_formal-returns-in_default
visit_formal-returns-in_default t c =
    let read = cell_read {cells = c.args.cells.now} (c.decreases, c.requires) c.if-w-eq0.false c.entry-node.ensures c.first_in-place.ensures c.is_own-own.ensures c.recall-known.ensures in
    let sought = formal_seeks read (sym c.is_value.ensures ∙ c.if-is_value.false) c.entry-node.ensures c.cell_in-cell.ensures c.second_in.ensures c.third_in.ensures c.listed.ensures in
    actual_missed sought c.in_default.is c.packed-in_default.ensures c.ended-in_default.ensures

pub visit_formal-visit-x-requires : goal.visit_formal-visit-x-requires
visit_formal-visit-x-requires t c =
    let read = cell_read {cells = c.args.cells.now} (c.decreases, c.requires) c.if-w-eq0.false c.entry-node.ensures c.first_in-place.ensures c.is_own-own.ensures c.recall-known.ensures in
    let sought = formal_seeks read (sym c.is_value.ensures ∙ c.if-is_value.false) c.entry-node.ensures c.cell_in-cell.ensures c.second_in.ensures c.third_in.ensures c.listed.ensures in
    actual_asked sought c.in-Some.is c.pair_of.ensures

pub visit_formal-returns : goal.visit_formal-returns
visit_formal-returns t c =
    let read = cell_read {cells = c.args.cells.now} (c.decreases, c.requires) c.if-w-eq0.false c.entry-node.ensures c.first_in-place.ensures c.is_own-own.ensures c.recall-known.ensures in
    let sought = formal_seeks read (sym c.is_value.ensures ∙ c.if-is_value.false) c.entry-node.ensures c.cell_in-cell.ensures c.second_in.ensures c.third_in.ensures c.listed.ensures in
    actual_returned sought c.in-Some.is c.pair_of.ensures c.visit-x.ensures
    c.remember.ensures c.kind_in.ensures c.note_constructor.ensures

-- An operator meets its contract: its left operand is visited and gives a number, and so its right one.
pub visit_operator-entry-requires : goal.visit_operator-entry-requires
visit_operator-entry-requires t c = node_room c.requires

pub visit_operator-visit-first-requires : goal.visit_operator-visit-first-requires
visit_operator-visit-first-requires t c =
    operand_asked (left_awaits {cells = c.args.cells.now} (c.decreases, c.requires) c.entry.ensures c.second_in-n.ensures) c.pair_of.ensures

pub visit_operator-returns-in_default : goal.visit_operator-returns-in_default
visit_operator-returns-in_default t c =
    let left = left_visited (c.decreases, c.requires) c.entry.ensures c.second_in-n.ensures c.pair_of.ensures c.visit-first.ensures in
    operand_ends left (λ rs s. number_misses _ s _ (ended_number _ c.opened-state.ensures.0 c.in_default.is))

pub visit_operator-returns-in_default-value : goal.visit_operator-returns-in_default-value
visit_operator-returns-in_default-value t c =
    let left = left_visited (c.decreases, c.requires) c.entry.ensures c.second_in-n.ensures c.pair_of.ensures c.visit-first.ensures in
    operand_ends left (λ rs s. number_misses _ s _ (no_number _ c.opened-state.ensures.0 c.in-Ok.is _ c.packed.ensures c.in_default-value.is c.ended.ensures))

pub visit_operator-entry-requires-2 : goal.visit_operator-entry-requires-2
visit_operator-entry-requires-2 t c = node_room c.requires

pub visit_operator-visit-second-requires : goal.visit_operator-visit-second-requires
visit_operator-visit-second-requires t c =
    let left = left_visited (c.decreases, c.requires) c.entry.ensures c.second_in-n.ensures c.pair_of.ensures c.visit-first.ensures in
    let taken = number_taken _ c.opened-state.ensures.0 c.in-Ok.is c.in-Number.is refl in
    operand_asked (right_awaits left taken c.entry-2.ensures c.third_in-m.ensures) c.pair_of-2.ensures

pub visit_operator-returns-in_default-outcome : goal.visit_operator-returns-in_default-outcome
visit_operator-returns-in_default-outcome t c =
    let left = left_visited (c.decreases, c.requires) c.entry.ensures c.second_in-n.ensures c.pair_of.ensures c.visit-first.ensures in
    let taken = number_taken _ c.opened-state.ensures.0 c.in-Ok.is c.in-Number.is refl in
    let right = operand_visited (right_awaits left taken c.entry-2.ensures c.third_in-m.ensures) c.pair_of-2.ensures c.visit-second.ensures in
    operand_ends right (λ rs s. number_misses _ s _ (ended_number _ c.opened-state-2.ensures.0 c.in_default-outcome.is))

pub visit_operator-returns-in_default-value-2 : goal.visit_operator-returns-in_default-value-2
visit_operator-returns-in_default-value-2 t c =
    let left = left_visited (c.decreases, c.requires) c.entry.ensures c.second_in-n.ensures c.pair_of.ensures c.visit-first.ensures in
    let taken = number_taken _ c.opened-state.ensures.0 c.in-Ok.is c.in-Number.is refl in
    let right = operand_visited (right_awaits left taken c.entry-2.ensures c.third_in-m.ensures) c.pair_of-2.ensures c.visit-second.ensures in
    operand_ends right
    (λ rs s. number_misses _ s _ (no_number _ c.opened-state-2.ensures.0 c.in-Ok-outcome.is _ c.packed-in_default-value-2.ensures
    c.in_default-value-2.is c.ended-in_default-value-2.ensures))

pub visit_operator-entry-requires-3 : goal.visit_operator-entry-requires-3
visit_operator-entry-requires-3 t c = node_room c.requires

pub visit_operator-returns : goal.visit_operator-returns
visit_operator-returns t c =
    let left = left_visited (c.decreases, c.requires) c.entry.ensures c.second_in-n.ensures c.pair_of.ensures c.visit-first.ensures in
    let taken = number_taken _ c.opened-state.ensures.0 c.in-Ok.is c.in-Number.is (to_z-of_z w32 _ (record { sfits = search rules })) in
    let right = operand_visited (right_awaits left taken c.entry-2.ensures c.third_in-m.ensures) c.pair_of-2.ensures c.visit-second.ensures in
    let right_taken = number_taken _ c.opened-state-2.ensures.0 c.in-Ok-outcome.is c.in-Number-value.is (to_z-of_z w32 _ (record { sfits = search rules })) in
    operator_returned right right_taken c.entry-3.ensures c.first_in.ensures c.operated.ensures

-- A selection meets its contract: the tuple is visited, and then the field.
pub visit_select-entry-requires : goal.visit_select-entry-requires
visit_select-entry-requires t c = node_room c.requires

pub visit_select-visit-tuple-requires : goal.visit_select-visit-tuple-requires
visit_select-visit-tuple-requires t c =
    operand_asked (choice_awaits {cells = c.args.cells.now} (c.decreases, c.requires) a_select c.entry.ensures c.first_in-n.ensures) c.pair_of.ensures

pub visit_select-returns-in_default : goal.visit_select-returns-in_default
visit_select-returns-in_default t c =
    let operand = choice_visited (c.decreases, c.requires) a_select c.entry.ensures c.first_in-n.ensures c.pair_of.ensures c.visit-tuple.ensures in
    choice_ends operand refl (select_misses (ended_constructor _ c.opened-state.ensures.0 c.in_default.is)) refl

pub visit_select-returns-in_default-value : goal.visit_select-returns-in_default-value
visit_select-returns-in_default-value t c =
    let operand = choice_visited (c.decreases, c.requires) a_select c.entry.ensures c.first_in-n.ensures c.pair_of.ensures c.visit-tuple.ensures in
    choice_ends operand refl (select_misses (no_constructor _ c.opened-state.ensures.0 c.in-Ok.is _ c.packed.ensures c.in_default-value.is c.ended.ensures)) refl

pub visit_select-field_selected-requires : goal.visit_select-field_selected-requires
visit_select-field_selected-requires t c =
    let operand = choice_visited (c.decreases, c.requires) a_select c.entry.ensures c.first_in-n.ensures c.pair_of.ensures c.visit-tuple.ensures in
    choice_known operand (constructor_taken _ c.opened-state.ensures.0 c.in-Ok.is c.in-Constructor.is)

pub visit_select-visit-requires : goal.visit_select-visit-requires
visit_select-visit-requires t c =
    let operand = choice_visited (c.decreases, c.requires) a_select c.entry.ensures c.first_in-n.ensures c.pair_of.ensures c.visit-tuple.ensures in
    let taken = constructor_taken _ c.opened-state.ensures.0 c.in-Ok.is c.in-Constructor.is in
    visit_asked (choice_visits operand taken c.field_selected.ensures c.in-Ok-field_selected.is) (refl, refl)

pub visit_select-returns-in-Ok-field_selected : goal.visit_select-returns-in-Ok-field_selected
visit_select-returns-in-Ok-field_selected t c =
    let operand = choice_visited (c.decreases, c.requires) a_select c.entry.ensures c.first_in-n.ensures c.pair_of.ensures c.visit-tuple.ensures in
    let taken = constructor_taken _ c.opened-state.ensures.0 c.in-Ok.is c.in-Constructor.is in
    visit_returned (choice_visits operand taken c.field_selected.ensures c.in-Ok-field_selected.is) (refl, refl) c.visit.ensures

pub visit_select-returns-in-Err : goal.visit_select-returns-in-Err
visit_select-returns-in-Err t c =
    let operand = choice_visited (c.decreases, c.requires) a_select c.entry.ensures c.first_in-n.ensures c.pair_of.ensures c.visit-tuple.ensures in
    choice_ends operand (constructor_taken _ c.opened-state.ensures.0 c.in-Ok.is c.in-Constructor.is) c.field_selected.ensures c.in-Err.is

-- An if meets its contract: the condition is visited, and then the arm.
pub visit_conditional-entry-requires : goal.visit_conditional-entry-requires
visit_conditional-entry-requires t c = node_room c.requires

pub visit_conditional-visit-condition-requires : goal.visit_conditional-visit-condition-requires
visit_conditional-visit-condition-requires t c =
    operand_asked (choice_awaits {cells = c.args.cells.now} (c.decreases, c.requires) a_conditional c.entry.ensures c.first_in-n.ensures) c.pair_of.ensures

pub visit_conditional-returns-in_default : goal.visit_conditional-returns-in_default
visit_conditional-returns-in_default t c =
    let operand = choice_visited (c.decreases, c.requires) a_conditional c.entry.ensures c.first_in-n.ensures c.pair_of.ensures c.visit-condition.ensures in
    choice_ends operand refl (branch_misses (ended_number _ c.opened-state.ensures.0 c.in_default.is)) refl

pub visit_conditional-returns-in_default-value : goal.visit_conditional-returns-in_default-value
visit_conditional-returns-in_default-value t c =
    let operand = choice_visited (c.decreases, c.requires) a_conditional c.entry.ensures c.first_in-n.ensures c.pair_of.ensures c.visit-condition.ensures in
    choice_ends operand refl (branch_misses (no_number _ c.opened-state.ensures.0 c.in-Ok.is _ c.packed.ensures c.in_default-value.is c.ended.ensures)) refl

pub visit_conditional-arm_taken-arm-requires : goal.visit_conditional-arm_taken-arm-requires
visit_conditional-arm_taken-arm-requires t c =
    let operand = choice_visited (c.decreases, c.requires) a_conditional c.entry.ensures c.first_in-n.ensures c.pair_of.ensures c.visit-condition.ensures in
    choice_known operand (number_taken _ c.opened-state.ensures.0 c.in-Ok.is c.in-Number.is (to_z-of_z w32 _ (record { sfits = search rules })))

pub visit_conditional-visit-requires : goal.visit_conditional-visit-requires
visit_conditional-visit-requires t c =
    let operand = choice_visited (c.decreases, c.requires) a_conditional c.entry.ensures c.first_in-n.ensures c.pair_of.ensures c.visit-condition.ensures in
    let taken = number_taken _ c.opened-state.ensures.0 c.in-Ok.is c.in-Number.is (to_z-of_z w32 _ (record { sfits = search rules })) in
    visit_asked (choice_visits operand taken c.arm_taken-arm.ensures refl) (refl, refl)

pub visit_conditional-returns : goal.visit_conditional-returns
visit_conditional-returns t c =
    let operand = choice_visited (c.decreases, c.requires) a_conditional c.entry.ensures c.first_in-n.ensures c.pair_of.ensures c.visit-condition.ensures in
    let taken = number_taken _ c.opened-state.ensures.0 c.in-Ok.is c.in-Number.is (to_z-of_z w32 _ (record { sfits = search rules })) in
    visit_returned (choice_visits operand taken c.arm_taken-arm.ensures refl) (refl, refl) c.visit.ensures

-- A case meets its contract: the scrutinee is visited, and then the clause.
pub visit_case-entry-requires : goal.visit_case-entry-requires
visit_case-entry-requires t c = node_room c.requires

pub visit_case-visit-scrutinee-requires : goal.visit_case-visit-scrutinee-requires
visit_case-visit-scrutinee-requires t c =
    operand_asked (choice_awaits {cells = c.args.cells.now} (c.decreases, c.requires) a_case c.entry.ensures c.first_in-n.ensures) c.pair_of.ensures

pub visit_case-returns-in_default : goal.visit_case-returns-in_default
visit_case-returns-in_default t c =
    let operand = choice_visited (c.decreases, c.requires) a_case c.entry.ensures c.first_in-n.ensures c.pair_of.ensures c.visit-scrutinee.ensures in
    choice_ends operand refl (case_misses (ended_constructor _ c.opened-state.ensures.0 c.in_default.is)) refl

pub visit_case-returns-in_default-value : goal.visit_case-returns-in_default-value
visit_case-returns-in_default-value t c =
    let operand = choice_visited (c.decreases, c.requires) a_case c.entry.ensures c.first_in-n.ensures c.pair_of.ensures c.visit-scrutinee.ensures in
    choice_ends operand refl (case_misses (no_constructor _ c.opened-state.ensures.0 c.in-Ok.is _ c.packed.ensures c.in_default-value.is c.ended.ensures)) refl

pub visit_case-clause_chosen-requires : goal.visit_case-clause_chosen-requires
visit_case-clause_chosen-requires t c =
    let operand = choice_visited (c.decreases, c.requires) a_case c.entry.ensures c.first_in-n.ensures c.pair_of.ensures c.visit-scrutinee.ensures in
    choice_known operand (constructor_taken _ c.opened-state.ensures.0 c.in-Ok.is c.in-Constructor.is)

pub visit_case-visit-requires : goal.visit_case-visit-requires
visit_case-visit-requires t c =
    let operand = choice_visited (c.decreases, c.requires) a_case c.entry.ensures c.first_in-n.ensures c.pair_of.ensures c.visit-scrutinee.ensures in
    let taken = constructor_taken _ c.opened-state.ensures.0 c.in-Ok.is c.in-Constructor.is in
    visit_asked (choice_visits operand taken c.clause_chosen.ensures c.in-Ok-clause_chosen.is) (refl, refl)

pub visit_case-returns-in-Ok-clause_chosen : goal.visit_case-returns-in-Ok-clause_chosen
visit_case-returns-in-Ok-clause_chosen t c =
    let operand = choice_visited (c.decreases, c.requires) a_case c.entry.ensures c.first_in-n.ensures c.pair_of.ensures c.visit-scrutinee.ensures in
    let taken = constructor_taken _ c.opened-state.ensures.0 c.in-Ok.is c.in-Constructor.is in
    visit_returned (choice_visits operand taken c.clause_chosen.ensures c.in-Ok-clause_chosen.is) (refl, refl) c.visit.ensures

pub visit_case-returns-in-Err : goal.visit_case-returns-in-Err
visit_case-returns-in-Err t c =
    let operand = choice_visited (c.decreases, c.requires) a_case c.entry.ensures c.first_in-n.ensures c.pair_of.ensures c.visit-scrutinee.ensures in
    choice_ends operand (constructor_taken _ c.opened-state.ensures.0 c.in-Ok.is c.in-Constructor.is) c.clause_chosen.ensures c.in-Err.is
