-- `sheet_types::type_at` meets its contract, kind by kind.
use borrow.Author.Rules.{rules}
use mathlib.Core.Path.{refl, ◌∙◌}
use Rattle.laws.proofs.Types.{parameter_by, pattern_by, conditional_by, call_by, build_by, case_by, number_by}
use Rattle.sheet_types.proofs.TypeSteps.{node_in_table, owner_field, callee_field, constructor_field}
use Rattle.sheet_types.proofs.type_at.Goals as goal

pub bounds-owners-k : goal.bounds-owners-k
bounds-owners-k c = search (rules, node_in_table)

pub returns-then-i-eq-PARAMETER : goal.returns-then-i-eq-PARAMETER
returns-then-i-eq-PARAMETER c =
    let pre = c.requires in
    parameter_by _ _ _ _ c.kind-i.ensures c.if-i-eq-PARAMETER.true
    (owner_field pre.0.node pre.0.owned c.from.ensures _ (c.function_field.ensures ∙ rw (c.from-then-i-eq-PARAMETER.ensures, c.field-x.ensures) refl))

pub returns-then-i-eq-PATTERN_VARIABLE : goal.returns-then-i-eq-PATTERN_VARIABLE
returns-then-i-eq-PATTERN_VARIABLE c =
    pattern_by _ _ _ _ c.kind-i.ensures c.if-i-eq-PATTERN_VARIABLE.true (c.pattern_type.ensures ∙ rw c.field-x.ensures refl)

pub returns-then-i-eq-CONDITIONAL : goal.returns-then-i-eq-CONDITIONAL
returns-then-i-eq-CONDITIONAL c =
    conditional_by _ _ _ _ c.kind-i.ensures c.if-i-eq-CONDITIONAL.true (c.type_in.ensures ∙ rw c.field.ensures refl)

pub returns-then-i-eq-CALL : goal.returns-then-i-eq-CALL
returns-then-i-eq-CALL c =
    let pre = c.requires in
    let kind = c.kind-i in
    let if4 = c.if-i-eq-CALL in
    call_by _ _ _ _ kind.ensures if4.true
    (callee_field pre.0.node pre.1 kind.ensures (c.from-then-i-eq-CALL.ensures ∙ c.field-x.ensures) if4.true 2 c.function_field-then-i-eq-CALL.ensures)

pub returns-then-i-eq-BUILD : goal.returns-then-i-eq-BUILD
returns-then-i-eq-BUILD c =
    let pre = c.requires in
    let kind = c.kind-i in
    let if5 = c.if-i-eq-BUILD in
    build_by _ _ _ _ kind.ensures if5.true
    (constructor_field pre.0.node pre.1 kind.ensures (c.from-then-i-eq-BUILD.ensures ∙ c.field-x.ensures) if5.true 1 c.constructor_field.ensures)

pub bounds-owners-k-then-i-eq-CASE : goal.bounds-owners-k-then-i-eq-CASE
bounds-owners-k-then-i-eq-CASE c = search (rules, node_in_table)

pub returns-then-i-eq-CASE : goal.returns-then-i-eq-CASE
returns-then-i-eq-CASE c = search (rules, case_by, owner_field)

pub returns : goal.returns
returns c = search number_by
