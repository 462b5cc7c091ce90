-- `sheet_types::children_typed` meets its contract, kind by kind.
use mathlib.Core.Path.{refl, ◌∙◌}
use native.Mathlib.Omega.{arith}
use Rattle.laws.proofs.Types.{left_no_number, right_tested, condition_no_number, arms_tested, call_tested, build_tested, scrutinee_number, clauses_tested, childless}
use Rattle.sheet_types.proofs.TypeSteps.{few_arguments, callee_record, constructor_record}
use Rattle.sheet_types.proofs.children_typed.Goals as goal

pub returns-then-type_in-ne-NUMBER_TYPE : goal.returns-then-type_in-ne-NUMBER_TYPE
returns-then-type_in-ne-NUMBER_TYPE c =
    left_no_number _ _ _ c.kind-i.ensures c.if-i-eq-OPERATOR.true (c.type_in.ensures ∙ rw c.field.ensures refl) c.if-type_in-ne-NUMBER_TYPE.true

pub returns-then-i-eq-OPERATOR : goal.returns-then-i-eq-OPERATOR
returns-then-i-eq-OPERATOR c =
    right_tested _ _ _ c.kind-i.ensures c.if-i-eq-OPERATOR.true (c.type_in.ensures ∙ rw c.field.ensures refl) c.if-type_in-ne-NUMBER_TYPE.false
    (c.type_in-then-i-eq-OPERATOR.ensures ∙ rw c.field-then-i-eq-OPERATOR.ensures refl)

pub returns-then-type_in-ne-NUMBER_TYPE-2 : goal.returns-then-type_in-ne-NUMBER_TYPE-2
returns-then-type_in-ne-NUMBER_TYPE-2 c =
    condition_no_number _ _ _ c.kind-i.ensures c.if-i-eq-CONDITIONAL.true (c.type_in-then-i-eq-CONDITIONAL.ensures ∙ rw c.field-x.ensures refl) c.if-type_in-ne-NUMBER_TYPE-2.true

pub returns-then-i-eq-CONDITIONAL : goal.returns-then-i-eq-CONDITIONAL
returns-then-i-eq-CONDITIONAL c =
    arms_tested _ _ _ c.kind-i.ensures c.if-i-eq-CONDITIONAL.true (c.type_in-then-i-eq-CONDITIONAL.ensures ∙ rw c.field-x.ensures refl) c.if-type_in-ne-NUMBER_TYPE-2.false
    (c.type_in-then-i-eq-CONDITIONAL-2.ensures ∙ rw c.field-then-i-eq-CONDITIONAL.ensures refl) (c.type_in-then-i-eq-CONDITIONAL-3.ensures ∙ rw c.field-then-i-eq-CONDITIONAL-2.ensures refl)

pub arguments_typed-requires : goal.arguments_typed-requires
arguments_typed-requires c =
    let pre = c.requires in
    (omega arith, few_arguments pre.0 pre.1 c.kind-i.ensures (λ e. omega (arith, e, c.if-i-eq-CALL.true)))

pub returns-then-i-eq-CALL : goal.returns-then-i-eq-CALL
returns-then-i-eq-CALL c =
    let pre = c.requires in
    let kind = c.kind-i in
    let if5 = c.if-i-eq-CALL in
    call_tested _ _ _ kind.ensures if5.true
    (callee_record pre.0 pre.1 kind.ensures (c.from.ensures ∙ c.field-x.ensures) if5.true c.first_function.ensures.0 c.indexed-callee.ensures)
    c.arguments_typed.ensures

pub arguments_typed-requires-then-i-eq-BUILD : goal.arguments_typed-requires-then-i-eq-BUILD
arguments_typed-requires-then-i-eq-BUILD c =
    let pre = c.requires in
    (omega arith, few_arguments pre.0 pre.1 c.kind-i.ensures (λ e. omega (arith, e, c.if-i-eq-BUILD.true)))

pub returns-then-i-eq-BUILD : goal.returns-then-i-eq-BUILD
returns-then-i-eq-BUILD c =
    let pre = c.requires in
    let kind = c.kind-i in
    let if6 = c.if-i-eq-BUILD in
    build_tested _ _ _ kind.ensures if6.true
    (constructor_record pre.0 pre.1 kind.ensures (c.from-then-i-eq-BUILD.ensures ∙ c.field-x.ensures) if6.true c.first_item.ensures.0 c.indexed-constructor.ensures)
    c.arguments_typed-then-i-eq-BUILD.ensures

pub returns-then-t-lt1 : goal.returns-then-t-lt1
returns-then-t-lt1 c =
    scrutinee_number _ _ _ c.kind-i.ensures c.if-i-eq-CASE.true (c.type_in-t.ensures ∙ rw c.field-x.ensures refl) c.if-t-lt1.true

pub returns-then-i-eq-CASE : goal.returns-then-i-eq-CASE
returns-then-i-eq-CASE c =
    clauses_tested _ _ _ c.kind-i.ensures c.if-i-eq-CASE.true (c.type_in-t.ensures ∙ rw c.field-x.ensures refl) c.if-t-lt1.false c.clauses_typed.ensures

pub returns : goal.returns
returns c = search childless
