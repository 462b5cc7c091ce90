-- `sheet_rules::names::arguments_match` meets its contract, kind by kind.
use mathlib.Core.Path.{◌∙◌}
use Rattle.laws.proofs.Arguments.{callee_below, constructor_below, match_result, match_call, match_build, match_other}
use Rattle.sheet_rules.proofs.SheetTables.{opened_parameters, opened_constructor}
use Rattle.sheet_rules.proofs.names.arguments_match.Goals as goal

pub returns-then-r-first_function : goal.returns-then-r-first_function
returns-then-r-first_function c = search match_result

pub returns-then-k-eq-CALL : goal.returns-then-k-eq-CALL
returns-then-k-eq-CALL c =
    let pre = c.requires in
    let kind = c.kind-k in
    let if2 = c.if-k-eq-CALL in
    let field2 = c.field-then-k-eq-CALL in
    let from = c.from in
    match_call _ _ _ _ c.first_function.ensures.0 c.if-r-first_function.false _ kind.ensures if2.true c.argument_count.ensures
    (from.ensures ∙ field2.ensures)
    (c.from-then-k-eq-CALL.ensures ∙ opened_parameters _ _ _ _ pre.0
    (callee_below _ _ _ _ _ kind.ensures (from.ensures ∙ field2.ensures) pre.1 if2.true) c.parameters.ensures)

pub returns-then-k-eq-BUILD : goal.returns-then-k-eq-BUILD
returns-then-k-eq-BUILD c =
    let pre = c.requires in
    let kind = c.kind-k in
    let if3 = c.if-k-eq-BUILD in
    let field3 = c.field-then-k-eq-BUILD in
    let from3 = c.from-then-k-eq-BUILD in
    match_build _ _ _ _ c.first_function.ensures.0 c.if-r-first_function.false _ kind.ensures if3.true c.argument_count-then-k-eq-BUILD.ensures
    (from3.ensures ∙ field3.ensures)
    (c.from-then-k-eq-BUILD-2.ensures ∙ opened_constructor _ _ _ 0 pre.0
    (constructor_below _ _ _ _ _ kind.ensures (from3.ensures ∙ field3.ensures) pre.1 if3.true) c.arity.ensures)

pub returns : goal.returns
returns c = search match_other
