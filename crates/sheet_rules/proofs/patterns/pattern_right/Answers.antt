-- `sheet_rules::patterns::pattern_right` meets its contract: the position is below the arity of the clause's constructor.
use mathlib.Core.Path.{refl}
use borrow.Author.Rules.{rules}
use Rattle.sheet_rules.proofs.PatternSteps.{entry_in_table, constructor_there, pattern_other, pattern_outside, pattern_held}
use Rattle.sheet_rules.proofs.SheetTables.{opened_constructor}
use Rattle.sheet_rules.proofs.patterns.pattern_right.Goals as goal

pub returns-then-kind-ne-PATTERN_VARIABLE : goal.returns-then-kind-ne-PATTERN_VARIABLE
returns-then-kind-ne-PATTERN_VARIABLE c = search pattern_other

pub bounds-held-k : goal.bounds-held-k
bounds-held-k c = search entry_in_table

pub returns-then-h-lt1 : goal.returns-then-h-lt1
returns-then-h-lt1 c = search (rules, pattern_outside)

pub returns : goal.returns
returns c =
    let pre = c.requires in
    let some = c.if-h-lt1.false in
    pattern_held pre.0 pre.1 pre.2 pre.3 c.first_node.ensures.0 c.indexed-rec.ensures c.kind.ensures c.if-kind-ne-PATTERN_VARIABLE.false refl some c.field.ensures
    (opened_constructor _ _ _ 0 pre.0 (constructor_there pre.0 pre.1 pre.2 pre.3 _ refl some) c.arity.ensures)
