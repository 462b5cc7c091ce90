-- `sheet_types::pattern_type` meets its contract: the type is that of the field, by the clause's constructor.
use borrow.Author.Rules.{rules}
use mathlib.Core.Path.{refl}
use Rattle.sheet_types.proofs.TypeSteps.{node_in_table, pattern_outside, pattern_inside}
use Rattle.sheet_types.proofs.pattern_type.Goals as goal

pub bounds-held-k : goal.bounds-held-k
bounds-held-k c = search node_in_table

pub returns-then-h-lt1 : goal.returns-then-h-lt1
returns-then-h-lt1 c = search (rules, pattern_outside)

pub returns : goal.returns
returns c =
    let pre = c.requires in
    pattern_inside pre.0 pre.1 refl _ c.if-h-lt1.false (rw c.from.ensures at c.constructor_field.ensures)
