-- `file_kinds::allows` meets its contract: the comparisons of a row, or a kind past the table.
use Rattle.laws.proofs.KindRows.{past_table}
use Rattle.file_kinds.proofs.KindTable.{length_outside, length_by_four, length_by_two}
use native.Mathlib.Omega.{arith}
use mathlib.Core.List.{[]}
use Rattle.file_kinds.proofs.allows.Goals as goal

pub returns-in_default : goal.returns-in_default
returns-in_default c = let h = c.in_default.ensures.lookup in past_table _ _ (omega arith)

pub returns-then-length-least : goal.returns-then-length-least
returns-then-length-least c = let h = c.in-Some.ensures.lookup in length_outside c.requires c.from.ensures (omega arith) (h.3.1 []) c.then-length-least.either

pub returns-then-step-eq4 : goal.returns-then-step-eq4
returns-then-step-eq4 c =
    let h = c.in-Some.ensures.lookup in
    length_by_four c.requires c.from.ensures (omega arith) (h.3.1 []) (omega arith) (omega arith) c.if-step-eq4.true

pub returns : goal.returns
returns c =
    let h = c.in-Some.ensures.lookup in
    length_by_two c.requires c.from.ensures (omega arith) (h.3.1 []) (omega arith) (omega arith) c.if-step-eq4.false
