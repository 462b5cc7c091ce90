-- `file_references::references::child` meets its contract: the tests in the definition's order, and past the record's end 0.
use Rattle.laws.proofs.References.{child_past, child_other, child_first, child_second}
use Rattle.file_references.proofs.references.child.Goals as goal

pub returns-then-rec-j : goal.returns-then-rec-j
returns-then-rec-j c = search child_past

pub returns-then-every_other : goal.returns-then-every_other
returns-then-every_other c = search child_other

pub returns-then-from_first : goal.returns-then-from_first
returns-then-from_first c = search child_first

pub returns-else-from_first : goal.returns-else-from_first
returns-else-from_first c = search child_second
