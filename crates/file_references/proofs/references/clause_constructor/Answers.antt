-- `file_references::references::clause_constructor` meets its contract; past the record's end 0.
use Rattle.laws.proofs.References.{constructor_past, constructor_field}
use Rattle.file_references.proofs.references.clause_constructor.Goals as goal

pub returns-then-rec-j : goal.returns-then-rec-j
returns-then-rec-j c = search constructor_past

pub returns-else-rec-j : goal.returns-else-rec-j
returns-else-rec-j c = search constructor_field
