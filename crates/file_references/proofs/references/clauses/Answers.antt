-- `file_references::references::clauses` meets its contract.
use Rattle.laws.proofs.References.{clauses_counted}
use Rattle.file_references.proofs.references.clauses.Goals as goal

pub returns : goal.returns
returns c = search clauses_counted
