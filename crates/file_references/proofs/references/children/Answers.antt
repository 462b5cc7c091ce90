-- `file_references::references::children` meets its contract.
use Rattle.laws.proofs.References.{children_counted}
use Rattle.file_references.proofs.references.children.Goals as goal

pub returns : goal.returns
returns c = search children_counted
