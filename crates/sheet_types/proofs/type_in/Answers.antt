-- `sheet_types::type_in` meets its contract.
use Rattle.sheet_types.proofs.TypeSteps.{type_inside, type_past}
use Rattle.sheet_types.proofs.type_in.Goals as goal

pub returns-then-c-lt-MOST_NODES : goal.returns-then-c-lt-MOST_NODES
returns-then-c-lt-MOST_NODES c = search type_inside

pub returns-else-c-lt-MOST_NODES : goal.returns-else-c-lt-MOST_NODES
returns-else-c-lt-MOST_NODES c = search type_past
