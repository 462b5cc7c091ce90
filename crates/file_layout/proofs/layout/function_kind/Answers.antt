-- `file_layout::layout::function_kind` meets its contract.
use Rattle.laws.proofs.Shape.{function_typed, function_untyped}
use Rattle.file_layout.proofs.layout.function_kind.Goals as goal

pub returns-then-is_typed : goal.returns-then-is_typed
returns-then-is_typed c = search function_typed

pub returns-else-is_typed : goal.returns-else-is_typed
returns-else-is_typed c = search function_untyped
