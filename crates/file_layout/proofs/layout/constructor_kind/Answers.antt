-- `file_layout::layout::constructor_kind` meets its contract.
use Rattle.laws.proofs.Shape.{constructor_typed, constructor_untyped}
use Rattle.file_layout.proofs.layout.constructor_kind.Goals as goal

pub returns-then-is_typed : goal.returns-then-is_typed
returns-then-is_typed c = search constructor_typed

pub returns-else-is_typed : goal.returns-else-is_typed
returns-else-is_typed c = search constructor_untyped
