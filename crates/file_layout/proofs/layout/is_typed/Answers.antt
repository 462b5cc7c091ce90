-- `file_layout::layout::is_typed` meets its contract.
use Rattle.laws.proofs.Shape.{typed_constructor_first, typed_function_first}
use mathlib.Core.Path.{◌∙◌}
use borrow.Author.Tests.{eq-eqb}
use Rattle.file_layout.proofs.layout.is_typed.Goals as goal

pub returns-then-k-eq-TYPED_CONSTRUCTOR : goal.returns-then-k-eq-TYPED_CONSTRUCTOR
returns-then-k-eq-TYPED_CONSTRUCTOR c =
    let same = c.if-k-eq-TYPED_CONSTRUCTOR.true in
    eq-eqb _ _ same ∙ typed_constructor_first _ c.word-k.ensures same

pub returns-else-k-eq-TYPED_CONSTRUCTOR : goal.returns-else-k-eq-TYPED_CONSTRUCTOR
returns-else-k-eq-TYPED_CONSTRUCTOR c = search typed_function_first
