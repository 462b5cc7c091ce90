-- `file_layout::layout::section_kind` meets its contract, layout by layout and section by section.
use Rattle.laws.proofs.Shape.{section_constructor, section_sheet_function, section_function, section_formal}
use mathlib.Core.Path.{◌∙◌}
use Rattle.file_layout.proofs.layout.section_kind.Goals as goal

pub returns-then-r-from : goal.returns-then-r-from
returns-then-r-from c =
    section_constructor _ _ _ _ _ c.in-Sheet.is (c.from.ensures ∙ c.items.ensures) c.if-r-from.true c.constructor_kind.ensures

pub returns-else-r-from : goal.returns-else-r-from
returns-else-r-from c =
    section_sheet_function _ _ _ _ _ c.in-Sheet.is (c.from.ensures ∙ c.items.ensures) c.if-r-from.false c.function_kind.ensures

pub returns-then-r-from-2 : goal.returns-then-r-from-2
returns-then-r-from-2 c =
    section_function _ _ _ _ c.in-Translation.is (c.from-in-Translation.ensures ∙ c.functions.ensures) c.if-r-from-2.true

pub returns-else-r-from-2 : goal.returns-else-r-from-2
returns-else-r-from-2 c =
    section_formal _ _ _ _ c.in-Translation.is (c.from-in-Translation.ensures ∙ c.functions.ensures) c.if-r-from-2.false
