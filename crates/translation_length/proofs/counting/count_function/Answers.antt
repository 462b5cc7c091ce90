-- `translation_length::counting::count_function` meets its contract: the parameters times two and the labels.
use native.Mathlib.Omega.{arith}
use Rattle.definitions.specs.declared.Layout.TheVariants.{Sheet}
use Rattle.accepted.proofs.Head.{functions_limit}
use Rattle.translation_length.proofs.WordCounts.{formal_counted}
use Rattle.translation_length.proofs.counting.count_function.Goals as goal

pub bounds-counts-f : goal.bounds-counts-f
bounds-counts-f c =
    let pre = c.requires in
    omega (arith, pre.1, functions_limit Sheet _ pre.0.sheet.file.accepted)

pub returns : goal.returns
returns c =
    let pre = c.requires in
    formal_counted pre.0 pre.1 c.parameters.ensures c.from.ensures c.from-2.ensures
