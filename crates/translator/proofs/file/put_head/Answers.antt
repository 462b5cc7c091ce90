-- `translator::file::put_head` meets its contract: the start of the record, then the four counts.
use mathlib.Core.Path.{◌∙◌}
use native.Mathlib.Omega.{arith}
use Rattle.definitions.specs.declared.Layout.TheVariants.{Sheet}
use Rattle.accepted.proofs.Head.{functions_limit}
use Rattle.translator.proofs.FormalSteps.{wrote_head, formals_read}
use Rattle.translator.proofs.file.put_head.Goals as goal

pub bounds-formals-count : goal.bounds-formals-count
bounds-formals-count c =
    let pre = c.requires in
    omega (arith, functions_limit Sheet _ pre.0, c.from-count.ensures, c.functions.ensures)

pub returns : goal.returns
returns c =
    let pre = c.requires in
    let count = c.from-count.ensures ∙ c.functions.ensures in
    let readings = c.from.ensures ∙ c.readings.ensures in
    let formals = formals_read _ pre.1 count c.from-2.ensures in
    let nodes = c.from-3.ensures ∙ c.nodes.ensures in
    wrote_head _ c.put_start-first.ensures c.put-second.ensures c.put-third.ensures
    c.put-fourth.ensures c.put.ensures readings formals count nodes
