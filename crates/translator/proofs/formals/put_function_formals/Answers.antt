-- `translator::formals::put_function_formals` meets its contract. The loop's invariant: the formals of the positions passed are written.
use mathlib.Core.Path.{◌∙◌}
use native.Mathlib.Omega.{arith}
use Rattle.definitions.specs.Translate.{formal_words}
use Rattle.definitions.specs.declared.Layout.TheVariants.{Sheet}
use Rattle.accepted.proofs.Head.{functions_limit}
use Rattle.sheet_rules.proofs.SheetTables.{opened_parameters}
use Rattle.translation_words.proofs.Writing.{parts_begin, parts_go_on, parts_end}
use Rattle.translator.proofs.formals.put_function_formals.Goals as goal

pub loop-i-init : goal.loop-i-init
loop-i-init c = parts_begin

pub put_formal-next-requires : goal.put_formal-next-requires
put_formal-next-requires c =
    let pre = c.requires in
    record {
      tables = pre.0;
      below = pre.1;
      narrow = omega (arith, pre.1, functions_limit Sheet _ pre.0.file.accepted);
      position = omega (arith, c.loop-i-test.true, c.from-positions.ensures, c.parameters.type_inv);
    }

pub loop-i-preserved : goal.loop-i-preserved
loop-i-preserved c =
    parts_go_on c.loop-i.invariant c.loop-i-test.true c.put_formal-next.ensures

pub returns : goal.returns
unfolding formal_words
returns c =
    let inv = c.loop-i.invariant in
    let pre = c.requires in
    let positions = c.from-positions.ensures ∙ opened_parameters _ _ _ _ pre.0.file pre.1 c.parameters.ensures in
    parts_end inv c.loop-i-test.false positions
