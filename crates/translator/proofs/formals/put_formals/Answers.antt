-- `translator::formals::put_formals` meets its contract. The loop's invariant: the formals of the functions passed are written.
use Rattle.translation_words.proofs.Writing.{parts_begin, parts_go_on}
use Rattle.translator.proofs.formals.put_formals.Goals as goal

pub loop-f-init : goal.loop-f-init
loop-f-init c = parts_begin

pub loop-f-preserved : goal.loop-f-preserved
loop-f-preserved c =
    parts_go_on c.loop-f.invariant c.loop-f-test.true c.put_function_formals-next.ensures
