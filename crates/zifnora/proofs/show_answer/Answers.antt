-- `zifnora::show_answer` meets its contract: the line is that of the joined call.
use mathlib.Core.Path.{refl}
use Rattle.zifnora.proofs.Showing.{answer_shown}
use borrow.Author.Rules.{rules}
use Rattle.zifnora.proofs.show_answer.Goals as goal

pub returns : goal.returns
returns c =
    let run = c.translate_and_run-answer in
    answer_shown _ _ _ run.ensures.0 c.write_line.ensures (search rules) refl (search rules)
