-- `file_records::records::start` meets its contract. The loop's invariant: the place is where record i starts.
use native.Mathlib.Omega.{arith}
use Rattle.laws.proofs.Records.{start_next, start_zero}
use Rattle.definitions.specs.Records.{start_of}
use mathlib.Core.Path.{ap, ◌∙◌}
use borrow.Author.Rules.{rules}
use Rattle.file_records.proofs.records.start.Goals as goal

pub loop-i-init : goal.loop-i-init
loop-i-init c = (search rules, start_zero _)

pub loop-i-preserved : goal.loop-i-preserved
loop-i-preserved c = (search rules, c.next-at.ensures ∙ start_next _ _ _ c.loop-i.invariant.1)

pub returns : goal.returns
returns c =
    let args = c.args in
    c.loop-i.invariant.1 ∙ ap (start_of args.b.now) (omega arith)
