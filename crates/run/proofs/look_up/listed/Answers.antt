-- `run::look_up::listed` meets its contract.
use Rattle.run.specs.States.{found_of}
use Rattle.run.proofs.LookUps.{listed_there, listed_past}
use Rattle.run.proofs.look_up.listed.Goals as goal

pub returns-then-i-count : goal.returns-then-i-count
unfolding found_of
returns-then-i-count c =
    let if1 = c.if-i-count in
    let from = c.from in
    let from2 = c.from-then-i-count in
    listed_there _ _ _ _ _ _ _ from.ensures from2.ensures if1.true c.field_of.ensures

pub returns-else-i-count : goal.returns-else-i-count
unfolding found_of
returns-else-i-count c = listed_past _ _ _ _ c.if-i-count.false
