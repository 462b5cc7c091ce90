-- `run::formal_places::set_places` meets its contract: the places of the formals passed are set.
use Rattle.run.proofs.Places.{setting_begins, setting_room, setting_goes_on, setting_ends}
use Rattle.run.proofs.formal_places.set_places.Goals as goal

pub loop-j-init : goal.loop-j-init
loop-j-init c = setting_begins c.requires

pub bounds-places-first : goal.bounds-places-first
bounds-places-first c = setting_room c.loop-j.invariant c.loop-j-test.true c.from.ensures

pub loop-j-preserved : goal.loop-j-preserved
loop-j-preserved c = setting_goes_on c.loop-j.invariant c.loop-j-test.true c.from.ensures

pub returns : goal.returns
returns c = setting_ends c.loop-j.invariant c.loop-j-test.false
