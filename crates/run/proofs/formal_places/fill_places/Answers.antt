-- `run::formal_places::fill_places` meets its contract: the places of the formals of the functions passed are right.
use Rattle.run.proofs.Places.{filling_begins, filling_below, filling_settable, filling_goes_on, places_filled}
use Rattle.run.proofs.formal_places.fill_places.Goals as goal

pub loop-f-init : goal.loop-f-init
loop-f-init c = filling_begins c.functions-count.ensures c.requires.1

pub parameter_count-n-requires : goal.parameter_count-n-requires
parameter_count-n-requires c =
    (c.requires.0, filling_below c.requires.0.accepted c.loop-f.invariant c.loop-f-test.true)

pub set_places-requires : goal.set_places-requires
set_places-requires c =
    filling_settable c.requires.0.accepted c.loop-f.invariant c.loop-f-test.true c.parameter_count-n.ensures

pub loop-f-preserved : goal.loop-f-preserved
loop-f-preserved c =
    filling_goes_on c.requires.0.accepted c.loop-f.invariant c.loop-f-test.true c.parameter_count-n.ensures
    c.from-first.ensures c.set_places.ensures

pub returns : goal.returns
returns c =
    places_filled c.requires.0.accepted c.loop-f.invariant c.loop-f-test.false
