-- `run::formal_places::set_places` meets its contract: the places of the formals passed are set.
use Rattle.run.proofs.Places.{SettingPlaces}
use Rattle.run.proofs.formal_places.set_places.Given as goal

abbrev pub invariant-loop-j : goal.invariant-loop-j
invariant-loop-j l = SettingPlaces l.initial.places l.f l.count l.first l.places l.j
