-- `run::formal_places::fill_places` meets its contract: the places of the formals of the functions passed are right.
use Rattle.run.proofs.Places.{FillingPlaces}
use Rattle.run.proofs.formal_places.fill_places.Given as goal

abbrev pub invariant-loop-f : goal.invariant-loop-f
invariant-loop-f l = FillingPlaces l.b l.places l.count l.first l.f
