-- `tree_classes::places::class_scrutinees` meets its contract. The loop's invariant: the functions passed have their scrutinees' classes in the table.
use Prim.Native.Nat.{◌≤◌}
use Rattle.tree_classes.specs.Keys.{entry_of}
use Rattle.tree_classes.specs.Places.{ScrutineeClasses}
use Rattle.tree_classes.proofs.places.class_scrutinees.Given as goal

abbrev pub invariant-loop-f : goal.invariant-loop-f
invariant-loop-f l = (l.f ≤ l.count) × ScrutineeClasses l.b (entry_of l.classes) l.scrutinees l.f
