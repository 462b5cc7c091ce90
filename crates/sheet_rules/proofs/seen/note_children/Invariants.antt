-- `sheet_rules::seen::note_children` meets its contract. The loop's invariant: the nodes named so far are noted.
use Rattle.sheet_rules.specs.Seen.{Noted}
use Rattle.definitions.specs.References.{children}
use mathlib.Core.Path.{◌≡◌}
use Prim.Native.Nat.{◌≤◌}
use Rattle.sheet_rules.proofs.seen.note_children.Given as goal

abbrev pub invariant-loop-j : goal.invariant-loop-j
invariant-loop-j l = (l.j ≤ l.count) × (l.count ≡ children l.rec) × Noted l.rec l.p l.j l.initial.times l.initial.parents l.times l.parents
