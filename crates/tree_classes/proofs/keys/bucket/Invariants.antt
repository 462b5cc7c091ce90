-- `tree_classes::keys::bucket` meets its contract. The loop's invariant: the bucket by the fields so far.
use mathlib.Core.Path.{◌≡◌}
use Prim.Native.Nat.{◌≤◌, ◌<◌}
use Rattle.tree_classes.specs.Keys.{entry_of, bucket_after, buckets}
use Rattle.tree_classes.proofs.keys.bucket.Given as goal

abbrev pub invariant-loop-j : goal.invariant-loop-j
invariant-loop-j l = (l.j ≤ l.count) × (l.h ≡ bucket_after (entry_of l.classes) l.rec l.place l.j) × (l.h < buckets)
