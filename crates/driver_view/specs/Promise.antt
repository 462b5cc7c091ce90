-- What the call that writes the driver's view promises (document 02, request 10): the answer, and the lent output at exit.
use Rattle.std.specs.Prelude.{◌≡◌, ℕ, List, length}
use Rattle.definitions.specs.Sizes.{view_size}
use Rattle.definitions.specs.Output.{written_of, output_of}
use Rattle.definitions.specs.DriverView.{view_bytes, view_verdict}
use Rattle.definitions.specs.Written.{Written}

pub record WritesView (b out : List ℕ) (r : Written) (out' : List ℕ) : Type 0 where
  pub answer : r ≡ written_of (view_verdict b (length out)) view_size
  pub output : out' ≡ output_of (view_verdict b (length out)) (view_bytes b) out
