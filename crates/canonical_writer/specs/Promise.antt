-- What writing the canonical form promises (document 02, request 13): the answer, and the output at exit.
use Rattle.std.specs.Prelude.{◌≡◌, ℕ, List, length}
use Rattle.definitions.specs.Output.{output_of}
use Rattle.definitions.specs.CanonicalSheet.{canonical, canonical_refusal, canonical_answer}
use Rattle.definitions.specs.Written.{Written}

pub record WritesCanonical (sheet out : List ℕ) (r : Written) (out' : List ℕ) : Type 0 where
  pub answer : r ≡ canonical_answer sheet (length out)
  pub output : out' ≡ output_of (canonical_refusal sheet (length out)) (canonical sheet) out
