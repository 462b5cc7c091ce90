-- What translating promises (document 01, "Translation" and "Order"): the answer, and the output at exit.
use Rattle.std.specs.Prelude.{◌≡◌, ℕ, List, length}
use Rattle.definitions.specs.Output.{output_of}
use Rattle.definitions.specs.Translate.{translation, translation_refusal, translation_answer}
use Rattle.definitions.specs.Written.{Written}

pub record Translates (sheet out : List ℕ) (r : Written) (out' : List ℕ) : Type 0 where
  pub answer : r ≡ translation_answer sheet (length out)
  pub output : out' ≡ output_of (translation_refusal sheet (length out)) (translation sheet) out
