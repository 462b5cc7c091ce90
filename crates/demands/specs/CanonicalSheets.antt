-- What request 13 says of two sheets, and of bytes that were handed over.
use Rattle.std.specs.Prelude.{◌≡◌, ℕ, List, length, take}
use Rattle.definitions.specs.Checks.{sheet_verdict}
use Rattle.definitions.specs.CanonicalSheet.{bodies, sections, canonical}
use Rattle.definitions.specs.Verdict.{Accepted}
use Rattle.definitions.specs.Written.{Written}
use Rattle.zifnora_c.specs.Codes.{code_value}
use Rattle.demands.specs.Demands.{WritingMet}
use Rattle.demands.specs.InC.{WritingMetInC}

-- "their heads, constructors and functions are equal", byte for byte, "and their bodies are equal trees", function by function; in these trees
-- a parameter and a pattern variable count as their position
pub record SameSheets (a b : List ℕ) : Type 0 where
  pub sections : sections a ≡ sections b
  pub bodies : bodies a ≡ bodies b

-- bytes that were handed over: the sheet is accepted, and they are its canonical form
pub record HandedCanonical (sheet : List ℕ) (n : ℕ) (out' : List ℕ) : Type 0 where
  pub accepted : sheet_verdict sheet ≡ Accepted
  pub is : take n out' ≡ canonical sheet

-- the call ends with the sheet's length and the canonical form, or with a numbered refusal that leaves the output as it was
abbrev pub CanonicalMet : List ℕ → List ℕ → Written → List ℕ → Type 0
CanonicalMet sheet out r out' = WritingMet r (length sheet) (HandedCanonical sheet (length sheet) out') (out' ≡ out)

abbrev pub CanonicalMetInC : List ℕ → List ℕ → ℕ → List ℕ → Type 0
CanonicalMetInC sheet out code out' = WritingMetInC code (length sheet) (HandedCanonical sheet (code_value code) out') (out' ≡ out)
