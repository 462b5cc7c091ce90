-- What a caller in C reads of a search: which of the three it was, and the value.
use mathlib.Core.Path.{◌≡◌, refl, sym, ap, ◌∙◌}
use Prim.Native.Nat.{ℕ}
use mathlib.Core.Bool.{true, true≢false}
use native.Mathlib.Omega.{arith}
use lib.IntN.{ℤ}
use mir.Syntax.{w32}
use mir.Val.{to_z, SFits}
use Rattle.definitions.specs.Numbers.{is_number, no_value, is_refusal}
use Rattle.definitions.specs.Ranges.{within}
use Rattle.definitions.specs.Operators.{residue, reduced}
use Rattle.definitions.specs.Outcomes.{number_outcome, end_outcome}
use Rattle.definitions.specs.ReadingSearch.{Query, searched_outcome}
use Rattle.definitions.specs.Searched.{Searched, Found, NoValue}
use Rattle.operators.proofs.Residues.{residue_below, reduced_held}
use Rattle.reading_search.proofs.Levels.{between_size}
use Rattle.zifnora_c.specs.Codes.{code_number, code_value}
use Rattle.zifnora_c.specs.Answers.{searched_code}
use Rattle.demands.specs.FoundReadings as FoundReadings
use Rattle.demands.specs.FoundReadings.{SearchMet, SearchMetInC, InRange, SignedRange}
use Rattle.demands.proofs.Recorded.{number_of_code, value_of_code}
use Rattle.demands.proofs.HandingInC.{refusal_not_zero}

number_is : (s : Searched) → code_number (searched_code s) ≡ (searched_outcome s).outcome
unfolding searched_code
number_is s = number_of_code (searched_outcome s).outcome (residue w32 (searched_outcome s).value)

no_refusal : (n : ℕ) → is_refusal n ≡ true → ¬ (n ≡ no_value)
unfolding is_refusal within
no_refusal n k e = true≢false (sym k ∙ rw e refl)

-- the value found, and its bits in the code
pub record Told (s : Searched) (code : ℕ) : Type 0 where
  pub value : ℤ
  pub is : s ≡ Found value
  pub bits : code_value code ≡ residue w32 value

module _ {s : Searched} {code : ℕ} (told : code ≡ searched_code s) where
  number_told : {t : Searched} → s ≡ t → code_number code ≡ (searched_outcome t).outcome
  number_told e = ap code_number told ∙ number_is s ∙ rw e refl

  pub met_told : {untouched : Type 0} → SearchMet s untouched → SearchMetInC code untouched
  unfolding searched_outcome number_outcome end_outcome
  met_told (FoundReadings.SearchMet.finds z e) = FoundReadings.SearchMetInC.finds (number_told e)
  met_told (FoundReadings.SearchMet.finds_none e) = FoundReadings.SearchMetInC.finds_none (number_told e)
  met_told (FoundReadings.SearchMet.refuses n p e k u) = FoundReadings.SearchMetInC.refuses (rw (number_told e) k) u

  pub none_told : {untouched : Type 0} → SearchMet s untouched → code_number code ≡ no_value → s ≡ NoValue
  unfolding searched_outcome number_outcome end_outcome
  none_told (FoundReadings.SearchMet.finds z e) h = absurd (omega (arith, h, number_told e))
  none_told (FoundReadings.SearchMet.finds_none e) h = e
  none_told (FoundReadings.SearchMet.refuses n p e k u) h = absurd (no_refusal n k (sym (number_told e) ∙ h))

  pub found_told : {untouched : Type 0} → SearchMet s untouched → code_number code ≡ 0 → Told s code
  unfolding searched_outcome number_outcome end_outcome searched_code
  found_told (FoundReadings.SearchMet.finds z e) h =
      record { value = z; is = e; bits = ap code_value (told ∙ rw e refl) ∙ value_of_code is_number (residue w32 z) (residue_below w32 z) }
  found_told (FoundReadings.SearchMet.finds_none e) h = absurd (omega (arith, h, number_told e))
  found_told (FoundReadings.SearchMet.refuses n p e k u) h = absurd (refusal_not_zero n k (sym (number_told e) ∙ h))

-- a value of a range of signed numbers is read back
pub value_told : {s : Searched} {code : ℕ} (t : Told s code) (q : Query) → SignedRange q → InRange q t.value → to_z w32 (code_value code) ≡ t.value
unfolding reduced
value_told t q signed range =
    let fits : SFits w32 t.value = record { sfits = between_size 2147483648 _ t.value _ signed.lowest.sfits signed.highest.sfits range.from range.to } in
    ap (to_z w32) t.bits ∙ reduced_held w32 t.value fits
