-- Translating for a caller in C: the code says whether the bytes were handed over, and how many.
use mathlib.Core.Path.{◌≡◌, refl, sym, ◌∙◌}
use Prim.Native.Nat.{ℕ, ◌<◌}
use mathlib.Core.List.{List}
use mathlib.Core.Bool.{true}
use native.Mathlib.Omega.{arith}
use lib.ListN.{length}
use Rattle.definitions.specs.Numbers.{is_refusal}
use Rattle.definitions.specs.Output.{output_of}
use Rattle.definitions.specs.Trees.{equal_trees}
use Rattle.definitions.specs.Translate.{translation, translation_refusal}
use Rattle.definitions.specs.Verdict.{Verdict, Accepted, Refused}
use Rattle.laws.proofs.Classes.{refusal_range}
use Rattle.laws.proofs.Verdicts.{both_accepted}
use Rattle.readback.proofs.Size.{translation_limit}
use Rattle.zifnora_c.specs.Codes.{code, code_of, code_number, code_value}
use Rattle.zifnora_c.specs.Promise.{TranslatesC}
use Rattle.demands.specs.Demands.{Handed}
use Rattle.demands.specs.InC as InC
use Rattle.demands.specs.InC.{TranslatingMetInC, WritingMetInC}
use Rattle.demands.proofs.Refusals.{NumberedIn, translating_numbered}
use Rattle.demands.proofs.Handing.{written_handed}
use Rattle.demands.proofs.Recorded.{number_of_code, value_of_code}

pub refusal_not_zero : (n : ℕ) → is_refusal n ≡ true → n ≡ 0 → ⊥
refusal_not_zero n h e = omega (arith, e, (refusal_range n h).0)

-- a call that wrote was not refused
pub not_refused_in_C : (v : Verdict) (n : ℕ) {c : ℕ} → NumberedIn v → c ≡ code_of v n → code_number c ≡ 0 → v ≡ Accepted
unfolding code_of
not_refused_in_C Accepted n k e z = refl
not_refused_in_C (Refused m p) n k e z = absurd (refusal_not_zero m k (sym (number_of_code m p) ∙ rw (← e) z))

-- a call that writes, by its verdict
pub writing_met_in_C : (v : Verdict) {n c : ℕ} {done untouched : Type 0} → NumberedIn v → c ≡ code_of v n → (v ≡ Accepted → n < 4294967296) → (v ≡ Accepted → done)
    → ((m p : ℕ) → v ≡ Refused m p → untouched) → WritingMetInC c n done untouched
unfolding code_of
writing_met_in_C Accepted {n} k e small d u = InC.WritingMetInC.writes (rw e (number_of_code 0 n)) (rw e (value_of_code 0 n (small refl))) (d refl)
writing_met_in_C (Refused m p) k e small d u = InC.WritingMetInC.refuses (rw (e, number_of_code m p) k) (u m p refl)

module _ (sheet out : List ℕ) (r : ℕ) (out' : List ℕ) (t : TranslatesC sheet out r out') where
  length_small : translation_refusal sheet (length out) ≡ Accepted → length (translation sheet) < 4294967296
  unfolding translation_refusal translation
  length_small e = omega (arith, translation_limit (equal_trees sheet) sheet (both_accepted _ _ e).0)

  translated_handed : translation_refusal sheet (length out) ≡ Accepted → Handed sheet (code_value r) out'
  unfolding code_of
  translated_handed e =
      let coded : r ≡ code 0 (length (translation sheet)) = t.answer ∙ rw e refl in
      written_handed sheet out (code_value r) out' e (rw coded (value_of_code 0 (length (translation sheet)) (length_small e))) t.output

  pub translating_met_in_C : TranslatingMetInC sheet out r out'
  unfolding output_of
  translating_met_in_C = writing_met_in_C _ (translating_numbered sheet (length out)) t.answer length_small translated_handed (λ n p e. t.output ∙ rw e refl)

  pub handed_in_C : code_number r ≡ 0 → Handed sheet (code_value r) out'
  handed_in_C z = translated_handed (not_refused_in_C _ _ (translating_numbered sheet (length out)) t.answer z)
