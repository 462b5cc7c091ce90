-- Writing a sheet in canonical form: how the call is met, what it hands over, and what that is.
use mathlib.Core.Path.{◌≡◌, refl, sym, ap, ◌∙◌}
use mathlib.Core.Logic.{◌↔◌}
use Prim.Native.Nat.{ℕ, ◌<◌}
use mathlib.Core.List.{List}
use native.Mathlib.Omega.{arith}
use lib.ListN.{length, take}
use lib.Dec.{leb}
use Rattle.definitions.specs.Numbers.{short_output}
use Rattle.definitions.specs.Verdicts.{◌and_then◌, require}
use Rattle.definitions.specs.Output.{written_of, output_of}
use Rattle.definitions.specs.Checks.{sheet_verdict}
use Rattle.definitions.specs.CanonicalSheet.{bodies, sections, canonical, canonical_refusal, canonical_answer}
use Rattle.definitions.specs.declared.Layout.TheVariants.{Sheet}
use Rattle.definitions.specs.Verdict.{Verdict, Accepted, Refused}
use Rattle.definitions.specs.Written.{Written}
use Rattle.definitions.specs.Written as written
use Rattle.laws.proofs.Verdicts.{both_accepted}
use Rattle.laws.proofs.ByteFiles.{Bytes}
use Rattle.accepted.proofs.Records.{within_limit}
use Rattle.accepted.proofs.Checks.{sheet_shape}
use Rattle.canonical_sheets.proofs.ReadBack.{same_bytes, sections_read, bodies_read, twice}
use Rattle.canonical_sheets.proofs.Accepted.{canonical_accepted}
use Rattle.canonical_sheets.proofs.Lengths.{length_kept}
use Rattle.canonical_writer.specs.Promise.{WritesCanonical}
use Rattle.zifnora_c.specs.Codes as Codes
use Rattle.zifnora_c.specs.Codes.{code_of, code_number, code_value}
use Rattle.zifnora_c.specs.Promise.{WritesCanonicalC}
use Rattle.demands.specs.CanonicalSheets.{SameSheets, HandedCanonical, CanonicalMet, CanonicalMetInC}
use Rattle.demands.proofs.Refusals.{canonical_numbered}
use Rattle.demands.proofs.Meeting.{writing_met}
use Rattle.demands.proofs.Handing.{not_refused_by, written_there}
use Rattle.demands.proofs.Recorded.{value_of_code}
use Rattle.demands.proofs.HandingInC.{not_refused_in_C, writing_met_in_C}

-- the refusal and the answer by the sheet's length, which is that of its canonical form
module _ (sheet : List ℕ) (room : ℕ) where
  refusal_by : (v : Verdict) (x y : ℕ) → (v ≡ Accepted → x ≡ y) → (v and_then require (leb x room) short_output 0) ≡ (v and_then require (leb y room) short_output 0)
  unfolding ◌and_then◌
  refusal_by Accepted x y e = rw (e refl) refl
  refusal_by (Refused n p) x y e = refl

  pub refusal_by_length : canonical_refusal sheet room ≡ (sheet_verdict sheet and_then require (leb (length sheet) room) short_output 0)
  unfolding canonical_refusal
  refusal_by_length = refusal_by (sheet_verdict sheet) (length (canonical sheet)) (length sheet) (length_kept sheet)

  pub sheet_accepted_law : canonical_refusal sheet room ≡ Accepted → sheet_verdict sheet ≡ Accepted
  unfolding canonical_refusal
  sheet_accepted_law e = (both_accepted _ _ e).0

  written_by : (v : Verdict) (x y : ℕ) → (v ≡ Accepted → x ≡ y) → written_of v x ≡ written_of v y
  unfolding written_of
  written_by Accepted x y e = rw (e refl) refl
  written_by (Refused n p) x y e = refl

  pub answer_by_length : canonical_answer sheet room ≡ written_of (sheet_verdict sheet and_then require (leb (length sheet) room) short_output 0) (length sheet)
  unfolding canonical_answer
  answer_by_length =
      written_by (canonical_refusal sheet room) (length (canonical sheet)) (length sheet) (λ e. length_kept sheet (sheet_accepted_law e))
      ∙ ap (λ (v : Verdict). written_of v (length sheet)) refusal_by_length

-- what was written where nothing is refused
pub handed_written : (sheet out : List ℕ) (n : ℕ) (out' : List ℕ) → canonical_refusal sheet (length out) ≡ Accepted → n ≡ length sheet
    → out' ≡ output_of (canonical_refusal sheet (length out)) (canonical sheet) out → HandedCanonical sheet n out'
handed_written sheet out n out' e m w =
    let a = sheet_accepted_law sheet (length out) e in
    record { accepted = a; is = written_there _ (canonical sheet) out n out' e (m ∙ sym (length_kept sheet a)) w }

module _ (sheet out : List ℕ) (n : ℕ) (out' : List ℕ) (writes : WritesCanonical sheet out (written.Length n) out') where
  not_refused : canonical_refusal sheet (length out) ≡ Accepted
  unfolding canonical_answer
  not_refused = not_refused_by (canonical_refusal sheet (length out)) (length (canonical sheet)) writes.answer

  pub length_is : n ≡ length sheet
  unfolding canonical_answer written_of
  length_is =
      let s : ◌≡◌ {A = Written} (written.Length n) (written.Length (length (canonical sheet))) = writes.answer ∙ rw not_refused refl in
      let l : n ≡ length (canonical sheet) = cc s in
      l ∙ length_kept sheet (sheet_accepted_law sheet (length out) not_refused)

  pub handed_canonical : HandedCanonical sheet n out'
  handed_canonical = handed_written sheet out n out' not_refused length_is writes.output

pub canonical_met : (sheet out : List ℕ) (r : Written) (out' : List ℕ) → WritesCanonical sheet out r out' → CanonicalMet sheet out r out'
unfolding output_of
canonical_met sheet out r out' w =
    let e = refusal_by_length sheet (length out) in
    writing_met (canonical_refusal sheet (length out)) (canonical_numbered sheet (length out)) (w.answer ∙ answer_by_length sheet (length out) ∙ rw (← e) refl)
    (λ a. handed_written sheet out (length sheet) out' a refl w.output) (λ m p f. w.output ∙ rw f refl)

-- the same for a caller in C: a code has room for a sheet's length
module _ (sheet out : List ℕ) (code : ℕ) (out' : List ℕ) (writes : WritesCanonicalC sheet out code out') where
  sheet_small : canonical_refusal sheet (length out) ≡ Accepted → length sheet < 4294967296
  sheet_small e = omega (arith, within_limit Sheet sheet (sheet_shape sheet (sheet_accepted_law sheet (length out) e)))

  coded : code ≡ code_of (canonical_refusal sheet (length out)) (length sheet)
  unfolding code_of
  coded = writes.answer ∙ code_by (canonical_refusal sheet (length out)) (λ e. length_kept sheet (sheet_accepted_law sheet (length out) e))
    where
      code_by : (v : Verdict) → (v ≡ Accepted → length (canonical sheet) ≡ length sheet) → code_of v (length (canonical sheet)) ≡ code_of v (length sheet)
      code_by Accepted e = rw (e refl) refl
      code_by (Refused n p) e = refl

  value_is : canonical_refusal sheet (length out) ≡ Accepted → code_value code ≡ length sheet
  unfolding code_of
  value_is e =
      let is : code ≡ Codes.code 0 (length sheet) = coded ∙ rw e refl in
      rw is (value_of_code 0 (length sheet) (sheet_small e))

  handed_there : canonical_refusal sheet (length out) ≡ Accepted → HandedCanonical sheet (code_value code) out'
  handed_there e = handed_written sheet out (code_value code) out' e (value_is e) writes.output

  pub canonical_met_in_C : CanonicalMetInC sheet out code out'
  unfolding output_of
  canonical_met_in_C = writing_met_in_C _ (canonical_numbered sheet (length out)) coded sheet_small handed_there (λ n p e. writes.output ∙ rw e refl)

  module _ (written : code_number code ≡ 0) where
    not_refused_coded : canonical_refusal sheet (length out) ≡ Accepted
    not_refused_coded = not_refused_in_C _ _ (canonical_numbered sheet (length out)) writes.answer written

    pub value_length : code_value code ≡ length sheet
    value_length = value_is not_refused_coded

    pub handed_canonical_in_C : HandedCanonical sheet (code_value code) out'
    handed_canonical_in_C = handed_there not_refused_coded

-- what was handed over is an accepted sheet with the sheet's sections, and it is its own canonical form
module _ {sheet : List ℕ} {n : ℕ} {out' : List ℕ} (h : HandedCanonical sheet n out') where
  pub form_sections : sections (take n out') ≡ sections sheet
  form_sections = rw h.is (sections_read sheet h.accepted)

  module _ (bytes : Bytes sheet) where
    pub form_accepted : sheet_verdict (take n out') ≡ Accepted
    form_accepted = rw h.is (canonical_accepted sheet bytes h.accepted)

    pub form_again : {m : ℕ} {again' : List ℕ} → HandedCanonical (take n out') m again' → take m again' ≡ take n out'
    form_again k = k.is ∙ rw h.is (twice sheet h.accepted bytes)

-- equal canonical forms, exactly if the sheets are the same
pub forms_exactly : {a b : List ℕ} {n m : ℕ} {out₁ out₂ : List ℕ} → HandedCanonical a n out₁ → HandedCanonical b m out₂ → Bytes a → Bytes b
    → (take n out₁ ≡ take m out₂) ↔ SameSheets a b
forms_exactly {a} {b} h k p q =
    rw (h.is, k.is) (
      (λ e. record {
        sections = sym (sections_read a h.accepted) ∙ ap sections e ∙ sections_read b k.accepted;
        bodies = sym (bodies_read a h.accepted p) ∙ ap bodies e ∙ bodies_read b k.accepted q;
      }),
      (λ e. same_bytes a b e.sections e.bodies),
    )
