-- Laws of a hirer's run: its refusals in their order, and the owner's run.
use mathlib.Core.Path.{◌≡◌, refl, sym, ◌∙◌}
use Prim.Native.Nat.{ℕ}
use native.Mathlib.Omega.{arith}
use mathlib.Core.List.{List}
use lib.IntN.{ℤ}
use lib.ListN.{length}
use lib.Dec.{eqb}
use Rattle.std.specs.Prelude.{Result}
use Rattle.std.specs.Result.{result_and}
use Rattle.definitions.specs.Numbers.{bad_readings}
use Rattle.definitions.specs.Verdicts.{◌and_then◌, require}
use Rattle.definitions.specs.Layouts.{readings}
use Rattle.definitions.specs.Checks.{translation_verdict}
use Rattle.definitions.specs.Run.{refusal, run_verdict, answer_after, bytes_after}
use Rattle.definitions.specs.Hirer.{closed_verdict, hirer_verdict, hirer_answer, hirer_cells}
use Rattle.definitions.specs.Verdict.{Verdict, Accepted, Refused}
use Rattle.definitions.specs.Refusals.{as_verdict}
use Rattle.definitions.specs.declared.refusals.Refusal.{Refusal}
use Rattle.answer.proofs.Refusals.{first_of_two}
use Rattle.laws.proofs.Verdicts.{then_accepted, then_refused, both_accepted}
use Rattle.answer.specs.declared.Answer.{Answer}
use Rattle.answer.specs.Answers.{answer_of}
use Rattle.run.specs.Promise.{Runs}
use Rattle.run.specs.NodeTable.{FileRead, Readable}
use Rattle.run.proofs.Answering.{refused_by}
use Rattle.hirer.specs.Checks.{ReadForHirer}
use Rattle.hirer.specs.Promise.{RunsForHirer}

module _ {b : List ℕ} {set : ℕ} {rs : List ℤ} {steps nesting cells_allowed : ℕ} {before : List ℕ} {r : Answer} where
  -- refused before 9, or the owner's run
  closed_run : {n p : ℕ} → hirer_verdict b set ≡ Refused n p → answer_of r ≡ refusal n p → RunsForHirer b set rs steps nesting cells_allowed before r before
  unfolding hirer_answer hirer_cells answer_after bytes_after
  closed_run v e = record { answer = e ∙ rw v refl; cells = rw v refl; owners = λ a. absurd (let z : ◌≡◌ {A = ℕ} 0 1 = cc in omega arith) }

  owners_run : {after : List ℕ} → hirer_verdict b set ≡ Accepted → Runs b rs steps nesting cells_allowed before r after
      → RunsForHirer b set rs steps nesting cells_allowed before r after
  unfolding hirer_answer hirer_cells answer_after bytes_after
  owners_run v t = record { answer = rw v t.answer; cells = rw v t.cells; owners = λ a. t }

  module _ {v : Verdict} {tab : List ℕ} (t : ReadForHirer b set rs v tab) where
    pub refused_in_order : {n p : ℕ} → v ≡ Refused n p → answer_of r ≡ refusal n p → RunsForHirer b set rs steps nesting cells_allowed before r before
    unfolding hirer_verdict run_verdict ◌and_then◌
    refused_in_order {n} {p} g f = from (hirer_verdict b set) refl
      where
        counted : Verdict
        counted = require (eqb (length rs) (readings b)) bad_readings 0

        from : (y : Verdict) → hirer_verdict b set ≡ y → RunsForHirer b set rs steps nesting cells_allowed before r before
        from (Refused m q) e = closed_run (e ∙ sym (then_refused (hirer_verdict b set) counted m q e) ∙ sym t.verdict ∙ g) f
        from Accepted e =
            let h : counted ≡ Refused n p = sym (then_accepted (hirer_verdict b set) counted e) ∙ sym t.verdict ∙ g in
            let accepted = (both_accepted (translation_verdict b) (closed_verdict b set) e).0 in
            owners_run e (refused_by b rs steps nesting cells_allowed before r n p (rw (accepted, h) refl) f)

    pub ran : {after : List ℕ} → v ≡ Accepted → Runs b rs steps nesting cells_allowed before r after → RunsForHirer b set rs steps nesting cells_allowed before r after
    ran g = owners_run (both_accepted _ _ (sym t.verdict ∙ g)).0

-- what a translation read for a hirer is refused for, in order
module _ {b : List ℕ} (set : ℕ) (rs : List ℤ) {v : Verdict} {tab : List ℕ} where
  never : {n p : ℕ} → v ≡ Refused n p → v ≡ Accepted → Readable b tab
  never e a = absurd (let z = sym e ∙ a in cc)

  pub file_refused : {n p : ℕ} → v ≡ Refused n p → FileRead b (Refused n p) tab → ReadForHirer b set rs v tab
  unfolding hirer_verdict ◌and_then◌
  file_refused e t = record { verdict = e ∙ rw (← t.verdict) refl; readable = never e }

pub readings_checked : {b : List ℕ} (set : ℕ) (rs : List ℤ) {tab : List ℕ} → Readable b tab → {width : ℕ} → width ≡ readings b
    → {T : Type 0} (o w : Result T Refusal) {r : Result T Refusal} → as_verdict o ≡ closed_verdict b set
    → as_verdict w ≡ require (eqb (length rs) width) bad_readings 0 → r ≡ result_and o w → ReadForHirer b set rs (as_verdict r) tab
unfolding hirer_verdict ◌and_then◌
readings_checked set rs t ew o w f g e = record { verdict = rw (e, first_of_two o w, f, g, ew, t.accepted) refl; readable = λ a. t }
