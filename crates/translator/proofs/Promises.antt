-- How the promise comes about: the reader's refusal, an output that is too short, or the translation written.
use mathlib.Core.Path.{◌≡◌, refl, sym, ap, ◌∙◌}
use Prim.Native.Nat.{ℕ, ◌+◌, ◌*◌, ◌≤◌}
use mathlib.Core.List.{List}
use mathlib.Core.Bool.{Bool, true}
use native.Mathlib.Omega.{arith}
use native.Mathlib.Nat.{zero-add}
use lib.ListN.{length}
use lib.Seq.{sets-eq}
use lib.Dec.{leb}
use borrow.Author.Tests.{le-leb, leb-true}
use Rattle.std.specs.Prelude.{Result}
use Rattle.std.specs.Result.{IsErrAnd}
use Rattle.definitions.specs.Refusals.{number_of, as_written}
use Rattle.definitions.specs.declared.refusals.Refusal.{Refusal}
use Rattle.definitions.specs.Output.{written_of, output_of}
use Rattle.definitions.specs.Sizes.{translation_bytes}
use Rattle.definitions.specs.Numbers.{short_output}
use Rattle.definitions.specs.Verdicts.{require}
use Rattle.definitions.specs.Checks.{sheet_verdict}
use Rattle.definitions.specs.Trees.{equal_trees}
use Rattle.definitions.specs.Translate.{translation_words, translation_by, translation, translation_refusal, translation_answer}
use Rattle.definitions.specs.Verdict.{Accepted, Refused}
use Rattle.laws.proofs.Verdicts.{required}
use Rattle.readback.proofs.Size.{translation_length, translation_limit}
use Rattle.translation_length.proofs.WordCounts as WordCounts
use Rattle.translator.specs.Promise.{Translates}
use Rattle.translation_words.specs.Writing.{WroteWords}
use Rattle.definitions.specs.Written as answers

-- a refusal that is passed on, the reader's or 8
pub refused_output : {b out : List ℕ} (r : Result ℕ Refusal) (e : Refusal) → IsErrAnd r (λ d. d ≡ e) → Refused (number_of e.reason) e.place ≡ translation_refusal b (length out)
    → Translates b out (as_written r) out
unfolding translation_answer output_of
refused_output r e h f = record { answer = WordCounts.refused_answer _ r e h f; output = rw (← f) refl }

-- a length that is counted
pub counted_fits : {n m : ℕ} (room : ℕ) → n ≡ m → leb n room ≡ leb m room
counted_fits room e = ap (λ (n : ℕ). leb n room) e

-- an accepted sheet: the length that the writer answers, and the output that it leaves
module _ (b : List ℕ) (accepted : sheet_verdict b ≡ Accepted) where
  counted : 0 + 2 * length (translation_words (equal_trees b) b) ≤ translation_bytes
  counted = omega (arith, translation_limit (equal_trees b) b accepted, translation_length (equal_trees b) b accepted)

  length_answered : (o : List ℕ) (n : ℕ) (p : List ℕ) → WroteWords o 0 (translation_words (equal_trees b) b) n p → n ≡ length (translation b)
  unfolding translation
  length_answered o n p v = omega (arith, v.place counted, translation_length (equal_trees b) b accepted)

  pub greatest_fits : (room : ℕ) → translation_bytes ≤ room → true ≡ leb (length (translation b)) room
  unfolding translation
  greatest_fits room h = sym (le-leb (length (translation b)) room (omega (arith, h, counted, translation_length (equal_trees b) b accepted)))

  pub output_written : {out : List ℕ} {t : Bool} {n : ℕ} {o : List ℕ} → t ≡ leb (length (translation b)) (length out) → Accepted ≡ require t short_output 0
      → WroteWords out 0 (translation_words (equal_trees b) b) n o → Translates b out (answers.Length n) o
  unfolding translation_answer written_of output_of translation translation_by
  output_written {out} {t} {n} {o} e f v =
      let r = WordCounts.room_decides b (length out) accepted (rw e at f) in
      let k : 0 + length (translation b) ≤ length out = omega (arith, leb-true (length (translation b)) (length out) (sym e ∙ required t short_output 0 (sym f))) in
      record {
        answer = rw (← r, ← length_answered out n o v) refl;
        output = rw (← r) (v.output counted ∙ sets-eq (translation b) out 0 k ∙ rw zero-add refl);
      }
