-- The answer record, written field by field.
use mathlib.Core.Path.{◌≡◌, refl, sym, ap, ◌∙◌}
use Prim.Native.Nat.{ℕ}
use mathlib.Core.List.{List}
use lib.IntN.{ℤ}
use lib.ListN.{length}
use lib.Seq.{sets}
use lib.Dec.{leb}
use borrow.Author.Tests.{leb-true}
use mathlib.Core.Bool.{Bool, true, false}
use mir.Syntax.{w32}
use mir.Val.{to_z, of_z, SFits}
use mir.ValLaws.{to_z-of_z}
use Rattle.definitions.specs.Sizes.{answer_size}
use Rattle.definitions.specs.Numbers.{short_output}
use Rattle.definitions.specs.Bytes.{word_bytes, words32, bytes_of}
use Rattle.definitions.specs.Operators.{residue}
use Rattle.definitions.specs.Run as Run
use Rattle.definitions.specs.Run.{refusal}
use Rattle.definitions.specs.Verdicts.{require}
use Rattle.definitions.specs.AnswerRecord.{answer_kind, answer_words, answer_bytes}
use Rattle.definitions.specs.Verdict.{Verdict, Accepted, Refused}
use Rattle.answer.specs.declared.Answer.{Answer}
use Rattle.answer.specs.declared.Outcome.{Outcome}
use Rattle.answer.specs.declared.Outcome.TheVariants.{Number, Constructor, Ended}
use Rattle.answer.specs.declared.Outcome.TheVariants as Out
use Rattle.answer.specs.Answers.{outcome_of, value_of, node_of, context_of, answer_of, Writes}
use Rattle.laws.proofs.Stores.{over_front}
use Rattle.laws.proofs.Verdicts.{required}

-- the bits of a number
pub number_bits : {o : Outcome} {z : ℤ} {r : ℕ} → SFits w32 z → o ≡ Number z → r ≡ residue w32 (to_z w32 (of_z w32 z)) → r ≡ residue w32 (value_of o)
unfolding value_of
number_bits {z} f e g = g ∙ ap (residue w32) (to_z-of_z w32 z f) ∙ sym (ap (λ (u : Outcome). residue w32 (value_of u)) e)

not_met : (t : Bool) (n p : ℕ) {m q : ℕ} → require t n p ≡ Refused m q → t ≡ false
unfolding require
not_met true n p e = cc e
not_met false n p e = refl

-- a record that is not written
pub record_short : {a : Answer} {out : List ℕ} {v : Verdict} {n p : ℕ} → v ≡ require (leb answer_size (length out)) short_output 0 → v ≡ Refused n p → Writes a out out v
record_short e f = record { verdict = e; bytes = rw (not_met _ short_output 0 (sym e ∙ f)) refl }

module _ (a : Answer) (l m n o p q r s t : List ℕ) (outcome value node context : ℕ) where
  pub record_bytes_law : outcome ≡ outcome_of a.outcome → value ≡ residue w32 (value_of a.outcome) → node ≡ node_of a.outcome → context ≡ context_of a.outcome
      → m ≡ sets l 0 (word_bytes answer_size) → n ≡ sets m 2 (word_bytes answer_kind) → o ≡ sets n 4 (word_bytes outcome) → p ≡ sets o 6 (bytes_of (words32 value))
      → q ≡ sets p 10 (bytes_of (words32 a.steps)) → r ≡ sets q 14 (word_bytes node) → s ≡ sets r 16 (word_bytes context) → t ≡ sets s 18 (word_bytes a.cells)
      → t ≡ sets l 0 (answer_bytes (answer_of a))
  unfolding word_bytes words32 bytes_of answer_words answer_bytes answer_of
  record_bytes_law eo ev en ec e1 e2 e3 e4 e5 e6 e7 e8 = rw (e8, e7, e6, e5, e4, e3, e2, e1, eo, ev, en, ec) refl

pub answer_length : (a : Run.Answer) → length (answer_bytes a) ≡ answer_size
unfolding word_bytes words32 bytes_of answer_words answer_bytes
answer_length a = refl

pub record_written : (a : Answer) (l t : List ℕ) → Accepted ≡ require (leb answer_size (length l)) short_output 0
    → t ≡ sets l 0 (answer_bytes (answer_of a)) → Writes a l t Accepted
record_written a l t h e =
    let k = required (leb answer_size (length l)) short_output 0 (sym h) in
    let room = leb-true answer_size (length l) k in
    record { verdict = h; bytes = rw k (e ∙ over_front (answer_bytes (answer_of a)) l answer_size (answer_length (answer_of a)) room) }

-- the answer of a refusal
pub refusal_is : (n p : ℕ) → answer_of (record { outcome = Out.Refused n p; steps = 0; cells = 0 }) ≡ refusal n p
unfolding answer_of refusal outcome_of value_of node_of context_of
refusal_is n p = refl
