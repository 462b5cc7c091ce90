-- How the call that writes the driver's view is met: the six bytes, 3 or 8; and the records that it accepts.
use mathlib.Core.Path.{◌≡◌, refl, ap, ◌∙◌}
use Prim.Native.Nat.{ℕ, ◌≤◌, ◌<◌}
use mathlib.Core.List.{List}
use mathlib.Core.Bool.{Bool, true, false, ◌&&◌, and-eq-true_iff}
use native.Mathlib.Omega.{arith}
use lib.IntN.{ℤ}
use lib.ListN.{length, take, drop}
use lib.Seq.{take-append_seam, drop-append_seam}
use lib.Dec.{eqb}
use borrow.Author.Tests.{eq-eqb, eqb-true, le-leb, lt-leb}
use Rattle.definitions.specs.Bytes.{word, word_bytes, words32, bytes_of}
use Rattle.definitions.specs.Sizes.{answer_size, view_size}
use Rattle.definitions.specs.Numbers.{bad_record, short_output, is_answer}
use Rattle.definitions.specs.Verdicts.{◌and_then◌, require}
use Rattle.definitions.specs.Output.{written_of, output_of}
use Rattle.definitions.specs.Run as Run
use Rattle.definitions.specs.Run.{answer_after, rule_answer}
use Rattle.definitions.specs.AnswerRecord.{answer_kind, answer_words, answer_bytes}
use Rattle.definitions.specs.DriverView.{view_bytes, is_answer_record, view_verdict}
use Rattle.definitions.specs.Verdict.{Verdict}
use Rattle.definitions.specs.Verdict as verdicts
use Rattle.definitions.specs.Verdict.{Accepted}
use Rattle.definitions.specs.Written.{Written, Length, Refused}
use Rattle.laws.proofs.ByteFiles.{Bytes}
use Rattle.answer.proofs.Records.{answer_length}
use Rattle.driver_view.specs.Promise.{WritesView}
use Rattle.driver_view.proofs.Views.{view_length}
use Rattle.zifnora_c.specs.Codes.{code_of, code_number}
use Rattle.zifnora_c.specs.Promise.{WritesViewC}
use Rattle.demands.specs.InC.{SignedReadings}
use Rattle.demands.specs.DriverView.{RecordLent, Shown, Recordable, ViewMet, ViewMetInC}
use Rattle.demands.proofs.Refusals.{NumberedIn, viewing_numbered}
use Rattle.demands.proofs.Meeting.{writing_met, after_met}
use Rattle.demands.proofs.Values.{after_fits}
use Rattle.demands.proofs.Handing.{not_refused_by}
use Rattle.demands.proofs.HandingInC.{not_refused_in_C, writing_met_in_C}
use Rattle.demands.proofs.RunningInC.{met_limit}

-- the output at exit, by the verdict
module _ (b out out' : List ℕ) (output : out' ≡ output_of (view_verdict b (length out)) (view_bytes b) out) where
  shown_where : view_verdict b (length out) ≡ Accepted → Shown b out out'
  unfolding output_of
  shown_where e = record { is = output ∙ rw (e, view_length b) refl }

  left_where : (n p : ℕ) → view_verdict b (length out) ≡ verdicts.Refused n p → out' ≡ out
  unfolding output_of
  left_where n p e = output ∙ rw e refl

  numbered : NumberedIn (view_verdict b (length out))
  numbered = viewing_numbered b (length out)

  met : {r : Written} → r ≡ written_of (view_verdict b (length out)) view_size → ViewMet b out r out'
  met a = writing_met (view_verdict b (length out)) numbered a shown_where left_where

  met_in_C : {c : ℕ} → c ≡ code_of (view_verdict b (length out)) view_size → ViewMetInC b out c out'
  met_in_C a = writing_met_in_C (view_verdict b (length out)) numbered a (λ e. omega arith) shown_where left_where

pub view_met : {b out : List ℕ} {r : Written} {out' : List ℕ} → WritesView b out r out' → ViewMet b out r out'
view_met {b} {out} {out' = out'} t = met b out out' t.output t.answer

pub view_met_in_C : {b out : List ℕ} {c : ℕ} {out' : List ℕ} → WritesViewC b out c out' → ViewMetInC b out c out'
view_met_in_C {b} {out} {out' = out'} t = met_in_C b out out' t.output t.answer

pub shown_by : {b out : List ℕ} {n : ℕ} {out' : List ℕ} → WritesView b out (Length n) out' → Shown b out out'
shown_by {b} {out} {out' = out'} t = shown_where b out out' t.output (not_refused_by _ _ t.answer)

pub shown_in_C : {b out : List ℕ} {c : ℕ} {out' : List ℕ} → WritesViewC b out c out' → code_number c ≡ 0 → Shown b out out'
shown_in_C {b} {out} {out' = out'} t z = shown_where b out out' t.output (not_refused_in_C _ _ (viewing_numbered b (length out)) t.answer z)

-- the six bytes, and those past them
module _ {b out out' : List ℕ} (s : Shown b out out') where
  pub view_taken : take view_size out' ≡ view_bytes b
  view_taken = ap (take view_size) s.is ∙ (rw (view_length b) at (take-append_seam (view_bytes b) (drop view_size out)))

  pub rest_kept : drop view_size out' ≡ drop view_size out
  rest_kept = ap (drop view_size) s.is ∙ (rw (view_length b) at (drop-append_seam (view_bytes b) (drop view_size out)))

-- lent bytes that are a record, and others
lent_by : (b : List ℕ) → is_answer_record b ≡ true → RecordLent b
unfolding is_answer_record
lent_by b e =
    let tests = (and-eq-true_iff (eqb (length b) answer_size && eqb (word b 0) answer_size) (eqb (word b 2) answer_kind)).0 e in
    let lengths = (and-eq-true_iff (eqb (length b) answer_size) (eqb (word b 0) answer_size)).0 tests.0 in
    record {
      size = eqb-true (length b) answer_size lengths.0;
      length_field = eqb-true (word b 0) answer_size lengths.1;
      kind_field = eqb-true (word b 2) answer_kind tests.1;
    }

record_by : (b : List ℕ) → RecordLent b → is_answer_record b ≡ true
unfolding is_answer_record
record_by b l = rw (eq-eqb (length b) answer_size l.size, eq-eqb (word b 0) answer_size l.length_field, eq-eqb (word b 2) answer_kind l.kind_field) refl

not_record : (b : List ℕ) → ¬ RecordLent b → is_answer_record b ≡ false
not_record b h = from (is_answer_record b) refl
  where
    from : (t : Bool) → is_answer_record b ≡ t → t ≡ false
    from true e = absurd (h (lent_by b e))
    from false e = refl

module _ {b out : List ℕ} {r : Written} {out' : List ℕ} (t : WritesView b out r out') where
  refused_at : {n p : ℕ} → view_verdict b (length out) ≡ verdicts.Refused n p → (r ≡ Refused n p) × (out' ≡ out)
  unfolding written_of
  refused_at {n} {p} e = (t.answer ∙ rw e refl, left_where b out out' t.output n p e)

  pub no_record_refused : ¬ RecordLent b → (r ≡ Refused bad_record 0) × (out' ≡ out)
  unfolding view_verdict require ◌and_then◌
  no_record_refused h = refused_at (rw (not_record b h) refl)

  pub short_refused : RecordLent b → length out < view_size → (r ≡ Refused short_output 0) × (out' ≡ out)
  unfolding view_verdict require ◌and_then◌
  short_refused l h = refused_at (rw (record_by b l, lt-leb view_size (length out) h) refl)

  pub record_shown : RecordLent b → view_size ≤ length out → (r ≡ Length view_size) × Shown b out out'
  unfolding view_verdict require ◌and_then◌ written_of
  record_shown l h =
      let e : view_verdict b (length out) ≡ Accepted = rw (record_by b l, le-leb view_size (length out) h) refl in
      (t.answer ∙ rw e refl, shown_where b out out' t.output e)

-- the records of answers
pub answer_lent : (a : Run.Answer) → RecordLent (answer_bytes a)
unfolding answer_bytes answer_words bytes_of word_bytes words32 word
answer_lent a = record { size = answer_length a; length_field = refl; kind_field = refl }

-- the answer of a run after a verdict is held by its record
module _ (b : List ℕ) (rs : List ℤ) (bytes : Bytes b) (signed : SignedReadings rs) (steps nesting cells_allowed : ℕ) where
  pub run_recordable : (v : Verdict) → NumberedIn v → (a : Run.Answer) → a ≡ answer_after v (rule_answer b rs steps nesting cells_allowed) → Recordable a
  unfolding is_answer
  run_recordable v k a e =
      let limit = met_limit (after_met b rs steps nesting cells_allowed (Unit {0}) v k (λ n p f. tt)) in
      rw e (record {
        outcome = omega (arith, limit);
        number = λ n. after_fits b rs bytes signed steps nesting cells_allowed v k (rw n refl);
      })
