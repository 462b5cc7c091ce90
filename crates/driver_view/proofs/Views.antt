-- Laws of the driver's view: whether lent bytes are a record, the refusals in their order, and the bytes that are written.
use mathlib.Core.Path.{◌≡◌, refl, sym, ◌∙◌}
use Prim.Native.Nat.{ℕ, ◌≤◌}
use mathlib.Core.List.{List, ◌∷◌}
use mathlib.Core.Bool.{Bool, true, false, cond, ◌&&◌}
use lib.ListN.{length}
use lib.Seq.{sets}
use lib.Dec.{leb, eqb}
use borrow.Author.Tests.{eq-eqb, ne_eqb, leb-true}
use mir.Syntax.{w32}
use mir.Val.{Fits}
use Rattle.definitions.specs.Bytes.{word, word32, signed, word_bytes, words32, bytes_of}
use Rattle.definitions.specs.Sizes.{answer_size, view_size}
use Rattle.definitions.specs.Numbers.{bad_record, short_output, is_number}
use Rattle.definitions.specs.Verdicts.{require}
use Rattle.definitions.specs.Operators.{residue}
use Rattle.definitions.specs.Output.{written_of, output_of}
use Rattle.definitions.specs.AnswerRecord.{answer_kind, recorded}
use Rattle.definitions.specs.DriverView.{number_view, empty_view, view_words, view_bytes, is_answer_record, view_verdict}
use Rattle.definitions.specs.Verdict.{Verdict, Accepted, Refused}
use Rattle.definitions.specs.Written as written
use Rattle.laws.proofs.Stores.{over_front}
use Rattle.answer.proofs.Refusals.{first_of_two}
use Rattle.laws.proofs.Verdicts.{both_accepted, required}
use Rattle.operators.proofs.Residues.{residue_read}
use Rattle.std.specs.Prelude.{Result}
use Rattle.std.specs.Result.{IsErrAnd, result_and}
use Rattle.std.proofs.lemmas.Result.{err_from_is_err_and}
use Rattle.definitions.specs.Refusals.{number_of, as_verdict, as_written}
use Rattle.definitions.specs.declared.refusals.Refusal.{Refusal}
use Rattle.driver_view.specs.Promise.{WritesView}

-- whether lent bytes are a record, by their length and length field, and then by their kind
abbrev pub sized : List ℕ → Bool
sized b = eqb (length b) answer_size && eqb (word b 0) answer_size

module _ (b : List ℕ) {t : Bool} where
  pub both_lengths : {x : ℕ} → length b ≡ answer_size → x ≡ word b 0 → t ≡ eqb x answer_size → t ≡ sized b
  both_lengths h e f = rw (f, e, eq-eqb (length b) answer_size h) refl

  pub other_size : (length b ≡ answer_size → ⊥) → t ≡ eqb (length b) answer_size → t ≡ sized b
  other_size h f = rw (f, ne_eqb (length b) answer_size h) refl

  pub no_record_by_length : t ≡ sized b → t ≡ false → t ≡ is_answer_record b
  unfolding is_answer_record
  no_record_by_length e h = rw (← e, h) refl

  pub record_by_kind : {y : ℕ} → t ≡ sized b → t ≡ true → y ≡ word b 2 → eqb y answer_kind ≡ is_answer_record b
  unfolding is_answer_record
  record_by_kind e h f = rw (← e, h, f) refl

-- the two tests in their order
pub checked : (b : List ℕ) (room : ℕ) {t : Bool} {T : Type 0} (v w : Result T Refusal) {r : Result T Refusal} → t ≡ is_answer_record b → as_verdict v ≡ require t bad_record 0
    → as_verdict w ≡ require (leb view_size room) short_output 0 → r ≡ result_and v w → as_verdict r ≡ view_verdict b room
unfolding view_verdict
checked b room v w e f g h = rw (h, first_of_two v w, f, g, e) refl

-- what is written
module _ (b l : List ℕ) {r : List ℕ} {outcome value : ℕ} (e : outcome ≡ word b 4) (f : value ≡ word32 b 6) where
  pub number_shown : Fits w32 value → outcome ≡ is_number → r ≡ sets l 0 (bytes_of (number_view ∷ words32 value)) → r ≡ sets l 0 (view_bytes b)
  unfolding view_bytes view_words recorded signed
  number_shown held h w = w ∙ rw (← e, h, ← f, residue_read w32 value held) refl

  pub nothing_shown : (outcome ≡ is_number → ⊥) → r ≡ sets l 0 (bytes_of (empty_view ∷ words32 0)) → r ≡ sets l 0 (view_bytes b)
  unfolding view_bytes view_words recorded
  nothing_shown h w = w ∙ rw (← e, ne_eqb outcome is_number h) refl

words_length : (t : Bool) (n : ℕ) → length (bytes_of (cond t (number_view ∷ words32 n) (empty_view ∷ words32 0))) ≡ view_size
unfolding bytes_of word_bytes words32
words_length true n = refl
words_length false n = refl

pub view_length : (b : List ℕ) → length (view_bytes b) ≡ view_size
unfolding view_bytes view_words
view_length b = words_length (eqb (recorded b).outcome is_number) (residue w32 (recorded b).value)

-- the promise where the call is refused, and where the view is written
module _ {b out : List ℕ} where
  pub refused : (r : Result ℕ Refusal) (e : Refusal) → IsErrAnd r (λ d. d ≡ e) → Refused (number_of e.reason) e.place ≡ view_verdict b (length out)
      → WritesView b out (as_written r) out
  unfolding written_of output_of
  refused r e h k = let p = err_from_is_err_and r h in rw (p.1, p.2) (record { answer = rw (← k) refl; output = rw (← k) refl })

  pub view_written : {v : Verdict} {out' : List ℕ} → v ≡ view_verdict b (length out) → v ≡ Accepted → out' ≡ sets out 0 (view_bytes b)
      → WritesView b out (written.Length view_size) out'
  unfolding view_verdict written_of output_of
  view_written is e w =
      let k = sym is ∙ e in
      let roomy : view_size ≤ length out = leb-true view_size (length out) (required _ short_output 0 (both_accepted _ _ k).1) in
      record { answer = rw k refl; output = w ∙ over_front (view_bytes b) out view_size (view_length b) roomy ∙ rw (k, view_length b) refl }
