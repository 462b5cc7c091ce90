-- How the promise comes about: the reader's refusal, an output that is too short, or the canonical form written.
use mathlib.Core.Path.{◌≡◌, refl, sym, ◌∙◌}
use Prim.Native.Nat.{ℕ, ◌+◌, ◌*◌, ◌≤◌}
use mathlib.Core.List.{List}
use native.Mathlib.Omega.{arith}
use native.Mathlib.Nat.{zero-add}
use lib.ListN.{length, take, length-append}
use lib.Seq.{sets, sets-eq}
use lib.Dec.{leb}
use borrow.Author.Tests.{leb-true}
use Rattle.std.specs.Prelude.{Result}
use Rattle.std.specs.Result.{IsErrAnd}
use Rattle.std.proofs.lemmas.Result.{err_from_is_err_and}
use Rattle.definitions.specs.Refusals.{number_of, as_written}
use Rattle.definitions.specs.declared.refusals.Refusal.{Refusal}
use Rattle.definitions.specs.Sizes.{translation_bytes}
use Rattle.definitions.specs.Bytes.{bytes_of}
use Rattle.definitions.specs.Records.{start_of}
use Rattle.definitions.specs.Layouts.{first_node}
use Rattle.definitions.specs.Numbers.{short_output}
use Rattle.definitions.specs.Verdicts.{◌and_then◌, require}
use Rattle.definitions.specs.Output.{written_of, output_of}
use Rattle.definitions.specs.Checks.{sheet_verdict}
use Rattle.definitions.specs.CanonicalSheet.{bodies, tree_words, sections, canonical, canonical_refusal, canonical_answer}
use Rattle.definitions.specs.declared.Layout.TheVariants.{Sheet}
use Rattle.definitions.specs.Verdict.{Verdict, Accepted, Refused}
use Rattle.definitions.specs.Written as answers
use Rattle.laws.proofs.Verdicts.{required}
use Rattle.laws.proofs.Stores.{sets_append}
use Rattle.laws.proofs.Words.{bytes_length}
use Rattle.accepted.proofs.Head.{nodes_least}
use Rattle.accepted.proofs.Records.{within_limit}
use Rattle.accepted.proofs.Checks.{sheet_shape}
use Rattle.file_records.specs.Index.{start_in}
use Rattle.file_records.proofs.Indices.{start_inside}
use Rattle.format.specs.Readers.{ReadSheet}
use Rattle.tree_classes.specs.Classes.{AcceptedSheet, EndedSheet}
use Rattle.translation_words.specs.Writing.{WroteWords}
use Rattle.canonical_sheets.proofs.ReadBack.{sections_length}
use Rattle.canonical_sheets.proofs.Lengths.{length_kept}
use Rattle.canonical_writer.specs.Promise.{WritesCanonical}
use Rattle.canonical_writer.specs.Writing.{WroteCanonical}

-- what the reader accepts
pub reader_accepts : {b starts ends owners : List ℕ} → ReadSheet b Accepted starts ends owners → EndedSheet b starts ends
reader_accepts {b} w =
    let a = sym w.verdict in
    record { sheet = record { accepted = a; file = record { accepted = sheet_shape b a; index = w.index refl } }; runs = w.runs refl }

-- a refusal that is passed on, the reader's or 8
pub refused_output : {b out : List ℕ} (r : Result ℕ Refusal) (e : Refusal) → IsErrAnd r (λ d. d ≡ e) → Refused (number_of e.reason) e.place ≡ canonical_refusal b (length out)
    → WritesCanonical b out (as_written r) out
unfolding canonical_answer written_of output_of
refused_output r e h f = let p = err_from_is_err_and r h in record { answer = rw (p.1, p.2, ← f) refl; output = rw (← f) refl }

module _ (b : List ℕ) (room : ℕ) where
  pub reader_refuses : {n p : ℕ} → Refused n p ≡ sheet_verdict b → Refused n p ≡ canonical_refusal b room
  unfolding canonical_refusal ◌and_then◌
  reader_refuses e = rw (← e) refl

  -- an accepted sheet has the length of its canonical form
  pub room_decides : {v : Verdict} → sheet_verdict b ≡ Accepted → v ≡ require (leb (length b) room) short_output 0 → v ≡ canonical_refusal b room
  unfolding canonical_refusal ◌and_then◌
  room_decides accepted e = rw (accepted, length_kept b accepted) e

pub output_written : {b out : List ℕ} (accepted : sheet_verdict b ≡ Accepted) → Accepted ≡ require (leb (length b) (length out)) short_output 0 → {n : ℕ} {o : List ℕ}
    → WroteCanonical b out n o → WritesCanonical b out (answers.Length n) o
unfolding canonical_answer written_of output_of
output_written {b} {out} accepted f w =
    let l = leb-true (length b) (length out) (required _ short_output 0 (sym f)) in
    let k : 0 + length (canonical b) ≤ length out = omega (arith, l, length_kept b accepted) in
    let r = room_decides b (length out) accepted f in
    record { answer = rw (← r, w.all) refl; output = rw (← r) (w.output ∙ sets-eq (canonical b) out 0 k ∙ rw zero-add refl) }

-- the sections, then the nodes
module _ {b starts : List ℕ} (p : AcceptedSheet b starts) {first end : ℕ} (e : first ≡ first_node b) (f : end ≡ start_in starts first) where
  abbrev accepted : sheet_verdict b ≡ Accepted
  accepted = p.accepted

  end_is : end ≡ start_of b (first_node b)
  end_is =
      let i = p.file.index in
      let l = nodes_least Sheet b (sheet_shape b accepted) in
      f
      ∙ rw e (sym (start_inside starts (first_node b) _ (omega (arith, i.room, l)) refl))
      ∙ i.entry (first_node b) (omega (arith, l))

  parts : end + 2 * length (tree_words 0 (bodies b)) ≡ length (canonical b)
  unfolding canonical
  parts =
      omega (
        arith,
        end_is,
        sections_length b accepted,
        length-append (sections b) (bytes_of (tree_words 0 (bodies b))),
        bytes_length (tree_words 0 (bodies b)),
      )

  pub sections_within : end ≤ length b
  sections_within = omega (arith, parts, length_kept b accepted)

  -- they are copied over the front of an output
  pub canonical_written : {out o : List ℕ} {n : ℕ} {o' : List ℕ} → o ≡ sets out 0 (take end b) → WroteWords o end (tree_words 0 (bodies b)) n o'
      → WroteCanonical b out n o'
  unfolding canonical sections
  canonical_written {out} g w =
      let fits : end + 2 * length (tree_words 0 (bodies b)) ≤ translation_bytes
      = omega (arith, parts, length_kept b accepted, within_limit Sheet b (sheet_shape b accepted)) in
      let front : 0 + length (take (start_of b (first_node b)) b) ≡ end = omega (arith, end_is, sections_length b accepted) in
      record {
        all = w.place fits ∙ parts;
        output = w.output fits ∙ rw (g, end_is) (rw (front ∙ end_is) at (sets_append (take (start_of b (first_node b)) b) (bytes_of (tree_words 0 (bodies b))) out 0));
      }
