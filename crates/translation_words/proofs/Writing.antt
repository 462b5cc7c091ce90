-- Laws of writing: nothing, one after the other, one turn more of a loop, one word, and a record.
use mathlib.Core.Path.{◌≡◌, refl, sym, ap, ◌∙◌}
use Prim.Native.Nat.{ℕ, zero, suc, ◌+◌, ◌*◌, ◌%◌, ◌/◌, ◌≤◌, ◌<◌}
use mathlib.Core.List.{List, [], ◌∷◌, ◌++◌}
use native.Mathlib.Omega.{arith}
use native.Mathlib.Numerals.{add-one}
use lib.ListN.{length, set, length-append, length-set}
use lib.Seq.{sets}
use Rattle.laws.proofs.Stores.{sets_append}
use Rattle.definitions.specs.Sizes.{translation_bytes}
use Rattle.definitions.specs.Bytes.{bytes_of, word_bytes}
use Rattle.definitions.specs.Records.{kind_of, field, field_count}
use Rattle.definitions.specs.Lists.{joined, listed}
use Rattle.definitions.specs.Translate.{record_words}
use Rattle.laws.proofs.Lists.{listed_length}
use Rattle.laws.proofs.Words.{bytes_length, bytes_append}
use Rattle.translation_words.specs.Writing.{WroteWords, field_words}

pub wrote_nothing : (out : List ℕ) (at : ℕ) → WroteWords out at [] at out
unfolding bytes_of
wrote_nothing out at = record { place = λ h. omega arith; output = λ h. refl; kept = refl }

pub wrote_as : {out : List ℕ} {at : ℕ} {ws vs : List ℕ} {n : ℕ} {o : List ℕ} → ws ≡ vs → WroteWords out at ws n o → WroteWords out at vs n o
wrote_as e w = rw e at w

-- one after the other
module _ {out : List ℕ} {at : ℕ} {ws : List ℕ} {n : ℕ} {o vs : List ℕ} {m : ℕ} {p : List ℕ} (w : WroteWords out at ws n o) (v : WroteWords o n vs m p) where
  both_length : at + 2 * length (ws ++ vs) ≡ at + 2 * length ws + 2 * length vs
  both_length = omega (arith, length-append ws vs)

  between : at + 2 * length (ws ++ vs) ≤ translation_bytes → n ≡ at + 2 * length ws
  between h = w.place (omega (arith, both_length, h))

  goes_on : at + 2 * length (ws ++ vs) ≤ translation_bytes → n + 2 * length vs ≤ translation_bytes
  goes_on h = omega (arith, both_length, h, between h)

  both_set : at + 2 * length (ws ++ vs) ≤ translation_bytes → p ≡ sets out at (bytes_of (ws ++ vs))
  both_set h =
      let e : at + 2 * length ws ≡ at + length (bytes_of ws) = omega (arith, bytes_length ws) in
      v.output (goes_on h)
      ∙ rw (between h, w.output (omega (arith, both_length, h)), e, bytes_append ws vs) (sets_append (bytes_of ws) (bytes_of vs) out at)

  pub wrote_then : WroteWords out at (ws ++ vs) m p
  wrote_then =
      record {
        place = λ h. omega (arith, v.place (goes_on h), between h, both_length);
        output = both_set;
        kept = v.kept ∙ w.kept;
      }

-- before turn i of a loop over n parts: those before i are written
pub record PartsWritten (out : List ℕ) (at : ℕ) (part : ℕ → List ℕ) (n i next : ℕ) (o : List ℕ) : Type 0 where
  pub reached : i ≤ n
  pub wrote : WroteWords out at (joined i part) next o

pub parts_begin : {out : List ℕ} {at : ℕ} {part : ℕ → List ℕ} {n : ℕ} → PartsWritten out at part n 0 at out
unfolding joined
parts_begin {out} {at} = record { reached = omega arith; wrote = wrote_nothing out at }

module _ {out : List ℕ} {at : ℕ} {part : ℕ → List ℕ} {n i next : ℕ} {o : List ℕ} (w : PartsWritten out at part n i next o) where
  pub parts_go_on : {m : ℕ} {p : List ℕ} → i < n → WroteWords o next (part i) m p → PartsWritten out at part n (i + 1) m p
  unfolding joined
  parts_go_on h v = record { reached = omega arith; wrote = rw add-one (wrote_then w.wrote v) }

  pub parts_end : {m : ℕ} → n ≤ i → n ≡ m → WroteWords out at (joined m part) next o
  parts_end {m} h e = let q : i ≡ m = omega (arith, e, h, w.reached) in rw q at w.wrote

-- one word
pub wrote_word : {out : List ℕ} {at w : ℕ} {o p : List ℕ} → o ≡ set out at (w % 256) → p ≡ set o (at + 1) (w / 256 % 256) → WroteWords out at (w ∷ []) (at + 2) p
unfolding bytes_of word_bytes
wrote_word {out} {at} e f =
    let g : at + 1 ≡ suc at = add-one at in
    record { place = λ h. omega arith; output = λ h. f ∙ rw (e, g) refl; kept = rw (f, length-set, e, length-set) refl }

pub wrote_element : {out : List ℕ} {at x y n : ℕ} {o : List ℕ} → x ≡ y → WroteWords out at (x ∷ []) n o → WroteWords out at (y ∷ []) n o
wrote_element e w = rw e at w

-- no place is counted past the last
pub wrote_past : {out : List ℕ} {at w : ℕ} → translation_bytes ≤ at → WroteWords out at (w ∷ []) at out
wrote_past h = record { place = λ k. absurd (omega arith); output = λ k. absurd (omega arith); kept = refl }

-- a record: its length and its kind, then its fields
pub wrote_record : {out : List ℕ} {at k c n : ℕ} {o fs : List ℕ} {m : ℕ} {p : List ℕ} → WroteWords out at ((4 + 2 * c) ∷ k ∷ []) n o → WroteWords o n fs m p → c ≡ length fs
    → WroteWords out at (record_words k fs) m p
unfolding record_words
wrote_record w v e = rw (← e) (wrote_then w v)

-- the fields of a record: as many as it has, and the list of them
pub fields_listed : (rec : List ℕ) → field_words rec ≡ listed (field_count rec) (field rec)
unfolding field_words joined listed
fields_listed rec = each (field_count rec)
  where
    each : (n : ℕ) → joined n (λ j. field rec j ∷ []) ≡ listed n (field rec)
    each zero = refl
    each (suc n) = rw (each n) refl

fields_length : (rec : List ℕ) → length (field_words rec) ≡ field_count rec
fields_length rec = ap length (fields_listed rec) ∙ listed_length (field_count rec) (field rec)

-- a record with the fields of another
pub wrote_copy : (rec : List ℕ) {out : List ℕ} {at x c n : ℕ} {o : List ℕ} {m : ℕ} {p : List ℕ} → WroteWords out at ((4 + 2 * c) ∷ (32 + x) ∷ []) n o
    → WroteWords o n (field_words rec) m p → x ≡ kind_of rec → c ≡ field_count rec → WroteWords out at (record_words (32 + kind_of rec) (field_words rec)) m p
wrote_copy rec w v e f = rw (← e) (wrote_record w v (f ∙ sym (fields_length rec)))
