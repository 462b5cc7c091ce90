-- Where the records of a file that is written as words start, and what they are.
use mathlib.Core.Path.{◌≡◌, refl, sym, ◌∙◌}
use Prim.Native.Nat.{ℕ, zero, suc, ◌+◌, ◌*◌, ◌<◌}
use mathlib.Core.List.{List, [], ◌∷◌, ◌++◌, append_assoc, append-nil}
use mathlib.Core.Bool.{true}
use native.Mathlib.Omega.{arith}
use native.Mathlib.Nat.{add-zero, zero-add, add_assoc}
use lib.ListN.{length, length-append}
use lib.Seq.{take_at, drop_at}
use Rattle.definitions.specs.Bytes.{word, word_bytes, bytes_of}
use Rattle.definitions.specs.Records.{whole, next, start_of, record_at, record_of}
use Rattle.definitions.specs.Lists.{joined, sum_of}
use Rattle.definitions.specs.Translate.{record_words}
use Rattle.laws.proofs.Records.{is_whole, record_whole, next_whole, start_zero, start_next}
use Rattle.laws.proofs.Words.{bytes_length, bytes_append, first_word, word_behind}

-- a record has a word for its length, one for its kind and one for each field
pub words_length : (k : ℕ) (fs : List ℕ) → length (record_words k fs) ≡ 2 + length fs
unfolding record_words
words_length k fs = omega arith

-- the bytes of a record are as many as its length field says
pub record_bytes_law : (k : ℕ) (fs : List ℕ) → length (bytes_of (record_words k fs)) ≡ 4 + 2 * length fs
unfolding record_words
record_bytes_law k fs = bytes_length ((4 + 2 * length fs) ∷ k ∷ fs) ∙ omega arith

-- a length that its field holds
pub record Short (fs : List ℕ) : Type 0 where
  pub short : length fs < 32766

-- a record among other bytes
module _ (p s : List ℕ) (k : ℕ) (fs : List ℕ) (h : Short fs) where
  abbrev among : List ℕ
  among = p ++ (bytes_of (record_words k fs) ++ s)

  length_read : word among (length p) ≡ 4 + 2 * length fs
  unfolding record_words bytes_of
  length_read =
      let e : length p + 0 ≡ length p = omega arith in
      rw e at (word_behind p (bytes_of (record_words k fs) ++ s) 0)
      ∙ rw (append_assoc (word_bytes (4 + 2 * length fs)) (bytes_of (k ∷ fs)) s)
      (first_word (4 + 2 * length fs) (bytes_of (k ∷ fs) ++ s) (omega (arith, h.short)))

  pub among_whole : whole among (length p) ≡ true
  among_whole =
      is_whole among (length p)
      (record {
        least = rw length_read (omega arith);
        inside = rw (length_read, length-append p (bytes_of (record_words k fs) ++ s), length-append (bytes_of (record_words k fs)) s, record_bytes_law k fs) (omega arith);
      })

  pub among_next : next among (length p) ≡ length p + (4 + 2 * length fs)
  among_next = sym (next_whole among (length p) (4 + 2 * length fs) true (sym among_whole) refl (sym length_read))

  pub among_record : record_at among (length p) ≡ bytes_of (record_words k fs)
  among_record =
      sym (record_whole among (length p) among_whole)
      ∙ rw (length_read, drop_at p (bytes_of (record_words k fs) ++ s) (length p) refl)
      (take_at (bytes_of (record_words k fs)) s (4 + 2 * length fs) (record_bytes_law k fs))

-- words that make n records: the walk that comes to their start comes to their end n records later
pub record Made (n : ℕ) (ws : List ℕ) : Type 0 where
  pub goes : (all pre post : List ℕ) (r : ℕ) → all ≡ pre ++ ws ++ post → start_of (bytes_of all) r ≡ 2 * length pre
      → start_of (bytes_of all) (r + n) ≡ 2 * length (pre ++ ws)

pub made_nothing : Made 0 []
made_nothing = record { goes = λ all pre post r e h. rw (add-zero, append-nil) h }

-- the bytes of words with a record among them
split_bytes : (all pre post : List ℕ) (k : ℕ) (fs : List ℕ) → all ≡ pre ++ record_words k fs ++ post
    → bytes_of all ≡ bytes_of pre ++ (bytes_of (record_words k fs) ++ bytes_of post)
split_bytes all pre post k fs e =
    rw (e, append_assoc pre (record_words k fs) post, bytes_append pre (record_words k fs ++ post), bytes_append (record_words k fs) post) refl

pub made_one : (k : ℕ) (fs : List ℕ) → Short fs → Made 1 (record_words k fs)
made_one k fs h = record { goes = goes }
  where
    goes : (all pre post : List ℕ) (r : ℕ) → all ≡ pre ++ record_words k fs ++ post → start_of (bytes_of all) r ≡ 2 * length pre
        → start_of (bytes_of all) (r + 1) ≡ 2 * length (pre ++ record_words k fs)
    goes all pre post r e g =
        let q = split_bytes all pre post k fs e in
        let l = bytes_length pre in
        let n = among_next (bytes_of pre) (bytes_of post) k fs h in
        let m : start_of (bytes_of all) r ≡ length (bytes_of pre) = g ∙ sym l in
        let x : next (bytes_of all) (length (bytes_of pre)) ≡ length (bytes_of pre) + (4 + 2 * length fs) = rw q n in
        let y : length (bytes_of pre) + (4 + 2 * length fs) ≡ 2 * length (pre ++ record_words k fs) =
        omega (arith, l, length-append pre (record_words k fs), words_length k fs) in
        sym (start_next (bytes_of all) r (length (bytes_of pre)) (sym m)) ∙ x ∙ y

pub made_both : {n m : ℕ} {ws vs : List ℕ} → Made n ws → Made m vs → Made (n + m) (ws ++ vs)
made_both {n} {m} {ws} {vs} p q = record { goes = goes }
  where
    goes : (all pre post : List ℕ) (r : ℕ) → all ≡ pre ++ (ws ++ vs) ++ post → start_of (bytes_of all) r ≡ 2 * length pre
        → start_of (bytes_of all) (r + (n + m)) ≡ 2 * length (pre ++ (ws ++ vs))
    goes all pre post r e g =
        let x : pre ++ (ws ++ vs) ++ post ≡ pre ++ ws ++ (vs ++ post) = simp append_assoc in
        let y : pre ++ (ws ++ vs) ++ post ≡ pre ++ ws ++ vs ++ post = simp append_assoc in
        let s = p.goes all pre (vs ++ post) r (e ∙ x) g in
        let t = q.goes all (pre ++ ws) post (r + n) (e ∙ y) s in
        rw (← add_assoc r n m, ← append_assoc pre ws vs) t

pub made_joined : (n : ℕ) (count : ℕ → ℕ) (part : ℕ → List ℕ) → ((i : ℕ) → i < n → Made (count i) (part i))
    → Made (sum_of n count) (joined n part)
unfolding sum_of joined
made_joined zero count part f = made_nothing
made_joined (suc n) count part f =
    made_both (made_joined n count part (λ i h. f i (omega arith))) (f n (omega arith))

-- the record after n records
module _ (all pre post : List ℕ) (n k : ℕ) (fs : List ℕ) (made : Made n pre) (h : Short fs) (e : all ≡ pre ++ record_words k fs ++ post) where
  made_start : start_of (bytes_of all) n ≡ 2 * length pre
  made_start = rw zero-add at (made.goes all [] (record_words k fs ++ post) 0 (e ∙ append_assoc pre (record_words k fs) post) (sym (start_zero (bytes_of all))))

  pub made_record : record_of (bytes_of all) n ≡ bytes_of (record_words k fs)
  unfolding record_of
  made_record =
      rw (made_start, ← bytes_length pre, split_bytes all pre post k fs e) (among_record (bytes_of pre) (bytes_of post) k fs h)

-- the end of all records
pub made_end : (all : List ℕ) (n : ℕ) → Made n all → start_of (bytes_of all) n ≡ length (bytes_of all)
made_end all n made =
    rw zero-add at (made.goes all [] [] 0 (sym (append-nil all)) (sym (start_zero (bytes_of all)))) ∙ sym (bytes_length all)
