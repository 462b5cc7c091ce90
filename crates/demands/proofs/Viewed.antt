-- The driver's view tells a number, and nothing of anything else: two views are equal exactly if both are the same number or neither is a
-- number.
use mathlib.Core.Path.{◌≡◌, refl, sym, ap, ◌∙◌}
use mathlib.Core.Logic.{◌↔◌}
use Prim.Native.Nat.{ℕ}
use mathlib.Core.List.{List, [], ◌∷◌, ◌++◌, append-nil}
use mathlib.Core.Bool.{Bool, true, false}
use native.Mathlib.Omega.{arith}
use lib.IntN.{ℤ}
use lib.ListN.{take}
use lib.Dec.{eqb}
use borrow.Author.Tests.{eq-eqb, ne_eqb, eqb-true, eqb-false}
use mir.Syntax.{w32}
use mir.Val.{to_z, SFits}
use Rattle.definitions.specs.Bytes.{word, word32, signed, word_bytes, words32, bytes_of}
use Rattle.definitions.specs.Sizes.{answer_size}
use Rattle.definitions.specs.Numbers.{is_number}
use Rattle.definitions.specs.Operators.{residue, reduced}
use Rattle.definitions.specs.Outcomes.{Outcome}
use Rattle.definitions.specs.Run.{Answer}
use Rattle.definitions.specs.AnswerRecord.{answer_words, answer_bytes, recorded}
use Rattle.definitions.specs.DriverView.{number_view, view_words, view_bytes}
use Rattle.laws.proofs.Bytes.{word_part}
use Rattle.operators.proofs.Residues.{residue_below, reduced_held, read_held}
use Rattle.agreement.specs.Answers.{answer_outcome}
use Rattle.demands.specs.DriverView as Views
use Rattle.demands.specs.DriverView.{SameToDriver, ShowsNumber, Recordable}
use Rattle.demands.proofs.Recorded.{outcome_read, value_read, answer_read}

-- the bytes of a view, by whether there is a number
abbrev number_bytes : ℤ → List ℕ
number_bytes z = bytes_of (number_view ∷ words32 (residue w32 z))

abbrev empty_bytes : List ℕ
empty_bytes = 1 ∷ 0 ∷ 0 ∷ 0 ∷ 0 ∷ 0 ∷ []

number_shown : (o : Outcome) → o.outcome ≡ is_number → bytes_of (view_words o) ≡ number_bytes o.value
unfolding view_words
number_shown o e = rw (eq-eqb o.outcome is_number e) refl

pub nothing_shown : (o : Outcome) → ¬ (o.outcome ≡ is_number) → bytes_of (view_words o) ≡ empty_bytes
unfolding view_words bytes_of word_bytes words32
nothing_shown o h = rw (ne_eqb o.outcome is_number h) refl

-- a number that 32 bits hold is read back
bits_shown : (z : ℤ) (rest : List ℕ) → word32 (number_bytes z ++ rest) 2 ≡ residue w32 z
unfolding bytes_of word_bytes words32 word word32
bits_shown z rest = let h = residue_below w32 z in omega arith

number_read : (z : ℤ) (rest : List ℕ) → SFits w32 z → signed (number_bytes z ++ rest) 2 ≡ z
unfolding signed reduced
number_read z rest f = ap (to_z w32) (bits_shown z rest) ∙ reduced_held w32 z f

first_number_law : (z : ℤ) (rest : List ℕ) → word (number_bytes z ++ rest) 0 ≡ 0
unfolding bytes_of word_bytes words32 word
first_number_law z rest = refl

first_empty : (rest : List ℕ) → word (empty_bytes ++ rest) 0 ≡ 1
unfolding word
first_empty rest = refl

differ : (z : ℤ) → number_bytes z ≡ empty_bytes → ⊥
differ z e =
    let k : ◌≡◌ {A = ℕ} 0 1 = sym (first_number_law z []) ∙ ap (λ (b : List ℕ). word (b ++ []) 0) e ∙ first_empty [] in
    omega arith

-- an outcome is a number, or it is none
data Told (o : Outcome) : Type 0 where
  number : o.outcome ≡ is_number → Told o
  none : ¬ (o.outcome ≡ is_number) → Told o

told : (o : Outcome) → Told o
told o = by (eqb o.outcome is_number) refl
  where
    by : (t : Bool) → eqb o.outcome is_number ≡ t → Told o
    by true e = number (eqb-true o.outcome is_number e)
    by false e = none (eqb-false o.outcome is_number e)

-- two views
module _ (x y : Outcome) where
  view_same : SameToDriver x y → bytes_of (view_words x) ≡ bytes_of (view_words y)
  view_same (Views.SameToDriver.same_number n m v) = number_shown x n ∙ ap number_bytes v ∙ sym (number_shown y m)
  view_same (Views.SameToDriver.no_number n m) = nothing_shown x n ∙ sym (nothing_shown y m)

  module _ (held : x.outcome ≡ is_number → SFits w32 x.value) (held' : y.outcome ≡ is_number → SFits w32 y.value) where
    same_view : bytes_of (view_words x) ≡ bytes_of (view_words y) → SameToDriver x y
    same_view e = from (told x) (told y)
      where
        from : Told x → Told y → SameToDriver x y
        from (number n) (number m) =
            let same = sym (number_shown x n) ∙ e ∙ number_shown y m in
            let value = sym (number_read x.value [] (held n)) ∙ ap (λ (b : List ℕ). signed (b ++ []) 2) same ∙ number_read y.value [] (held' m) in
            Views.SameToDriver.same_number n m value
        from (number n) (none m) = absurd (differ x.value (sym (number_shown x n) ∙ e ∙ nothing_shown y m))
        from (none n) (number m) = absurd (differ y.value (sym (number_shown y m) ∙ sym e ∙ nothing_shown x n))
        from (none n) (none m) = Views.SameToDriver.no_number n m

    views_exactly : (bytes_of (view_words x) ≡ bytes_of (view_words y)) ↔ SameToDriver x y
    views_exactly = (same_view, view_same)

  -- with one outcome, and one value where it is a number's
  same_by : x.outcome ≡ y.outcome → (y.outcome ≡ is_number → x.value ≡ y.value) → SameToDriver x y
  same_by e f = from (told y)
    where
      from : Told y → SameToDriver x y
      from (number m) = Views.SameToDriver.same_number (e ∙ m) m (f m)
      from (none m) = Views.SameToDriver.no_number (λ n. m (sym e ∙ n)) m

-- what is read from four bytes is a signed 32-bit number
recorded_held : (b : List ℕ) → SFits w32 (recorded b).value
unfolding recorded signed
recorded_held b = read_held w32 (word32 b 6)

pub records_exactly : (b c : List ℕ) → (view_bytes b ≡ view_bytes c) ↔ SameToDriver (recorded b) (recorded c)
unfolding view_bytes
records_exactly b c = views_exactly (recorded b) (recorded c) (λ n. recorded_held b) (λ n. recorded_held c)

-- the view of an answer's record
answer_view : (a : Answer) → Recordable a → view_bytes (answer_bytes a) ≡ bytes_of (view_words (answer_outcome a))
unfolding view_bytes answer_outcome
answer_view a h =
    view_same (recorded (answer_bytes a)) (answer_outcome a)
    (same_by (recorded (answer_bytes a)) (answer_outcome a) (rw append-nil at (outcome_read a [] h.outcome)) (λ n. rw append-nil at (value_read a [] (h.number n))))

pub answers_exactly : (a c : Answer) → Recordable a → Recordable c → (view_bytes (answer_bytes a) ≡ view_bytes (answer_bytes c)) ↔ SameToDriver (answer_outcome a) (answer_outcome c)
unfolding answer_outcome
answers_exactly a c h k = rw (answer_view a h, answer_view c k) (views_exactly (answer_outcome a) (answer_outcome c) h.number k.number)

-- a number is read from its record as it is
pub number_recorded : (a : Answer) → Recordable a → (recorded (answer_bytes a)).outcome ≡ is_number → recorded (answer_bytes a) ≡ answer_outcome a
number_recorded a h n =
    let outcome = rw append-nil at (outcome_read a [] h.outcome) in
    rw append-nil at (answer_read a [] h.outcome (h.number (sym outcome ∙ n)))

-- and the view goes by outcome and value alone
pub answers_alike : (a c : Answer) → a.outcome ≡ c.outcome → a.value ≡ c.value → view_bytes (answer_bytes a) ≡ view_bytes (answer_bytes c)
unfolding view_bytes recorded answer_bytes answer_words bytes_of word_bytes words32 word word32 signed
answers_alike a c e f = rw (e, f) refl

-- the number that is read from a view
module _ (b rest shown : List ℕ) (is : shown ≡ view_bytes b ++ rest) where
  module _ (n : (recorded b).outcome ≡ is_number) where
    number_stands : shown ≡ number_bytes (recorded b).value ++ rest
    unfolding view_bytes
    number_stands = is ∙ ap (λ (v : List ℕ). v ++ rest) (number_shown (recorded b) n)

    reads_number : ShowsNumber shown (recorded b).value
    reads_number =
        record {
          first = rw number_stands (first_number_law (recorded b).value rest);
          number = rw number_stands (number_read (recorded b).value rest (recorded_held b));
        }

  no_first : ¬ ((recorded b).outcome ≡ is_number) → word shown 0 ≡ number_view → ⊥
  unfolding view_bytes
  no_first h e =
      let empty : shown ≡ empty_bytes ++ rest = is ∙ ap (λ (v : List ℕ). v ++ rest) (nothing_shown (recorded b) h) in
      let k : ◌≡◌ {A = ℕ} 0 1 = sym e ∙ ap (λ (s : List ℕ). word s 0) empty ∙ first_empty rest in
      omega arith

  shows_by : (z : ℤ) → Told (recorded b) → ShowsNumber shown z → ((recorded b).outcome ≡ is_number) × ((recorded b).value ≡ z)
  shows_by z (number n) s = (n, sym (reads_number n).number ∙ s.number)
  shows_by z (none n) s = absurd (no_first n s.first)

  pub shows_exactly : (z : ℤ) → ShowsNumber shown z ↔ (((recorded b).outcome ≡ is_number) × ((recorded b).value ≡ z))
  shows_exactly z = (shows_by z (told (recorded b)), λ p. rw (← p.1) (reads_number p.0))

-- the first 20 bytes of a buffer hold its record
pub recorded_front : (room : List ℕ) → recorded (take answer_size room) ≡ recorded room
unfolding recorded signed word32
recorded_front room =
    rw (word_part room answer_size 0 4 (omega arith), word_part room answer_size 0 6 (omega arith), word_part room answer_size 0 8 (omega arith)) refl
