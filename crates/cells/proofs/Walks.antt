-- The walk from a cell over the cells before it: how it goes on, and what the loops that count and write have of it.
use mathlib.Core.Path.{◌≡◌, refl, sym, ap, ◌∙◌}
use Prim.Native.Nat.{ℕ, zero, suc, ◌+◌, ◌*◌, ◌-◌, ◌/◌, ◌≤◌, ◌<◌}
use mathlib.Core.List.{List, [], ◌∷◌}
use mathlib.Core.Logic.{◌⊎◌, inl, inr}
use mathlib.Core.Bool.{Bool, true, false, cond, ◌||◌}
use native.Mathlib.Omega.{arith}
use native.Mathlib.Nat.{le_refl}
use lib.ListN.{length}
use lib.Seq.{sets, length-sets}
use lib.Dec.{ltb, leb, eqb}
use borrow.Author.Tests.{lt-ltb, le-leb, lt-leb, le-ltb, leb-false, ne_eqb, leb-true}
use Rattle.definitions.specs.Sizes.{cell_size}
use Rattle.definitions.specs.Numbers.{short_output, out_of_range}
use Rattle.definitions.specs.Bytes.{word_bytes, bytes_of}
use Rattle.definitions.specs.Listing.{Listing, labels, refused, label_at, previous_at, with_label, damaged, labels_within, fitting, listing}
use Rattle.cells.specs.Listed.{Listed, Count, Refused, as_listed}
use Rattle.cells.specs.Listings.{counted, written, listed_over, Listable, Lists}
use Rattle.laws.proofs.Stores.{over_front}
use Rattle.laws.proofs.Verdicts.{required}
use Rattle.definitions.specs.Verdict.{Accepted}
use Rattle.definitions.specs.Verdict as verdict
use Rattle.definitions.specs.Verdicts.{require}
use Rattle.definitions.specs.Refusals.{number_of}
use Rattle.definitions.specs.declared.refusals.Refusal.{Refusal}
use Rattle.std.specs.Prelude.{Result}
use Rattle.std.specs.Result.{IsErrAnd}
use Rattle.std.proofs.lemmas.Result.{err_from_is_err_and}

or_false : (t u : Bool) → (t || u) ≡ false → (t ≡ false) × (u ≡ false)
or_false false u e = (refl, e)
or_false true u e = absurd (let z : ◌≡◌ {A = Bool} true false = e in let y : ◌≡◌ {A = ℕ} 0 1 = cc in omega arith)

-- the two ways to be damaged
pub beyond : (b : List ℕ) (c : ℕ) → length b / cell_size < c → damaged b c ≡ true
unfolding damaged
beyond b c h = rw (lt-ltb (length b / cell_size) c h) refl

or_right : (t : Bool) → (t || true) ≡ true
or_right false = refl
or_right true = refl

pub not_before : (b : List ℕ) (c p : ℕ) → p ≡ previous_at b c → c ≤ p → damaged b c ≡ true
unfolding damaged
not_before b c p e h =
    let l : c ≤ previous_at b c = omega arith in
    ap (λ (t : Bool). ltb (length b / cell_size) c || t) (le-leb c (previous_at b c) l) ∙ or_right (ltb (length b / cell_size) c)

pub sound : (b : List ℕ) (c p : ℕ) → c ≤ length b / cell_size → p ≡ previous_at b c → p < c → damaged b c ≡ false
unfolding damaged
sound b c p h e k = let l : previous_at b c < c = omega arith in rw (le-ltb (length b / cell_size) c h, lt-leb c (previous_at b c) l) refl

previous_below : (b : List ℕ) (c : ℕ) → damaged b c ≡ false → previous_at b c < c
unfolding damaged
previous_below b c e = leb-false c (previous_at b c) (or_false (ltb (length b / cell_size) c) (leb c (previous_at b c)) e).1

-- a walk has cells enough when it may go over as many as its first cell's number
enough_by : (b : List ℕ) (d e c : ℕ) → ((p : ℕ) → p < c → labels_within b d p ≡ labels_within b e p) → (t : Bool) → damaged b c ≡ t
    → cond t (refused out_of_range c) (with_label (label_at b c) (labels_within b d (previous_at b c)))
    ≡ cond t (refused out_of_range c) (with_label (label_at b c) (labels_within b e (previous_at b c)))
enough_by b d e c ih true f = refl
enough_by b d e c ih false f = ap (with_label (label_at b c)) (ih (previous_at b c) (previous_below b c f))

enough : (b : List ℕ) (d e c : ℕ) → c ≤ d → c ≤ e → labels_within b d c ≡ labels_within b e c
unfolding labels_within
enough b zero zero c h k = refl
enough b zero (suc e) c h k = let z : c ≡ 0 = omega arith in rw z refl
enough b (suc d) zero c h k = let z : c ≡ 0 = omega arith in rw z refl
enough b (suc d) (suc e) c h k =
    ap (λ (l : Listing). cond (eqb c 0) (labels []) l)
    (enough_by b d e c (λ p q. enough b d e p (omega arith) (omega arith)) (damaged b c) refl)

module _ (b : List ℕ) where
  walk_damaged : (c : ℕ) → (c ≡ 0 → ⊥) → damaged b c ≡ true → labels_within b c c ≡ refused out_of_range c
  unfolding labels_within
  walk_damaged zero h e = absurd (h refl)
  walk_damaged (suc c) h e = rw (ne_eqb (suc c) 0 h, e) refl

  walk_more : (c : ℕ) → (c ≡ 0 → ⊥) → damaged b c ≡ false
      → labels_within b c c ≡ with_label (label_at b c) (labels_within b (previous_at b c) (previous_at b c))
  unfolding labels_within
  walk_more zero h e = absurd (h refl)
  walk_more (suc c) h e =
      let l : previous_at b (suc c) < suc c = previous_below b (suc c) e in
      rw (ne_eqb (suc c) 0 h, e)
      (ap (with_label (label_at b (suc c))) (enough b c (previous_at b (suc c)) (previous_at b (suc c)) (omega arith) (le_refl (previous_at b (suc c)))))

  walk_none : (c : ℕ) → c ≡ 0 → labels_within b c c ≡ labels []
  unfolding labels_within
  walk_none c e = rw e refl

-- counting
unfoldable pub more : ℕ → Listed → Listed
more n (Count k) = Count (n + k)
more n (Refused m p) = Refused m p

more_none : (x : Listed) → x ≡ more 0 x
unfolding more
more_none (Count k) = ap Count (omega arith)
more_none (Refused m p) = refl

counted_label : (n l : ℕ) (L : Listing) → more n (counted (with_label l L)) ≡ more (n + 1) (counted L)
unfolding more counted with_label
counted_label n l (labels ls) = ap Count (omega arith)
counted_label n l (refused m p) = refl

-- what the loop that counts has: n labels, and those of the walk from a cell, are all
pub record CountedSo (b : List ℕ) (c made at n : ℕ) : Type 0 where
  pub rest : counted (labels_within b c c) ≡ more n (counted (labels_within b at at))
  pub bound : n + at ≤ c
  pub cells : made ≡ length b / cell_size

pub count_none : (b : List ℕ) (c : ℕ) → CountedSo b c (length b / cell_size) c 0
count_none b c = record { rest = more_none (counted (labels_within b c c)); bound = omega arith; cells = refl }

module _ {b : List ℕ} {c made at n : ℕ} (w : CountedSo b c made at n) where
  damage_counted : (at ≡ 0 → ⊥) → damaged b at ≡ true → Refused out_of_range at ≡ counted (labels_within b c c)
  unfolding more counted
  damage_counted h e = sym (w.rest ∙ ap (λ (l : Listing). more n (counted l)) (walk_damaged b at h e))

  pub counted_damaged : {p q : ℕ} → (at ≡ 0 → ⊥) → p ≡ previous_at b at → q ≡ p
      → (made < at) ⊎ ((at ≤ made) × (at ≤ q)) → Refused out_of_range at ≡ counted (labels_within b c c)
  counted_damaged h e g (inl k) = let f = w.cells in damage_counted h (beyond b at (omega arith))
  counted_damaged {q} h e g (inr k) = damage_counted h (not_before b at q (g ∙ e) k.1)

  pub count_more : {p q : ℕ} → (at ≡ 0 → ⊥) → p ≡ previous_at b at → q ≡ p → at ≤ made → q < at → CountedSo b c made q (n + 1)
  count_more {q} h e g i k =
      let f = w.cells in
      let z : q ≡ previous_at b at = g ∙ e in
      let u = w.bound in
      record {
        rest = w.rest
            ∙ ap (λ (l : Listing). more n (counted l)) (walk_more b at h (sound b at q (omega arith) z k))
            ∙ counted_label n (label_at b at) (labels_within b (previous_at b at) (previous_at b at))
            ∙ ap (λ (x : ℕ). more (n + 1) (counted (labels_within b x x))) (sym z);
        bound = omega arith;
        cells = f;
      }

  pub counted_all : at ≡ 0 → Count n ≡ counted (labels_within b c c)
  unfolding more counted
  counted_all e = sym (w.rest ∙ ap (λ (l : Listing). more n (counted l)) (walk_none b at e) ∙ ap Count (omega arith))

-- writing
written_label : (l : ℕ) (L : Listing) (k i : ℕ) (out m : List ℕ) → counted L ≡ Count k → m ≡ sets out (2 * i) (word_bytes l)
    → written (with_label l L) (2 * i) out ≡ written L (2 * (i + 1)) m
unfolding written with_label counted word_bytes bytes_of
written_label l (labels ls) k i out m h e = let z : 2 * (i + 1) ≡ suc (suc (2 * i)) = omega arith in rw (e, z) refl
written_label l (refused n p) k i out m h e = absurd (let z : ◌≡◌ {A = ℕ} 0 1 = cc in omega arith)

one_less : (l : ℕ) (L : Listing) (k : ℕ) → counted (with_label l L) ≡ Count k → counted L ≡ Count (k - 1)
unfolding with_label counted
one_less l (labels ls) k e = let z : suc (length ls) ≡ k = cc in ap Count (omega arith)
one_less l (refused n p) k e = absurd (let z : ◌≡◌ {A = ℕ} 0 1 = cc in omega arith)

none_left : (L : Listing) (at : ℕ) (out : List ℕ) → counted L ≡ Count 0 → written L at out ≡ out
unfolding written counted bytes_of
none_left (labels []) at out e = refl
none_left (labels (l ∷ ls)) at out e = absurd (let z : suc (length ls) ≡ 0 = cc in omega arith)
none_left (refused n p) at out e = absurd (let z : ◌≡◌ {A = ℕ} 0 1 = cc in omega arith)

-- what the loop that writes has: what is to be written from here on gives the whole output
pub record WrittenSo (b : List ℕ) (c count : ℕ) (before out : List ℕ) (at i : ℕ) : Type 0 where
  pub rest : written (labels_within b c c) 0 before ≡ written (labels_within b at at) (2 * i) out
  pub left : counted (labels_within b at at) ≡ Count (count - i)
  pub below : i ≤ count
  pub size : length out ≡ length before

pub write_none : {b : List ℕ} {c count room : ℕ} {out : List ℕ} → Listable b c count room → WrittenSo b c count out out c 0
write_none {count} h =
    let e : count ≡ count - 0 = omega arith in record { rest = refl; left = h.labelled ∙ ap Count e; below = omega arith; size = refl }

module _ {b : List ℕ} {c count : ℕ} {before out : List ℕ} {at i : ℕ} (w : WrittenSo b c count before out at i) where
  not_first : i < count → at ≡ 0 → ⊥
  unfolding counted
  not_first h e =
      let f : Count 0 ≡ Count (count - i) = ap counted (sym (walk_none b at e)) ∙ w.left in
      let z : 0 ≡ count - i = cc in
      omega arith

  not_damaged : (t : Bool) → i < count → damaged b at ≡ t → damaged b at ≡ false
  unfolding counted
  not_damaged false h e = e
  not_damaged true h e =
      let f : Refused out_of_range at ≡ Count (count - i) = ap counted (sym (walk_damaged b at (not_first h) e)) ∙ w.left in
      absurd (let z : ◌≡◌ {A = ℕ} 0 1 = cc in omega arith)

  pub write_more : {m : List ℕ} {l p q : ℕ} → i < count → l ≡ label_at b at → p ≡ previous_at b at → q ≡ p → m ≡ sets out (2 * i) (word_bytes l)
      → WrittenSo b c count before m q (i + 1)
  write_more {m} {l} {q} h e f g u =
      let z : q ≡ previous_at b at = g ∙ f in
      let s = walk_more b at (not_first h) (not_damaged (damaged b at) h refl) in
      let rest = labels_within b (previous_at b at) (previous_at b at) in
      let n : counted rest ≡ Count (count - i - 1) = one_less (label_at b at) rest (count - i) (ap counted (sym s) ∙ w.left) in
      let y : count - i - 1 ≡ count - (i + 1) = omega arith in
      rw z
      (record {
        rest = w.rest
            ∙ ap (λ (L : Listing). written L (2 * i) out) s
            ∙ written_label (label_at b at) rest (count - i - 1) i out m n (u ∙ ap (λ (x : ℕ). sets out (2 * i) (word_bytes x)) e);
        left = n ∙ ap Count y;
        below = omega arith;
        size = ap length u ∙ length-sets out (2 * i) (word_bytes l) ∙ w.size;
      })

  pub written_all : count ≤ i → out ≡ written (labels_within b c c) 0 before
  written_all h =
      let y : count - i ≡ 0 = omega arith in
      sym (w.rest ∙ none_left (labels_within b at at) (2 * i) out (w.left ∙ ap Count y))

-- the whole call
bytes_length : (ls : List ℕ) → length (bytes_of ls) ≡ 2 * length ls
unfolding bytes_of word_bytes
bytes_length [] = refl
bytes_length (l ∷ ls) = let h = bytes_length ls in omega arith

refused_by : (L : Listing) (n p room : ℕ) → Refused n p ≡ counted L → fitting room L ≡ refused n p
unfolding counted fitting
refused_by (labels ls) n p room e = absurd (let z : ◌≡◌ {A = ℕ} 0 1 = cc in omega arith)
refused_by (refused m q) n p room e = cc

-- a refusal that is passed on
pub refused_on : (r : Result ℕ Refusal) (e : Refusal) → IsErrAnd r (λ d. d ≡ e) → as_listed r ≡ Refused (number_of e.reason) e.place
refused_on r e h = let p = err_from_is_err_and r h in rw (p.1, p.2)

short_by : (L : Listing) (n room : ℕ) → Count n ≡ counted L → room / 2 < n → fitting room L ≡ refused short_output 0
unfolding counted fitting
short_by (labels ls) n room e h =
    let z : n ≡ length ls = cc in
    let k : room < 2 * length ls = omega arith in
    rw (lt-leb (2 * length ls) room k) refl
short_by (refused m q) n room e h = absurd (let z : ◌≡◌ {A = ℕ} 0 1 = cc in omega arith)

not_room : (n half m q : ℕ) → verdict.Refused m q ≡ require (leb n half) short_output 0 → (half < n) × (Refused m q ≡ Refused short_output 0)
unfolding require
not_room n half m q e = by (leb n half) refl e where
  by : (t : Bool) → leb n half ≡ t → verdict.Refused m q ≡ require t short_output 0 → (half < n) × (Refused m q ≡ Refused short_output 0)
  by true h e = absurd (let z : ◌≡◌ {A = ℕ} 0 1 = cc in omega arith)
  by false h e = (leb-false n half h, cc)

room_for : (n room : ℕ) → Accepted ≡ require (leb n (room / 2)) short_output 0 → n ≤ room / 2
room_for n room h = leb-true n (room / 2) (required (leb n (room / 2)) short_output 0 (sym h))

fits_by : (L : Listing) (n : ℕ) (before after : List ℕ) → Count n ≡ counted L → n ≤ length before / 2 → after ≡ written L 0 before
    → (Count n ≡ counted (fitting (length before) L)) × (after ≡ listed_over before (fitting (length before) L))
unfolding counted fitting listed_over written
fits_by (labels ls) n before after e h g =
    let z : n ≡ length ls = cc in
    let k : 2 * length ls ≤ length before = omega arith in
    rw (le-leb (2 * length ls) (length before) k) (e, g ∙ over_front (bytes_of ls) before (2 * length ls) (bytes_length ls) k)
fits_by (refused m q) n before after e h g = absurd (let z : ◌≡◌ {A = ℕ} 0 1 = cc in omega arith)

module _ {b : List ℕ} {c : ℕ} where
  refusal_listed : {out : List ℕ} {r : Listed} {n p : ℕ} → r ≡ Refused n p → listing b c (length out) ≡ refused n p → Lists b c out out r
  unfolding counted listed_over
  refusal_listed {out} f e = record { answer = f ∙ sym (ap counted e); bytes = sym (ap (listed_over out) e) }

  pub walk_refused : {out : List ℕ} {r : Listed} {n p : ℕ} → r ≡ Refused n p → Refused n p ≡ counted (labels_within b c c) → Lists b c out out r
  unfolding listing
  walk_refused {out} {n = n} {p = p} f e = refusal_listed f (refused_by (labels_within b c c) n p (length out) e)

  pub output_short : {out : List ℕ} {r : Listed} {n m p : ℕ} → Count n ≡ counted (labels_within b c c)
      → r ≡ Refused m p → verdict.Refused m p ≡ require (leb n (length out / 2)) short_output 0 → Lists b c out out r
  unfolding listing
  output_short {out} {n = n} {m = m} {p = p} e f h =
      let k = not_room n (length out / 2) m p h in
      refusal_listed (f ∙ k.1) (short_by (labels_within b c c) n (length out) e k.0)

  pub listed_whole : {before after : List ℕ} {n : ℕ} → Count n ≡ counted (labels_within b c c)
      → Accepted ≡ require (leb n (length before / 2)) short_output 0 → after ≡ written (labels_within b c c) 0 before → Lists b c before after (Count n)
  unfolding listing
  listed_whole {before} {after} {n} e h g = let w = fits_by (labels_within b c c) n before after e (room_for n (length before) h) g in record { answer = w.0; bytes = w.1 }

  pub listable : {room n : ℕ} → Count n ≡ counted (labels_within b c c) → Accepted ≡ require (leb n (room / 2)) short_output 0 → Listable b c n room
  listable {room} {n} e h = let k = room_for n room h in record { labelled = sym e; fits = omega arith }
