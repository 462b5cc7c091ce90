-- The walk over a file's records while it goes on, and laws of its turns.
use mathlib.Core.Path.{◌≡◌, refl, sym, ap, ◌∙◌}
use Prim.Native.Nat.{ℕ, zero, suc, ◌+◌, ◌≤◌, ◌<◌}
use mathlib.Core.List.{List}
use mathlib.Core.Bool.{true}
use native.Mathlib.Omega.{arith}
use native.Mathlib.Nat.{not-suc-le-zero}
use lib.ListN.{length, get_or, set, length-set}
use lib.Seq.{get_or-set_same, get_or-set_other}
use lib.Dec.{eqb}
use Rattle.definitions.specs.Numbers.{bad_record, oversize}
use Rattle.definitions.specs.Sizes.{most_records}
use borrow.Author.Tests.{le-leb, lt-leb, eq-eqb, ne_eqb}
use Rattle.definitions.specs.Bytes.{word}
use Rattle.definitions.specs.Records.{start_of}
use Rattle.definitions.specs.Verdicts.{first_of}
use Rattle.definitions.specs.Layouts.{due}
use Rattle.definitions.specs.Shape.{file_limit, shape, shape_at, file_shape}
use Rattle.definitions.specs.declared.Layout.{Layout}
use Rattle.definitions.specs.declared.Layout.TheVariants.{Sheet, Translation}
use Rattle.definitions.specs.Verdict.{Verdict, Accepted, Refused}
use Rattle.definitions.specs.Verdicts.{require}
use Rattle.laws.proofs.Lists.{below_suc}
use Rattle.laws.proofs.Records.{start_zero, start_next, next_whole, whole_inside}
use Rattle.laws.proofs.Verdicts.{then_accepted, then_refused, require_true, require_false, first_none, first_more, first_refused, first_each}
use Rattle.laws.proofs.Walk.{shaped, head_ranges, due_room}
use Rattle.file_records.specs.Index.{Indexed}
use Rattle.file_shape.specs.Walks.{Walked}

-- before record r: it starts at `at`, those before it are accepted and in the index, and `count` records are due
pub record Walking (y : Layout) (b : List ℕ) (count : ℕ) (starts : List ℕ) (at r : ℕ) : Type 0 where
  pub limit : length b ≤ file_limit y
  pub counted : count ≡ due b
  pub reached : r ≤ count
  pub place : at ≡ start_of b r
  pub inside : at ≤ length b
  pub small : length b ≤ 65535
  pub passed : first_of r (shape y b) ≡ Accepted
  pub index : Indexed b starts r
  pub size : length starts ≡ most_records

limit_small : (y : Layout) → file_limit y ≤ 65535
limit_small Sheet = omega arith
limit_small Translation = omega arith

-- the rule of record r is that of the record at its place
rule_at : (y : Layout) (b : List ℕ) (r at : ℕ) (v : Verdict) → at ≡ start_of b r → v ≡ shape_at y b r at → shape y b r ≡ v
unfolding shape
rule_at y b r at v e f = rw (← e) (sym f)

-- the file's verdict from that of its records, where the file is within its limit
shape_refused : (y : Layout) (b : List ℕ) (n p : ℕ) → length b ≤ file_limit y → first_of (due b) (shape y b) ≡ Refused n p → file_shape y b ≡ Refused n p
unfolding file_shape
shape_refused y b n p h e =
    then_refused _ _ n p
    (then_accepted _ _ (require_true _ oversize 0 (le-leb (length b) (file_limit y) h)) ∙ e)

shape_left_over : (y : Layout) (b : List ℕ) (v : Verdict) → length b ≤ file_limit y → first_of (due b) (shape y b) ≡ Accepted
    → require (eqb (start_of b (due b)) (length b)) bad_record (due b) ≡ v → file_shape y b ≡ v
unfolding file_shape
shape_left_over y b v h e f =
    then_accepted _ _ (then_accepted _ _ (require_true _ oversize 0 (le-leb (length b) (file_limit y) h)) ∙ e) ∙ f

-- a refused verdict names no index
walked_refused : (y : Layout) (b starts : List ℕ) (v : Verdict) (n p : ℕ) → v ≡ Refused n p → file_shape y b ≡ Refused n p → Walked y b v starts
walked_refused y b starts v n p e f =
    record {
      verdict = e ∙ sym f;
      index = λ g. absurd (accepted_not_refused v n p g e);
    }
  where
    accepted_not_refused : (v : Verdict) (n p : ℕ) → v ≡ Accepted → v ≡ Refused n p → ⊥
    accepted_not_refused v n p g e = let z : ◌≡◌ {A = ℕ} 0 1 = cc in omega arith

-- the file is above its size
pub oversized : {y : Layout} {b starts : List ℕ} {n : ℕ} → n ≡ file_limit y → n < length b → Walked y b (Refused oversize 0) starts
unfolding file_shape
oversized {y} {b} {starts} e h =
    walked_refused y b starts (Refused oversize 0) oversize 0 refl
    (then_refused _ _ oversize 0 (then_refused _ _ oversize 0 (require_false _ oversize 0 (lt-leb (length b) (file_limit y) (omega (arith, e, h))))))

-- what an accepted record says of the walk: the next place
next_place : (y : Layout) (b : List ℕ) (r at x : ℕ) (v : Verdict) → v ≡ shape_at y b r at → v ≡ Accepted → x ≡ word b at → at ≡ start_of b r
    → at + x ≡ start_of b (r + 1)
next_place y b r at x v e f g h =
    next_whole b at x true (sym (shaped y b r at (sym e ∙ f)).whole) refl g ∙ start_next b r at h

next_inside : (y : Layout) (b : List ℕ) (r at x : ℕ) (v : Verdict) → v ≡ shape_at y b r at → v ≡ Accepted → x ≡ word b at → at + x ≤ length b
next_inside y b r at x v e f g = whole_inside b at x true (sym (shaped y b r at (sym e ∙ f)).whole) refl g

-- the walk begins at the head
pub begins : {y : Layout} {b starts : List ℕ} {count : ℕ} → length b ≤ file_limit y → length starts ≡ most_records → count ≡ due b → Walking y b count starts 0 0
begins {y} {b} h s g =
    record {
      limit = h;
      counted = g;
      reached = omega arith;
      place = start_zero b;
      inside = omega arith;
      small = omega (arith, limit_small y);
      passed = first_none (shape y b);
      index = record { entry = λ r k. absurd (not-suc-le-zero k); room = omega arith };
      size = s;
    }

-- once the head is passed, the records due have room in the index
head_room : (y : Layout) (b : List ℕ) (r : ℕ) → first_of (suc r) (shape y b) ≡ Accepted → due b ≤ most_records
unfolding shape
head_room y b r e =
    let v : shape_at y b 0 (start_of b 0) ≡ Accepted = first_each (suc r) (shape y b) e 0 (omega arith) in
    due_room y b (head_ranges y b _ (shaped y b 0 0 (rw (← (start_zero b)) at v)).counts)

module _ {y : Layout} {b : List ℕ} {count : ℕ} {starts : List ℕ} {at r : ℕ} (w : Walking y b count starts at r) where
  pub room_here : r < count → r < most_records
  room_here h = room_of r w.passed h
    where
      room_of : (n : ℕ) → first_of n (shape y b) ≡ Accepted → n < count → n < most_records
      room_of zero e k = omega arith
      room_of (suc n) e k = omega (arith, head_room y b n e, w.counted, k)

  -- the place of record r goes into the index
  pub index_more : r < count → Indexed b (set starts r at) (r + 1)
  index_more h =
      record {
        entry =
            λ i k.
            below_suc (λ (j : ℕ). get_or (set starts r at) j 0 ≡ start_of b j) r
            (λ j q. get_or-set_other starts r j at 0 (λ e. omega (arith, e, q)) ∙ w.index.entry j q)
            (get_or-set_same starts r at 0 (omega (arith, w.size, room_here h)) ∙ w.place) i (omega (arith, k));
        room = omega (arith, room_here h);
      }

  -- record r is refused
  pub refused_here : {v : Verdict} {n p : ℕ} → r < count → v ≡ shape_at y b r at → v ≡ Refused n p → Walked y b v (set starts r at)
  refused_here {v} {n} {p} h e f =
      walked_refused y b (set starts r at) v n p f
      (shape_refused y b n p w.limit
      (first_refused r (due b) (shape y b) n p (omega (arith, w.counted, h)) w.passed (rule_at y b r at v w.place e ∙ f)))

  -- record r is accepted
  pub goes_on : {v : Verdict} {x : ℕ} → r < count → v ≡ shape_at y b r at → v ≡ Accepted → x ≡ word b at → Walking y b count (set starts r at) (at + x) (r + 1)
  goes_on {v} {x} h e f g =
      record {
        limit = w.limit;
        counted = w.counted;
        reached = omega (arith, h);
        place = next_place y b r at x v e f g w.place;
        inside = next_inside y b r at x v e f g;
        small = w.small;
        passed = first_more r (shape y b) w.passed (rule_at y b r at v w.place e ∙ f);
        index = index_more h;
        size = length-set starts r at ∙ w.size;
      }

  -- every record due is passed
  all_passed : count ≤ r → (first_of (due b) (shape y b) ≡ Accepted) × (at ≡ start_of b (due b)) × Indexed b starts (due b)
  all_passed h =
      let e : r ≡ due b = omega (arith, w.counted, w.reached, h) in
      (rw e at w.passed, rw e at w.place, rw e at w.index)

  pub ends_there : count ≤ r → at ≡ length b → Walked y b Accepted starts
  ends_there h e =
      let k = all_passed h in
      record {
        verdict = sym (shape_left_over y b Accepted w.limit k.0 (require_true _ bad_record (due b) (eq-eqb _ _ (sym k.1 ∙ e))));
        index = λ g. k.2;
      }

  pub bytes_left : count ≤ r → (at ≡ length b → ⊥) → Walked y b (Refused bad_record count) starts
  bytes_left h e =
      let k = all_passed h in
      walked_refused y b starts (Refused bad_record count) bad_record (due b) (ap (Refused bad_record) w.counted)
      (shape_left_over y b (Refused bad_record (due b)) w.limit k.0 (require_false _ bad_record (due b) (ne_eqb _ _ (λ q. e (k.1 ∙ q)))))
