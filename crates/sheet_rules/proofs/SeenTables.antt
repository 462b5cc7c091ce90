-- Laws of the tables of children while they are filled.
use mathlib.Core.Path.{◌≡◌, refl, sym, ap, ◌∙◌}
use Prim.Native.Nat.{ℕ, ◌+◌, ◌≤◌, ◌<◌, min}
use mathlib.Core.List.{List}
use mathlib.Core.Bool.{Bool, true, false, cond, not}
use native.Mathlib.Omega.{arith}
use native.Mathlib.Decide.{ℕ_discrete}
use lib.ListN.{length, get_or, set, length-set}
use lib.Seq.{get_or-set_same, get_or-set_other}
use lib.Dec.{eqb, ltb}
use Rattle.definitions.specs.Sizes.{most_nodes}
use borrow.Author.Tests.{eq-eqb, ne_eqb, lt-ltb, le-ltb, ltb-true, ltb-false}
use Rattle.definitions.specs.Records.{record_at}
use Rattle.definitions.specs.Layouts.{nodes, first_node, node_record}
use Rattle.definitions.specs.declared.Layout.TheVariants.{Sheet}
use Rattle.definitions.specs.References.{children, child}
use Rattle.laws.proofs.Lists.{count_more, count_none, sum_more, sum_none, last_more, last_none}
use Rattle.file_records.specs.Index.{Opened, start_in}
use Rattle.file_records.proofs.Indices.{opened_record}
use Rattle.sheet_rules.specs.Seen.{times_in, once, ChildTables, NotedOne, Noted, Seen}

pub once_first : (n : ℕ) → n < 1 → 1 ≡ once n
unfolding once
once_first n h = rw (lt-ltb n 1 h) refl

pub once_more : (n : ℕ) → 1 ≤ n → 2 ≡ once n
unfolding once
once_more n h = rw (le-ltb n 1 h) refl

once_is : (n : ℕ) (t : Bool) → ltb n 1 ≡ t → once n ≡ min 2 (n + 1)
once_is n true e = sym (once_first n (ltb-true n 1 e)) ∙ omega (arith, ltb-true n 1 e)
once_is n false e = sym (once_more n (ltb-false n 1 e)) ∙ omega (arith, ltb-false n 1 e)

pub once_counts : (n : ℕ) → once n ≡ min 2 (n + 1)
once_counts n = once_is n (ltb n 1) refl

-- an entry after one node is noted
module _ (c p : ℕ) (times parents t s : List ℕ) (w : ChildTables times parents) (o : NotedOne c p times parents t s) (k : ℕ) (h : k < most_nodes) where
  noted_here : c ≡ k → (get_or t k 0 ≡ min 2 (get_or times k 0 + 1)) × (get_or s k 0 ≡ p)
  noted_here e =
      let i : ltb c most_nodes ≡ true = lt-ltb c most_nodes (omega (arith, e, h)) in
      let a : t ≡ set times c (once (get_or times c 0)) = rw i at o.counted in
      let b : s ≡ set parents c p = rw i at o.last in (
        rw (a, e) (get_or-set_same times k (once (get_or times k 0)) 0 (omega (arith, w.times_length, h)) ∙ once_counts (get_or times k 0)),
        rw (b, e) (get_or-set_same parents k p 0 (omega (arith, w.parents_length, h))),
      )

  kept : (v : ℕ) (x : List ℕ) (u : Bool) → (c ≡ k → ⊥) → get_or (cond u (set x c v) x) k 0 ≡ get_or x k 0
  kept v x true e = get_or-set_other x c k v 0 (λ q. e (sym q))
  kept v x false e = refl

  noted_elsewhere : (c ≡ k → ⊥) → (get_or t k 0 ≡ get_or times k 0) × (get_or s k 0 ≡ get_or parents k 0)
  noted_elsewhere e = (
    rw o.counted (kept (once (get_or times c 0)) times (ltb c most_nodes) e),
    rw o.last (kept p parents (ltb c most_nodes) e),
  )

length_kept : (c v : ℕ) (x : List ℕ) (u : Bool) → length (cond u (set x c v) x) ≡ length x
length_kept c v x true = length-set x c v
length_kept c v x false = refl

one_small : (c p : ℕ) (times parents t s : List ℕ) (w : ChildTables times parents) (o : NotedOne c p times parents t s) (k : ℕ) (h : k < most_nodes) → Dec (c ≡ k) → get_or t k 0 ≤ 2
one_small c p times parents t s w o k h (yes e) = omega (arith, (noted_here c p times parents t s w o k h e).0)
one_small c p times parents t s w o k h (no e) = omega (arith, (noted_elsewhere c p times parents t s w o k h e).0, w.small k h)

pub one_sized : (c p : ℕ) (times parents t s : List ℕ) → ChildTables times parents → NotedOne c p times parents t s → ChildTables t s
one_sized c p times parents t s w o =
    record {
      times_length = rw (o.counted, length_kept c (once (get_or times c 0)) times (ltb c most_nodes)) w.times_length;
      parents_length = rw (o.last, length_kept c p parents (ltb c most_nodes)) w.parents_length;
      small = λ k h. one_small c p times parents t s w o k h (ℕ_discrete c k);
    }

-- no node is noted yet
pub noted_none : {rec : List ℕ} {p : ℕ} {times parents : List ℕ} → ChildTables times parents → Noted rec p 0 times parents times parents
unfolding times_in
noted_none {rec} w =
    record {
      counted = λ k h. rw (count_none (λ j. eqb (child rec j) k)) (omega (arith, w.small k h));
      last = λ k h. rw (count_none (λ j. eqb (child rec j) k)) refl;
      sized = w;
    }

-- one node more
times_here : (rec : List ℕ) (j k : ℕ) → child rec j ≡ k → times_in rec (j + 1) k ≡ times_in rec j k + 1
unfolding times_in
times_here rec j k e = rw (count_more j (λ i. eqb (child rec i) k), eq-eqb (child rec j) k e) refl

times_elsewhere : (rec : List ℕ) (j k : ℕ) → (child rec j ≡ k → ⊥) → times_in rec (j + 1) k ≡ times_in rec j k
unfolding times_in
times_elsewhere rec j k e = rw (count_more j (λ i. eqb (child rec i) k), ne_eqb (child rec j) k e) refl

module _ {rec : List ℕ} {p j : ℕ} {times parents t s : List ℕ} (w : Noted rec p j times parents t s) {c : ℕ} {t' s' : List ℕ} (e : c ≡ child rec j)
    (o : NotedOne c p t s t' s') where
  counted_more : (k : ℕ) → k < most_nodes → Dec (c ≡ k) → get_or t' k 0 ≡ min 2 (get_or times k 0 + times_in rec (j + 1) k)
  counted_more k h (yes q) =
      rw (times_here rec j k (sym e ∙ q))
      (omega (arith, (noted_here c p t s t' s' w.sized o k h q).0, w.counted k h))
  counted_more k h (no q) =
      rw (times_elsewhere rec j k (λ f. q (e ∙ f)))
      ((noted_elsewhere c p t s t' s' w.sized o k h q).0 ∙ w.counted k h)

  last_noted : (k : ℕ) → k < most_nodes → Dec (c ≡ k) → get_or s' k 0 ≡ cond (eqb (times_in rec (j + 1) k) 0) (get_or parents k 0) p
  last_noted k h (yes q) =
      rw (times_here rec j k (sym e ∙ q), ne_eqb (times_in rec j k + 1) 0 (λ f. omega (arith, f)))
      (noted_here c p t s t' s' w.sized o k h q).1
  last_noted k h (no q) =
      rw (times_elsewhere rec j k (λ f. q (e ∙ f)))
      ((noted_elsewhere c p t s t' s' w.sized o k h q).1 ∙ w.last k h)

  pub noted_more : Noted rec p (j + 1) times parents t' s'
  noted_more =
      record {
        counted = λ k h. counted_more k h (ℕ_discrete c k);
        last = λ k h. last_noted k h (ℕ_discrete c k);
        sized = one_sized c p t s t' s' w.sized o;
      }

pub noted_all : {rec : List ℕ} {p j n m : ℕ} {times parents t s : List ℕ} → n ≡ m → j ≤ n → n ≤ j → Noted rec p j times parents t s → Noted rec p m times parents t s
noted_all {j} {m} e h k w = let q : j ≡ m = omega (arith, e, h, k) in rw q at w

-- no node's children are noted yet
pub seen_none : {b times parents : List ℕ} → length times ≡ most_nodes → length parents ≡ most_nodes → ((k : ℕ) → k < most_nodes → get_or times k 0 ≡ 0)
    → ((k : ℕ) → k < most_nodes → get_or parents k 0 ≡ 0) → Seen b 0 times parents
seen_none {b} e f g h =
    record {
      counted = λ k i. rw (sum_none (λ q. times_in (node_record b q) (children (node_record b q)) k)) (g k i);
      last = λ k i. h k i ∙ sym (last_none (λ q. not (eqb (times_in (node_record b q) (children (node_record b q)) k) 0)));
      sized = record { times_length = e; parents_length = f; small = λ k i. omega (arith, g k i) };
    }

last_chosen : (t : Bool) (l p : ℕ) → cond t l p ≡ cond (not t) p l
last_chosen true l p = refl
last_chosen false l p = refl

-- the children of one node more are noted
pub seen_more : (b : List ℕ) (p : ℕ) (times parents t s rec : List ℕ) → Seen b p times parents → rec ≡ node_record b p → Noted rec p (children rec) times parents t s
    → Seen b (p + 1) t s
seen_more b p times parents t s rec w e o =
    record {
      counted =
          λ k h.
          rw (sum_more p (λ q. times_in (node_record b q) (children (node_record b q)) k))
          (omega (arith, rw e at (o.counted k h), w.counted k h));
      last =
          λ k h.
          rw e at (o.last k h)
          ∙ ap (λ (x : ℕ). cond (eqb (times_in (node_record b p) (children (node_record b p)) k) 0) x p) (w.last k h)
          ∙ last_chosen (eqb (times_in (node_record b p) (children (node_record b p)) k) 0) _ p
          ∙ sym (last_more p (λ q. not (eqb (times_in (node_record b q) (children (node_record b q)) k) 0)));
      sized = o.sized;
    }

-- the tables while the nodes of an opened sheet are passed
pub record Seeing (b starts : List ℕ) (first count : ℕ) (times parents : List ℕ) (p : ℕ) : Type 0 where
  pub file : Opened Sheet b starts
  pub start : first ≡ first_node b
  pub low : first ≤ 131071
  pub counts : count ≡ nodes b
  pub narrow : count ≤ 65535
  pub reached : p ≤ count
  pub seen : Seen b p times parents

pub seeing_goes_on : {b starts : List ℕ} {first count : ℕ} {times parents : List ℕ} {p q : ℕ} {rec t s : List ℕ} → Seeing b starts first count times parents p → p < count
    → q ≡ p → rec ≡ record_at b (start_in starts (first + q)) → Noted rec p (children rec) times parents t s → Seeing b starts first count t s (p + 1)
seeing_goes_on {b} {starts} {first} {times} {parents} {p} {q} {rec} {t} {s} w h e f o =
    record {
      file = w.file;
      start = w.start;
      low = w.low;
      counts = w.counts;
      narrow = w.narrow;
      reached = omega (arith, h);
      seen =
          seen_more b p times parents t s rec w.seen
          (opened_record Sheet b starts (first + q) rec w.file (omega (arith, w.start, w.counts, h, e)) f ∙ rw (w.start, e) refl) o;
    }

pub seeing_done : {b starts : List ℕ} {first count : ℕ} {times parents : List ℕ} {p : ℕ} → Seeing b starts first count times parents p → count ≤ p → Seen b (nodes b) times parents
seeing_done {b} {p} w h = let e : p ≡ nodes b = omega (arith, w.counts, w.reached, h) in rw e at w.seen
