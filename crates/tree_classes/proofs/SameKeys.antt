-- Laws of keys: nodes with one key are an equivalence, keys are found equal by comparing, and nodes with one key have one bucket.
use mathlib.Core.Path.{◌≡◌, refl, sym, ◌∙◌}
use Prim.Native.Nat.{ℕ, zero, suc, ◌<◌}
use mathlib.Core.List.{List}
use mathlib.Core.Bool.{Bool, true, false, cond, and-eq-true_iff, and-false}
use native.Mathlib.Omega.{arith}
use lib.ListN.{length, get_or}
use lib.Dec.{eqb}
use borrow.Author.Tests.{eqb-true, eq-eqb}
use Rattle.std.specs.Bool.{MatchBool}
use Rattle.std.specs.List.{AllWithin, HoldsAt, range_with_len}
use Rattle.std.proofs.lemmas.List.FromFn.{length-range_with_len, get_or-range_with_len}
use Rattle.definitions.specs.Records.{kind_of, field, field_count}
use Rattle.definitions.specs.Lists.{all_of}
use Rattle.definitions.specs.Layouts.{node_record}
use Rattle.definitions.specs.Trees.{names_node}
use Rattle.laws.proofs.Lists.{all_each, all_pass, all_not}
use Rattle.tree_classes.specs.Keys.{value_of, same_values, equal_keys, bucket_after, bucket_of, SameKey}

pub key_itself : {class place : ℕ → ℕ} {b : List ℕ} {k : ℕ} → SameKey class place b k k
key_itself = record { kinds = refl; counts = refl; places = refl; values = λ i h. refl }

module _ {class place : ℕ → ℕ} {b : List ℕ} {j k : ℕ} (s : SameKey class place b j k) where
  pub key_swap : SameKey class place b k j
  key_swap =
      record {
        kinds = sym s.kinds;
        counts = sym s.counts;
        places = sym s.places;
        values = λ i h. sym (s.values i (rw s.counts h));
      }

  pub key_then : {m : ℕ} → SameKey class place b k m → SameKey class place b j m
  key_then t =
      record {
        kinds = s.kinds ∙ t.kinds;
        counts = s.counts ∙ t.counts;
        places = s.places ∙ t.places;
        values = λ i h. s.values i h ∙ t.values i (rw (← s.counts) h);
      }

-- comparing finds equal keys, and no others
module _ {class place : ℕ → ℕ} {b : List ℕ} {j k : ℕ} where
  pub key_found : equal_keys class place b j k ≡ true → SameKey class place b j k
  unfolding equal_keys same_values
  key_found e =
      let p = (and-eq-true_iff _ _).0 e in
      let q = (and-eq-true_iff _ _).0 p.1 in
      let r = (and-eq-true_iff _ _).0 q.0 in
      let x = node_record b j in
      let y = node_record b k in
      let each = all_each (field_count x) (λ i. eqb (value_of class x i) (value_of class y i)) q.1 in
      record {
        kinds = eqb-true _ _ r.0;
        counts = eqb-true _ _ r.1;
        places = eqb-true _ _ p.0;
        values = λ i h. eqb-true _ _ (each i h);
      }

  pub key_passes : SameKey class place b j k → equal_keys class place b j k ≡ true
  unfolding equal_keys same_values
  key_passes s =
      let x = node_record b j in
      let y = node_record b k in
      let each = all_pass (field_count x) (λ i. eqb (value_of class x i) (value_of class y i)) (λ i h. eq-eqb _ _ (s.values i h)) in
      rw (eq-eqb _ _ s.places, eq-eqb _ _ s.kinds, eq-eqb _ _ s.counts, each) refl

-- nodes of one place have one key where their values are the same
module _ (class place : ℕ → ℕ) (b : List ℕ) (j k : ℕ) where
  pub places_same : {x y : List ℕ} {t : Bool} → place j ≡ place k → x ≡ node_record b j → y ≡ node_record b k → t ≡ same_values class x y → t ≡ equal_keys class place b j k
  unfolding equal_keys
  places_same e p q h = h ∙ rw (p, q, eq-eqb (place j) (place k) e) refl

-- what `all` answers over the numbers below n, by a test of each
module _ (n : ℕ) (test : ℕ → Bool) where
  entry : (i : ℕ) → i < n → get_or (range_with_len 0 n) i 0 ≡ i
  entry i l = omega (arith, get_or-range_with_len 0 n i 0 l)

  pub all_tested : (t : Bool)
      → MatchBool t (AllWithin (λ i. test i ≡ true) (range_with_len 0 n) 0 (length (range_with_len 0 n)))
      ((i : ℕ) × (i < length (range_with_len 0 n)) × HoldsAt (λ i. test i ≡ false) (range_with_len 0 n) i)
      → t ≡ all_of n test
  all_tested true h = sym (all_pass n test (λ i l. rw (entry i l) at (h i 0 (omega arith) (rw length-range_with_len l))))
  all_tested false (i, l, h) =
      let below : i < n = rw length-range_with_len at l in
      sym (all_not i n test below (rw (entry i below) at (h 0)))

-- the tests of a comparison, by what they answered
module _ (class : ℕ → ℕ) (x y : List ℕ) {k l m : ℕ} {t : Bool} (p : k ≡ kind_of x) (q : l ≡ kind_of y) (p' : m ≡ field_count x) where
  pub kinds_differ : t ≡ eqb k l → t ≡ false → t ≡ same_values class x y
  unfolding same_values
  kinds_differ e h = h ∙ rw (← p, ← q, ← e, h) refl

  pub counts_differ : {n : ℕ} → n ≡ field_count y → t ≡ eqb m n → t ≡ false → t ≡ same_values class x y
  unfolding same_values
  counts_differ q' e h = h ∙ rw (← p', ← q', ← e, h, and-false) refl

  pub values_tested : {n : ℕ} {s : Bool} → n ≡ field_count y → k ≡ l → s ≡ eqb m n → s ≡ true
      → t ≡ all_of m (λ i. eqb (value_of class x i) (value_of class y i)) → t ≡ same_values class x y
  unfolding same_values
  values_tested q' e f g h = h ∙ rw (← p', ← q', ← f, g, eq-eqb _ _ (sym p ∙ e ∙ q)) refl

-- the bucket by equal values
bucket_after_law : (class class' : ℕ → ℕ) (x y : List ℕ) (p q n : ℕ) → kind_of x ≡ kind_of y → p ≡ q
    → ((i : ℕ) → i < n → value_of class x i ≡ value_of class' y i)
    → bucket_after class x p n ≡ bucket_after class' y q n
unfolding bucket_after
bucket_after_law class class' x y p q zero e f h = rw (e, f) refl
bucket_after_law class class' x y p q (suc n) e f h =
    rw (bucket_after_law class class' x y p q n e f (λ i l. h i (omega arith)), h n (omega arith)) refl

pub bucket_same : {class place : ℕ → ℕ} {b : List ℕ} {j k : ℕ} → SameKey class place b j k
    → bucket_of class (node_record b j) (place j) ≡ bucket_of class (node_record b k) (place k)
unfolding bucket_of
bucket_same {class} {place} {b} {j} {k} s =
    bucket_after_law class class (node_record b j) (node_record b k) (place j) (place k) (field_count (node_record b j)) s.kinds s.places s.values
    ∙ rw s.counts refl

-- classes that agree on the nodes that a record names give the same values
module _ (class class' : ℕ → ℕ) (rec : List ℕ) (parts : (i : ℕ) → i < field_count rec → names_node (kind_of rec) i ≡ true → class (field rec i) ≡ class' (field rec i)) where
  value_by : (i : ℕ) (t : Bool) → (t ≡ true → class (field rec i) ≡ class' (field rec i))
      → cond t (class (field rec i)) (field rec i) ≡ cond t (class' (field rec i)) (field rec i)
  value_by i true e = e refl
  value_by i false e = refl

  pub value_kept : (i : ℕ) → i < field_count rec → value_of class rec i ≡ value_of class' rec i
  unfolding value_of
  value_kept i h = value_by i (names_node (kind_of rec) i) (parts i h)

  pub bucket_kept : (p : ℕ) → bucket_of class rec p ≡ bucket_of class' rec p
  unfolding bucket_of
  bucket_kept p = bucket_after_law class class' rec rec p p (field_count rec) refl refl value_kept
