-- Reading nodes outside a set, and the verdict on the set.
use mathlib.Core.Path.{◌≡◌, refl, sym, ◌∙◌}
use Prim.Native.Nat.{ℕ, ◌+◌, ◌<◌}
use mathlib.Core.List.{List}
use mathlib.Core.Bool.{Bool, true, false, cond, not, true≢false}
use native.Mathlib.Omega.{arith}
use lib.Dec.{eqb}
use borrow.Author.Tests.{eqb-true, not-true}
use Rattle.definitions.specs.Numbers.{closed_reading}
use Rattle.definitions.specs.Lists.{first_passing}
use Rattle.definitions.specs.Verdicts.{first_of}
use Rattle.definitions.specs.TranslationKinds
use Rattle.definitions.specs.Records.{kind_of, field}
use Rattle.definitions.specs.Layouts.{readings, nodes, first_node, node_record}
use Rattle.definitions.specs.TranslationNodes.{reading, translation_node, translation_node_of}
use Rattle.definitions.specs.Checks.{translation_verdict}
use Rattle.definitions.specs.Hirer.{reading_allowed, node_allowed, closed_at, closed_verdict}
use Rattle.definitions.specs.Verdict.{Accepted, Refused}
use Rattle.laws.proofs.FirstPassing.{first_pass}
use Rattle.laws.proofs.Verdicts.{require_true, require_false, required, first_refused, first_each, first_same, first_all}
use Rattle.accepted.proofs.Checks.{translation_shape}
use Rattle.accepted.proofs.TranslationRecords.{TranslationRecord, is_reading, translation_node_is, reading_inside}
use Rattle.accepted.proofs.TranslationNames.{translation_reading_below}
use Rattle.demands.specs.Hirer.{Outside, FirstOutside}

-- the node of a reading's record
reading_node : (b : List ℕ) (k : ℕ) → kind_of (node_record b k) ≡ TranslationKinds.reading → translation_node_of b k ≡ reading (field (node_record b k) 0)
unfolding translation_node_of translation_node
reading_node b k e = rw e refl

-- a node that is not allowed is a reading outside the set
outside_by : (b : List ℕ) (set k : ℕ) → k < nodes b → node_allowed b set k ≡ false → Outside b set k
unfolding node_allowed
outside_by b set k h e = from (eqb (kind_of (node_record b k)) TranslationKinds.reading) refl e
  where
    from : (x : Bool) → eqb (kind_of (node_record b k)) TranslationKinds.reading ≡ x
        → cond x (reading_allowed set (field (node_record b k) 0)) true ≡ false → Outside b set k
    from true q g = record { below = h; names = field (node_record b k) 0; is = reading_node b k (eqb-true _ _ q); outside = g }
    from false q g = absurd (true≢false g)

-- a node that is no reading outside the set is allowed
inside_allowed : (b : List ℕ) (set k : ℕ) → k < nodes b → ¬ Outside b set k → node_allowed b set k ≡ true
inside_allowed b set k h n = from (node_allowed b set k) refl
  where
    from : (x : Bool) → node_allowed b set k ≡ x → x ≡ true
    from true e = refl
    from false e = absurd (n (outside_by b set k h e))

-- the verdict on one node, and on all
node_passes : (b : List ℕ) (set k : ℕ) → node_allowed b set k ≡ true → closed_at b set k ≡ Accepted
unfolding closed_at
node_passes b set k e = require_true _ closed_reading (first_node b + k) e

pub none_outside : (b : List ℕ) (set : ℕ) → ((k : ℕ) → ¬ Outside b set k) → closed_verdict b set ≡ Accepted
unfolding closed_verdict
none_outside b set n = first_all (nodes b) (closed_at b set) (λ k h. node_passes b set k (inside_allowed b set k h (n k)))

-- the first node that is not allowed
abbrev pub first_closed : List ℕ → ℕ → ℕ
first_closed b set = first_passing (nodes b) (λ k. not (node_allowed b set k))

module _ (b : List ℕ) (accepted : translation_verdict b ≡ Accepted) where
  -- a reading node by its reading
  node_of : (set k : ℕ) {i : ℕ} → k < nodes b → translation_node_of b k ≡ reading i → node_allowed b set k ≡ reading_allowed set i
  unfolding node_allowed
  node_of set k h e = by_record (translation_node_is b (translation_shape b accepted) k h e)
    where
      by_record : {i : ℕ} → TranslationRecord (node_record b k) (reading i)
          → cond (eqb (kind_of (node_record b k)) TranslationKinds.reading) (reading_allowed set (field (node_record b k) 0)) true ≡ reading_allowed set i
      by_record (is_reading g c) = rw g refl

  -- where a node is outside the set, one is the first
  pub first_exists : (set k : ℕ) → Outside b set k → FirstOutside b set (first_closed b set)
  first_exists set k o =
      let found = first_pass (nodes b) (λ j. not (node_allowed b set j)) in
      let h : first_closed b set < nodes b = omega (arith, found.least k o.below (not_allowed k o), o.below) in
      record {
        node = outside_by b set (first_closed b set) h (not-true _ (found.passes h));
        first = λ j l e. omega (arith, l, found.least j e.below (not_allowed j e));
      }
    where
      not_allowed : (j : ℕ) → Outside b set j → not (node_allowed b set j) ≡ true
      not_allowed j e = rw (node_of set j e.below e.is, e.outside) refl

  -- the first one's record is the place of 21
  pub first_outside : (set k : ℕ) → FirstOutside b set k → closed_verdict b set ≡ Refused closed_reading (first_node b + k)
  unfolding closed_verdict closed_at
  first_outside set k o =
      let n = o.node in
      let before : first_of k (closed_at b set) ≡ Accepted =
      first_all k (closed_at b set) (λ j h. node_passes b set j (inside_allowed b set j (omega (arith, h, n.below)) (o.first j h))) in
      first_refused k (nodes b) (closed_at b set) closed_reading (first_node b + k) n.below before
      (require_false _ closed_reading (first_node b + k) (node_of set k n.below n.is ∙ n.outside))

  -- readings of the set where it is not refused
  pub named_allowed : (set k : ℕ) {i : ℕ} → closed_verdict b set ≡ Accepted → translation_node_of b k ≡ reading i → (i < readings b) × (reading_allowed set i ≡ true)
  unfolding closed_verdict closed_at
  named_allowed set k v e =
      let h = reading_inside b (translation_shape b accepted) k e in
      let passed = required _ closed_reading (first_node b + k) (first_each (nodes b) (closed_at b set) v k h) in
      (translation_reading_below b accepted k h e, sym (node_of set k h e) ∙ passed)

  -- sets that allow the same of the readings that the file asks for
  pub same_sets : (set other : ℕ) → ((i : ℕ) → i < readings b → reading_allowed set i ≡ reading_allowed other i) → closed_verdict b set ≡ closed_verdict b other
  unfolding closed_verdict closed_at node_allowed
  same_sets set other s = first_same (nodes b) (closed_at b set) (closed_at b other) (λ k h. rw (same k h (eqb (kind_of (node_record b k)) TranslationKinds.reading) refl) refl)
    where
      same : (k : ℕ) → k < nodes b → (x : Bool) → eqb (kind_of (node_record b k)) TranslationKinds.reading ≡ x
          → cond x (reading_allowed set (field (node_record b k) 0)) true ≡ cond x (reading_allowed other (field (node_record b k) 0)) true
      same k h true e = s _ (translation_reading_below b accepted k h (reading_node b k (eqb-true _ _ e)))
      same k h false e = refl
