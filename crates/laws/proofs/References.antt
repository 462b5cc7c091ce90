-- Laws of the fields that name nodes, by kind.
use mathlib.Core.Path.{◌≡◌, refl, ◌∙◌}
use Prim.Native.Nat.{ℕ, ◌+◌, ◌*◌, ◌-◌, ◌/◌, ◌%◌, ◌≤◌, ◌<◌}
use mathlib.Core.List.{List}
use mathlib.Core.Bool.{Bool, true, false, cond}
use native.Mathlib.Omega.{arith}
use lib.ListN.{length}
use native.Mathlib.Nat.{zero-add, sub-zero}
use lib.Dec.{leb, ltb, eqb}
use borrow.Author.Tests.{ne_eqb}
use Rattle.definitions.specs.SheetKinds
use Rattle.definitions.specs.TranslationKinds
use Rattle.definitions.specs.Lists.{all_of}
use Rattle.definitions.specs.Records.{kind_of, field, field_count}
use Rattle.definitions.specs.References.{from_first, from_second, every_other, child_count, child_field, children, child, clauses, clause_constructor}
use Rattle.definitions.specs.Trees.{names_node}
use Rattle.laws.proofs.Records.{field_past}

-- tests over several kinds, by the comparisons passed so far
pub other_sheet_case : (k : ℕ) → k ≡ SheetKinds.case_of → true ≡ every_other k
unfolding every_other
other_sheet_case k e = rw e refl

pub other_case : (k : ℕ) → k ≡ TranslationKinds.case_of → true ≡ every_other k
unfolding every_other
other_case k e = rw e refl

pub other_select : (k : ℕ) → (k ≡ SheetKinds.case_of → ⊥) → (k ≡ TranslationKinds.case_of → ⊥) → eqb k TranslationKinds.select ≡ every_other k
unfolding every_other
other_select k e f = rw (ne_eqb k SheetKinds.case_of e, ne_eqb k TranslationKinds.case_of f) refl

pub first_sheet_if : (k : ℕ) → k ≡ SheetKinds.conditional → true ≡ from_first k
unfolding from_first every_other
first_sheet_if k e = rw e refl

pub first_if : (k : ℕ) → k ≡ TranslationKinds.conditional → true ≡ from_first k
unfolding from_first every_other
first_if k e = rw e refl

pub first_list : (k : ℕ) → k ≡ TranslationKinds.formal_list → true ≡ from_first k
unfolding from_first every_other
first_list k e = rw e refl

pub first_other : (k : ℕ) (t : Bool) → (k ≡ SheetKinds.conditional → ⊥) → (k ≡ TranslationKinds.conditional → ⊥) → (k ≡ TranslationKinds.formal_list →
    ⊥) → t ≡ every_other k → t ≡ from_first k
unfolding from_first
first_other k t e f g h = rw (ne_eqb k SheetKinds.conditional e, ne_eqb k TranslationKinds.conditional f, ne_eqb k TranslationKinds.formal_list g) h

pub second_sheet_operator : (k : ℕ) → k ≡ SheetKinds.operator → true ≡ from_second k
unfolding from_second
second_sheet_operator k e = rw e refl

pub second_call : (k : ℕ) → k ≡ SheetKinds.call → true ≡ from_second k
unfolding from_second
second_call k e = rw e refl

pub second_build : (k : ℕ) → k ≡ SheetKinds.build → true ≡ from_second k
unfolding from_second
second_build k e = rw e refl

pub second_operator : (k : ℕ) → k ≡ TranslationKinds.operator → true ≡ from_second k
unfolding from_second
second_operator k e = rw e refl

pub second_tuple : (k : ℕ) → (k ≡ SheetKinds.operator → ⊥) → (k ≡ SheetKinds.call → ⊥) → (k ≡ SheetKinds.build → ⊥) → (k ≡
    TranslationKinds.operator → ⊥) → eqb k TranslationKinds.tuple ≡ from_second k
unfolding from_second
second_tuple k e f g h = rw (ne_eqb k SheetKinds.operator e, ne_eqb k SheetKinds.call f, ne_eqb k SheetKinds.build g, ne_eqb k TranslationKinds.operator h) refl

-- how many nodes are named, by what the tests answered
module _ (k n : ℕ) (t : Bool) (et : t ≡ every_other k) where
  pub count_other : t ≡ true → n / 2 + n % 2 ≡ child_count k n
  unfolding child_count
  count_other e = rw (← et, e) (omega arith)

  module _ (ht : t ≡ false) (u : Bool) (eu : u ≡ from_first k) where
    pub count_first : u ≡ true → n ≡ child_count k n
    unfolding child_count
    count_first e = rw (← et, ht, ← eu, e) refl

    module _ (hu : u ≡ false) (v : Bool) (ev : v ≡ from_second k) where
      pub count_second : v ≡ true → n - 1 ≡ child_count k n
      unfolding child_count
      count_second e = rw (← et, ht, ← eu, hu, ← ev, e) refl

      pub count_second_none : v ≡ true → n ≤ 0 → 0 ≡ child_count k n
      unfolding child_count
      count_second_none e h = rw (← et, ht, ← eu, hu, ← ev, e) (omega arith)

      pub count_none : v ≡ false → 0 ≡ child_count k n
      unfolding child_count
      count_none e = rw (← et, ht, ← eu, hu, ← ev, e) refl

-- whether a field names a node, likewise
module _ (k i : ℕ) (t : Bool) (et : t ≡ every_other k) where
  pub named_other : t ≡ true → eqb (i % 2) 0 ≡ names_node k i
  unfolding names_node
  named_other e = rw (← et, e) refl

  module _ (ht : t ≡ false) (u : Bool) (eu : u ≡ from_first k) where
    pub named_first : u ≡ true → true ≡ names_node k i
    unfolding names_node
    named_first e = rw (← et, ht, ← eu, e) refl

    module _ (hu : u ≡ false) (v : Bool) (ev : v ≡ from_second k) where
      pub named_second : v ≡ true → leb 1 i ≡ names_node k i
      unfolding names_node
      named_second e = rw (← et, ht, ← eu, hu, ← ev, e) refl

      pub named_none : v ≡ false → false ≡ names_node k i
      unfolding names_node
      named_none e = rw (← et, ht, ← eu, hu, ← ev, e) refl

pub children_counted : (rec : List ℕ) (k n c : ℕ) → k ≡ kind_of rec → n ≡ field_count rec → c ≡ child_count k n → c ≡ children rec
unfolding children
children_counted rec k n c e f g = g ∙ rw (e, f) refl

-- the j-th node named
field_far : (k j : ℕ) → j ≤ child_field k j
unfolding child_field
field_far k j = by (every_other k) (from_first k)
  where
    by : (t u : Bool) → j ≤ cond t (2 * j) (cond u j (1 + j))
    by true u = omega arith
    by false true = omega arith
    by false false = omega arith

pub child_past : (rec : List ℕ) (j : ℕ) → length rec / 2 ≤ j → 0 ≡ child rec j
unfolding child
child_past rec j h = field_past rec (child_field (kind_of rec) j) (omega (arith, field_far (kind_of rec) j))

module _ (rec : List ℕ) (j k x : ℕ) (ek : k ≡ kind_of rec) (t : Bool) (et : t ≡ every_other k) where
  pub child_other : t ≡ true → x ≡ field rec (2 * j) → x ≡ child rec j
  unfolding child child_field
  child_other e f = rw (← ek, ← et, e) f

  pub child_first : t ≡ false → (u : Bool) → u ≡ from_first k → u ≡ true → x ≡ field rec j → x ≡ child rec j
  unfolding child child_field
  child_first e u g h f = rw (← ek, ← et, e, ← g, h) f

  pub child_second : t ≡ false → (u : Bool) → u ≡ from_first k → u ≡ false → x ≡ field rec (1 + j) → x ≡ child rec j
  unfolding child child_field
  child_second e u g h f = rw (← ek, ← et, e, ← g, h) f

-- the field of the j-th node is in the record
module _ (rec : List ℕ) {j k : ℕ} (h : j < children rec) (ek : k ≡ kind_of rec) {t : Bool} (et : t ≡ every_other k) where
  pub room_other : t ≡ true → 2 * j < field_count rec
  unfolding children child_count
  room_other e = let i : j < (field_count rec + 1) / 2 = rw (← ek, ← et, e) at h in omega arith

  module _ (ht : t ≡ false) {u : Bool} (eu : u ≡ from_first k) where
    pub room_first : u ≡ true → j < field_count rec
    unfolding children child_count
    room_first e = rw (← ek, ← et, ht, ← eu, e) at h

    pub room_second : u ≡ false → 1 + j < field_count rec
    unfolding children child_count
    room_second e = by (from_second k) (rw (← ek, ← et, ht, ← eu, e) at h)
      where
        by : (w : Bool) → j < cond w (field_count rec - 1) 0 → 1 + j < field_count rec
        by true i = omega arith
        by false i = absurd (omega arith)

-- the test of every node named, by what the tests of the kind answered
module _ (rec : List ℕ) {k : ℕ} (limit : ℕ) (ek : k ≡ kind_of rec) (v : Bool) {t : Bool} (et : t ≡ every_other k) where
  pub below_other : t ≡ true → v ≡ all_of ((field_count rec + 1) / 2) (λ j. ltb (field rec (2 * j)) limit) → v ≡ all_of (children rec) (λ j. ltb (child rec j) limit)
  unfolding children child_count child child_field
  below_other e f = rw (← ek, ← et, e) f

  module _ (ht : t ≡ false) {u : Bool} (eu : u ≡ from_first k) where
    pub below_first : u ≡ true → v ≡ all_of (field_count rec - 0) (λ j. ltb (field rec (0 + j)) limit) → v ≡ all_of (children rec) (λ j. ltb (child rec j) limit)
    unfolding children child_count child child_field
    below_first e f = rw (← ek, ← et, ht, ← eu, e) (simp (zero-add, sub-zero) at f)

    module _ (hu : u ≡ false) {w : Bool} (ew : w ≡ from_second k) where
      pub below_second : w ≡ true → v ≡ all_of (field_count rec - 1) (λ j. ltb (field rec (1 + j)) limit) → v ≡ all_of (children rec) (λ j. ltb (child rec j) limit)
      unfolding children child_count child child_field
      below_second e f = rw (← ek, ← et, ht, ← eu, hu, ← ew, e) f

      pub below_none : w ≡ false → true ≡ all_of (children rec) (λ j. ltb (child rec j) limit)
      unfolding children child_count child child_field all_of
      below_none e = rw (← ek, ← et, ht, ← eu, hu, ← ew, e) refl

-- a case's clauses
pub clauses_counted : (rec : List ℕ) (n : ℕ) → n ≡ field_count rec → n / 2 ≡ clauses rec
unfolding clauses
clauses_counted rec n e = rw e refl

pub constructor_past : (rec : List ℕ) (j : ℕ) → length rec / 2 ≤ j → 0 ≡ clause_constructor rec j
unfolding clause_constructor
constructor_past rec j h = field_past rec (1 + 2 * j) (omega arith)

pub constructor_field : (rec : List ℕ) (j x : ℕ) → x ≡ field rec (1 + 2 * j) → x ≡ clause_constructor rec j
unfolding clause_constructor
constructor_field rec j x e = e
