-- Laws of the table of clauses: a node that is no body has a larger parent, so the table is filled from the last node on.
use mathlib.Core.Path.{◌≡◌, refl, sym, ap, ◌∙◌}
use Prim.Native.Nat.{ℕ, zero, suc, ◌+◌, ◌-◌, ◌≤◌, ◌<◌}
use mathlib.Core.List.{List}
use mathlib.Core.Option.{Option, none, some, some-injective, none-ne-some}
use mathlib.Core.Bool.{Bool, true, false, cond, not}
use native.Mathlib.Omega.{arith}
use native.Mathlib.Numerals.{sub-one}
use lib.Dec.{eqb}
use Rattle.definitions.specs.SheetKinds
use borrow.Author.Tests.{eqb-true, eqb-false, eq-eqb, ne_eqb, not-true}
use Rattle.definitions.specs.Records.{kind_of}
use Rattle.definitions.specs.Lists.{count_of, last_of}
use Rattle.definitions.specs.Verdicts.{◌and_then◌, first_of}
use Rattle.definitions.specs.Layouts.{items, nodes, due, node_record}
use Rattle.definitions.specs.References.{children, child, clauses, clause_constructor, references}
use Rattle.definitions.specs.SheetRules.{arguments, times_child, is_body, tree, parent_of, clause_of, clause_within}
use Rattle.definitions.specs.Verdict.{Accepted}
use Rattle.accepted.proofs.Sums.{sum_found}
use Rattle.accepted.proofs.Counts.{count_found, last_found}
use Rattle.sheet_rules.specs.Clauses.{entry_of}
use Rattle.sheet_rules.proofs.PassedRules.{once_child, child_smaller, clause_constructor_below}

-- the clause of a case's record that node k is, from the last clause on
clause_here : (rec : List ℕ) (k j x y : ℕ) → 0 < j → x ≡ child rec j → x ≡ k → y ≡ clause_constructor rec (j - 1) → 1 + y ≡ entry_of (clause_of rec j k)
unfolding clause_of entry_of
clause_here rec k zero x y h e f g = absurd (omega arith)
clause_here rec k (suc j) x y h e f g = rw (eq-eqb (child rec (suc j)) k (sym e ∙ f), g, sub-one) refl

clause_before : (rec : List ℕ) (k j x : ℕ) → 0 < j → x ≡ child rec j → (x ≡ k → ⊥) → clause_of rec j k ≡ clause_of rec (j - 1) k
unfolding clause_of
clause_before rec k zero x h e f = absurd (omega arith)
clause_before rec k (suc j) x h e f = rw (ne_eqb (child rec (suc j)) k (λ q. f (e ∙ q)), sub-one) refl

clause_none : (rec : List ℕ) (k j : ℕ) → j ≤ 0 → 0 ≡ entry_of (clause_of rec j k)
unfolding clause_of entry_of
clause_none rec k zero h = refl
clause_none rec k (suc j) h = absurd (omega arith)

-- the clauses from clause j on are not node k
pub record ClauseLeft (rec : List ℕ) (k j : ℕ) : Type 0 where
  pub same : clause_of rec (clauses rec) k ≡ clause_of rec j k

pub clause_left_all : {rec : List ℕ} {k j : ℕ} → j ≡ clauses rec → ClauseLeft rec k j
clause_left_all e = record { same = rw e refl }

pub clause_left_fewer : {rec : List ℕ} {k j x : ℕ} → ClauseLeft rec k j → 0 < j → x ≡ child rec (j - 1 + 1) → (x ≡ k → ⊥) → ClauseLeft rec k (j - 1)
clause_left_fewer {rec} {k} {j} {x} w h e f =
    let q : j - 1 + 1 ≡ j = omega (arith, h) in
    record { same = w.same ∙ clause_before rec k j x h (rw q at e) f }

pub clause_found : {rec : List ℕ} {k j x y : ℕ} → ClauseLeft rec k j → 0 < j → x ≡ child rec (j - 1 + 1) → x ≡ k → y ≡ clause_constructor rec (j - 1)
    → 1 + y ≡ entry_of (clause_of rec (clauses rec) k)
clause_found {rec} {k} {j} {x} {y} w h e f g =
    let q : j - 1 + 1 ≡ j = omega (arith, h) in
    clause_here rec k j x y h (rw q at e) f g ∙ ap entry_of (sym w.same)

pub clause_not_found : {rec : List ℕ} {k j : ℕ} → ClauseLeft rec k j → j ≤ 0 → 0 ≡ entry_of (clause_of rec (clauses rec) k)
clause_not_found {rec} {k} {j} w h = clause_none rec k j h ∙ ap entry_of (sym w.same)

module _ (b : List ℕ) (accepted : first_of (nodes b) (tree b) ≡ Accepted) where
  -- how often node k is a child of node p
  times : ℕ → ℕ → ℕ
  times k p = count_of (children (node_record b p)) (λ j. eqb (child (node_record b p) j) k)

  parent_larger : (k p : ℕ) → p < nodes b → 0 < times k p → k < p
  unfolding times
  parent_larger k p h q =
      let w = count_found (children (node_record b p)) (λ j. eqb (child (node_record b p) j) k) q in
      let is = eqb-true (child (node_record b p) w.at) k w.holds in
      child_smaller b accepted p k h (record { place = w.at; there = record { below = w.below; is = is } })

  -- the parent of a node that is no body
  pub parent_above : (k : ℕ) → k < nodes b → is_body b k ≡ false → (k < parent_of b k) × (parent_of b k < nodes b)
  unfolding parent_of times_child times
  parent_above k h e =
      let w = sum_found (nodes b) (times k) (omega (arith, once_child b accepted k h e)) in
      let test : ℕ → Bool = λ p. not (eqb (times k p) 0) in
      let found = last_found (nodes b) w.at test w.below (rw (ne_eqb (times k w.at) 0 (λ q. omega (arith, q, w.holds))) refl) in
      let some_child : 0 < times k (last_of (nodes b) test) =
      omega (arith, eqb-false (times k (last_of (nodes b) test)) 0 (not-true _ found.1)) in
      (parent_larger k (last_of (nodes b) test) found.0 some_child, found.0)

  -- looking further up than there are nodes finds nothing more
  by_parent : (k : ℕ) (x y : Option ℕ) (t u : Bool) → is_body b k ≡ t → (is_body b k ≡ false → x ≡ y)
      → cond t none (cond u (clause_of (node_record b (parent_of b k)) (clauses (node_record b (parent_of b k))) k) x)
      ≡ cond t none (cond u (clause_of (node_record b (parent_of b k)) (clauses (node_record b (parent_of b k))) k) y)
  by_parent k x y true u e f = refl
  by_parent k x y false true e f = refl
  by_parent k x y false false e f = f e

  pub within_stable : (d e k : ℕ) → nodes b ≤ k + d → nodes b ≤ k + e → k < nodes b → clause_within b d k ≡ clause_within b e k
  unfolding clause_within
  within_stable zero e k h i l = absurd (omega arith)
  within_stable (suc d) zero k h i l = absurd (omega arith)
  within_stable (suc d) (suc e) k h i l =
      by_parent k (clause_within b d (parent_of b k)) (clause_within b e (parent_of b k)) (is_body b k) (eqb (kind_of (node_record b (parent_of b k))) SheetKinds.case_of) refl
      (λ q. let p = parent_above k l q in within_stable d e (parent_of b k) (omega (arith, h, p.0)) (omega (arith, i, p.0)) p.1)

  -- the entry of node k, from its parent's
  whole_depth : (k : ℕ) → k < nodes b → clause_within b (nodes b) k ≡ clause_within b (suc (nodes b)) k
  whole_depth k h = within_stable (nodes b) (suc (nodes b)) k (omega arith) (omega arith) h

  pub entry_of_body : (k : ℕ) (t : Bool) → k < nodes b → t ≡ is_body b k → t ≡ true → 0 ≡ entry_of (clause_within b (nodes b) k)
  unfolding clause_within entry_of
  entry_of_body k t h e f = rw (whole_depth k h, ← e, f) refl

  module _ (k : ℕ) (h : k < nodes b) (t : Bool) (et : t ≡ is_body b k) (ht : t ≡ false) (p : ℕ) (ep : p ≡ parent_of b k) (rec : List ℕ) (er : rec ≡ node_record b p)
      (i : ℕ) (ei : i ≡ kind_of rec) where
    pub entry_of_clause : (x : ℕ) → i ≡ SheetKinds.case_of → x ≡ entry_of (clause_of rec (clauses rec) k) → x ≡ entry_of (clause_within b (nodes b) k)
    unfolding clause_within
    entry_of_clause x e f = rw (whole_depth k h, ← et, ht, ← ep, ← er, ← ei, e) f

    pub entry_of_parent : (x : ℕ) → (i ≡ SheetKinds.case_of → ⊥) → x ≡ entry_of (clause_within b (nodes b) p) → x ≡ entry_of (clause_within b (nodes b) k)
    unfolding clause_within
    entry_of_parent x e f = rw (whole_depth k h, ← et, ht, ← ep, ← er, ← ei, ne_eqb i SheetKinds.case_of e) f

-- a clause's constructor is one of the record's
found_below : (rec : List ℕ) (k n m c : ℕ) (t : Bool) (rest : Option ℕ) → clause_constructor rec n < m → (rest ≡ some c → c < m)
    → cond t (some (clause_constructor rec n)) rest ≡ some c → c < m
found_below rec k n m c true rest h f e = omega (arith, h, some-injective (clause_constructor rec n) c e)
found_below rec k n m c false rest h f e = f e

clause_of_below : (rec : List ℕ) (k n m c : ℕ) → ((j : ℕ) → j < n → clause_constructor rec j < m) → clause_of rec n k ≡ some c → c < m
unfolding clause_of
clause_of_below rec k zero m c h e = absurd (none-ne-some c e)
clause_of_below rec k (suc n) m c h e =
    found_below rec k n m c (eqb (child rec (suc n)) k) (clause_of rec n k) (h n (omega arith)) (clause_of_below rec k n m c (λ j l. h j (omega arith))) e

module _ (b : List ℕ) (accepted : first_of (nodes b) (tree b) ≡ Accepted)
    (named : first_of (due b) (λ r. references b r and_then arguments b r) ≡ Accepted) where
  held_below : (k d c : ℕ) (t u : Bool) → is_body b k ≡ t → eqb (kind_of (node_record b (parent_of b k))) SheetKinds.case_of ≡ u → k < nodes b
      → (parent_of b k < nodes b → clause_within b d (parent_of b k) ≡ some c → c < items b)
      → cond t none (cond u (clause_of (node_record b (parent_of b k)) (clauses (node_record b (parent_of b k))) k) (clause_within b d (parent_of b k))) ≡ some c → c < items b
  held_below k d c true u e f h g q = absurd (none-ne-some c q)
  held_below k d c false true e f h g q =
      clause_of_below (node_record b (parent_of b k)) k (clauses (node_record b (parent_of b k))) (items b) c
      (clause_constructor_below b named (parent_of b k) (parent_above b accepted k h e).1 (eqb-true (kind_of (node_record b (parent_of b k))) SheetKinds.case_of f)) q
  held_below k d c false false e f h g q = g (parent_above b accepted k h e).1 q

  pub within_below : (d k c : ℕ) → k < nodes b → clause_within b d k ≡ some c → c < items b
  unfolding clause_within
  within_below zero k c h e = absurd (none-ne-some c e)
  within_below (suc d) k c h e =
      held_below k d c (is_body b k) (eqb (kind_of (node_record b (parent_of b k))) SheetKinds.case_of) refl refl h (λ l q. within_below d (parent_of b k) c l q) e
