-- Nodes that are alike field by field are alike kind by kind.
use mathlib.Core.Path.{◌≡◌, refl, sym, ◌∙◌}
use Prim.Native.Nat.{ℕ, zero, suc, ◌+◌, ◌*◌, ◌-◌, ◌%◌, ◌<◌}
use mathlib.Core.List.{List, [], ◌∷◌, ◌++◌}
use mathlib.Core.Bool.{true, false}
use native.Mathlib.Omega.{arith}
use borrow.Author.Tests.{eq-eqb, ne_eqb, le-leb}
use Rattle.definitions.specs.Bytes.{signed, word32}
use Rattle.definitions.specs.Records.{kind_of, field, field_count}
use Rattle.definitions.specs.Lists.{listed}
use Rattle.definitions.specs.Layouts.{node_record}
use Rattle.definitions.specs.References.{every_other, from_first, from_second, clauses, clause_constructor}
use Rattle.definitions.specs.SheetKinds
use Rattle.definitions.specs.NodeFields.{Clause, clause_list, fields_from}
use Rattle.definitions.specs.SheetNodes.{SheetNode, sheet_node}
use Rattle.definitions.specs.Trees.{names_node}
use Rattle.accepted.proofs.SheetRecords.{SheetRecord, is_number, is_reading, is_parameter, is_pattern_variable, is_operator, is_conditional, is_call, is_build, is_case_law}
use Rattle.trees.specs.SameNodes.{Heads, Pairs, no_pair, pair, ClausePairs, no_clause_law, clause_pair, SameNode}
use Rattle.trees.specs.SameNodes.{same_number, same_reading, same_parameter, same_pattern, same_operator, same_conditional, same_call, same_build, same_case}

-- lists made over the first n numbers, pair by pair
pairs_more : {R : ℕ → ℕ → Type 0} {xs ys : List ℕ} {x y : ℕ} → Pairs R xs ys → R x y → Pairs R (xs ++ (x ∷ [])) (ys ++ (y ∷ []))
pairs_more no_pair r = pair r no_pair
pairs_more (pair q p) r = pair q (pairs_more p r)

pairs_listed : {R : ℕ → ℕ → Type 0} (n : ℕ) (f g : ℕ → ℕ) → ((i : ℕ) → i < n → R (f i) (g i)) → Pairs R (listed n f) (listed n g)
unfolding listed
pairs_listed zero f g h = no_pair
pairs_listed (suc n) f g h = pairs_more (pairs_listed n f g (λ i l. h i (omega arith))) (h n (omega arith))

clauses_more : {R : ℕ → ℕ → Type 0} {cs ds : List Clause} {c d : Clause} → ClausePairs R cs ds → c.constructor ≡ d.constructor → R c.node d.node
    → ClausePairs R (cs ++ (c ∷ [])) (ds ++ (d ∷ []))
clauses_more no_clause_law e r = clause_pair e r no_clause_law
clauses_more (clause_pair f q p) e r = clause_pair f q (clauses_more p e r)

clauses_listed : {R : ℕ → ℕ → Type 0} (n : ℕ) (f g : ℕ → Clause) → ((i : ℕ) → i < n → (f i).constructor ≡ (g i).constructor)
    → ((i : ℕ) → i < n → R (f i).node (g i).node)
    → ClausePairs R (listed n f) (listed n g)
unfolding listed
clauses_listed zero f g e h = no_clause_law
clauses_listed (suc n) f g e h =
    clauses_more (clauses_listed n f g (λ i l. e i (omega arith)) (λ i l. h i (omega arith))) (e n (omega arith)) (h n (omega arith))

-- which fields name nodes, by kind
module _ {k : ℕ} (i : ℕ) where
  names_nothing : k ≡ SheetKinds.number → names_node k i ≡ false
  unfolding names_node every_other from_first from_second
  names_nothing e = rw e refl

  -- from field 1 on: operator, call, build
  names_later : {n : ℕ} → k ≡ n → every_other n ≡ false → from_first n ≡ false → from_second n ≡ true → names_node k (1 + i) ≡ true
  unfolding names_node
  names_later e p q r = rw (e, p, q, r, le-leb 1 (1 + i) (omega arith)) refl

  names_branch : k ≡ SheetKinds.conditional → names_node k i ≡ true
  unfolding names_node every_other from_first from_second
  names_branch e = rw e refl

  names_even : k ≡ SheetKinds.case_of → names_node k (2 * i) ≡ true
  unfolding names_node every_other from_first from_second
  names_even e = rw (e, eq-eqb (2 * i % 2) 0 (omega arith)) refl

  names_odd : k ≡ SheetKinds.case_of → names_node k (1 + 2 * i) ≡ false
  unfolding names_node every_other from_first from_second
  names_odd e = rw (e, ne_eqb ((1 + 2 * i) % 2) 0 (λ q. omega (arith, q))) refl

signed_same : (x y : List ℕ) → field x 0 ≡ field y 0 → field x 1 ≡ field y 1 → signed x 4 ≡ signed y 4
unfolding signed word32
signed_same x y e f = rw (e, f) refl

module _ {R : ℕ → ℕ → Type 0} (a b : List ℕ) (k m : ℕ) (h : Heads R a b k m) where
  abbrev one : List ℕ
  one = node_record a k

  abbrev two : List ℕ
  two = node_record b m

  kind_of_law : {n : ℕ} → kind_of one ≡ n → kind_of two ≡ n
  kind_of_law e = sym h.kinds ∙ e

  -- the first field, of a kind whose first field names no node
  first_same : {n : ℕ} → kind_of one ≡ n → names_node n 0 ≡ false → 0 < field_count one → field one 0 ≡ field two 0
  first_same e t l = h.numbers 0 l (rw e t)

  arguments_same : ((i : ℕ) → names_node (kind_of one) (1 + i) ≡ true) → Pairs R (fields_from one 1) (fields_from two 1)
  unfolding fields_from
  arguments_same f =
      rw (← h.counts)
      (pairs_listed (field_count one - 1) (λ i. field one (1 + i)) (λ i. field two (1 + i)) (λ i l. h.parts (1 + i) (omega (arith, l)) (f i)))

  clauses_same : kind_of one ≡ SheetKinds.case_of → field_count one ≡ 1 + 2 * clauses one → ClausePairs R (clause_list one) (clause_list two)
  unfolding clause_list clauses clause_constructor
  clauses_same e c =
      let even : (j : ℕ) → names_node (kind_of one) (2 + 2 * j) ≡ true = λ j. let z : 2 * (1 + j) ≡ 2 + 2 * j = omega arith in rw z at (names_even (1 + j) e) in
      rw (← h.counts)
      (clauses_listed (clauses one)
      (λ j. record { constructor = field one (1 + 2 * j); node = field one (2 + 2 * j) })
      (λ j. record { constructor = field two (1 + 2 * j); node = field two (2 + 2 * j) })
      (λ j l. h.numbers (1 + 2 * j) (omega (arith, c, l)) (names_odd j e))
      (λ j l. h.parts (2 + 2 * j) (omega (arith, c, l)) (even j)))

  pub kind_by_kind : {nd : SheetNode} → SheetRecord one nd → SameNode R a b k m nd (sheet_node two)
  unfolding sheet_node names_node every_other from_first from_second
  kind_by_kind (is_number e c) =
      rw (kind_of_law e, signed_same one two (h.numbers 0 (omega (arith, c)) (names_nothing 0 e)) (h.numbers 1 (omega (arith, c)) (names_nothing 1 e)))
      same_number
  kind_by_kind (is_reading e c) = rw (kind_of_law e, first_same e refl (omega (arith, c))) same_reading
  kind_by_kind (is_parameter e c) = rw (kind_of_law e, first_same e refl (omega (arith, c))) (same_parameter (h.owners e))
  kind_by_kind (is_pattern_variable e c) = rw (kind_of_law e, first_same e refl (omega (arith, c))) (same_pattern (h.scrutinees e))
  kind_by_kind (is_operator e c) =
      rw (kind_of_law e, first_same e refl (omega (arith, c)))
      (same_operator (h.parts 1 (omega (arith, c)) (names_later 0 e refl refl refl)) (h.parts 2 (omega (arith, c)) (names_later 1 e refl refl refl)))
  kind_by_kind (is_conditional e c) =
      rw (kind_of_law e)
      (same_conditional (h.parts 0 (omega (arith, c)) (names_branch 0 e)) (h.parts 1 (omega (arith, c)) (names_branch 1 e))
      (h.parts 2 (omega (arith, c)) (names_branch 2 e)))
  kind_by_kind (is_call e l g) =
      rw (kind_of_law e, first_same e refl (omega (arith, l))) (same_call (arguments_same (λ i. names_later i e refl refl refl)))
  kind_by_kind (is_build e l g) =
      rw (kind_of_law e, first_same e refl (omega (arith, l))) (same_build (arguments_same (λ i. names_later i e refl refl refl)))
  kind_by_kind (is_case_law e c l g) =
      rw (kind_of_law e) (same_case (h.parts 0 (omega (arith, c)) (names_even 0 e)) (clauses_same e c))
