-- How a selection, an if and a case go on with what the visit of their operand ended with: to a visit, or to an end.
use mathlib.Core.Path.{◌≡◌, refl, ◌∙◌}
use Prim.Native.Nat.{ℕ, zero, suc, ◌+◌, ◌*◌, ◌-◌, ◌≤◌, ◌<◌}
use mathlib.Core.List.{List}
use mathlib.Core.Option.{none, some}
use mathlib.Core.Bool.{cond}
use native.Mathlib.Numerals.{sub-one}
use lib.IntN.{ℤ, pos}
use lib.ListN.{length, get_or, get_elem?}
use lib.Dec.{ltb}
use Rattle.std.specs.Prelude.{Ok, Err, Some, None}
use Rattle.definitions.specs.Sizes.{most_nodes}
use Rattle.definitions.specs.Numbers.{no_clause, no_field}
use Rattle.definitions.specs.Bytes.{word}
use Rattle.definitions.specs.Records.{field}
use Rattle.definitions.specs.Operators.{is_zero}
use Rattle.definitions.specs.NodeFields.{fields_from, chosen}
use Rattle.definitions.specs.Layouts.{nodes, node_record}
use Rattle.definitions.specs.TranslationKinds as kinds
use Rattle.definitions.specs.TranslationNodes.{tag_of, tuple_fields}
use Rattle.definitions.specs.Rule as Rule
use Rattle.definitions.specs.Rule.{Ending, Visit, reach, value, integer, constructor, ended, number_due, constructor_due, node_due, selected}
use Rattle.lent_rule.specs.Lent.{Lent}
use Rattle.lent_rule.specs.Standing.{TupleAt, Inside}
use Rattle.run.specs.NodeTable.{first_part, second_part, third_part}
use Rattle.run.specs.Packed.{Outcome, outcome_in}
use Rattle.run.specs.States.{Found, below, above, ending_of, found_of, found_in, clauses_at}
use Rattle.run.specs.GoingOn.{goes_on, next_reached, OperandKnown, GoesOn}
use Rattle.run.proofs.Endings.{number_of, constructor_of, number_misses, constructor_misses, node_missing, node_there}
use Rattle.run.proofs.EntryReads.{plain_select, plain_conditional, second_read, third_read, tag_read, member_room, member_read, clause_read, entry_room}
use Rattle.run.proofs.Nodes.{branch_child, member_child, clause_child}

-- to an end, and to the visit of a node
module _ {b : List ℕ} {at kind : ℕ} {e : Ending ℕ} where
  pub to_end : {y : ℕ} → ((visit : Visit ℕ Lent) (s : Rule.State Lent) → goes_on b at e visit s kind ≡ reach (ending_of (outcome_in y)) s)
      → GoesOn b at kind e (Err y)
  unfolding next_reached
  to_end h = record { same = h; there = λ q. cc; written = λ q i l. cc }

  pub to_visit : {p k w : ℕ} → (below p ≡ k) × (above p ≡ w)
      → ((visit : Visit ℕ Lent) (s : Rule.State Lent) → goes_on b at e visit s kind ≡ visit k w s)
      → k < nodes b → ((most : ℕ) → Inside b most e → above at ≤ most → w ≤ most) → GoesOn b at kind e (Ok p)
  unfolding next_reached
  to_visit {p} {k} {w} q h n i =
      record {
        same = λ visit s. rw (q.0, q.1) (h visit s);
        there = λ {p = r} f. let z : r ≡ p = cc in rw (z, q.0) n;
        written = λ {p = r} {most} f u l. let z : r ≡ p = cc in rw (z, q.1) (i most u l);
      }

-- the tuple that an operand gave
module _ {b tab : List ℕ} {at kind m u : ℕ} (q : OperandKnown b tab at kind (value (constructor m u))) where
  tuple_known : TupleAt b m
  tuple_known = q.inside.0

  pub tuple_room : m < most_nodes
  tuple_room = entry_room q.equipped tuple_known.below

  pub fields_room : {e s c : ℕ} → e ≡ get_or tab m 0 → s ≡ second_part e → c ≡ third_part e → s + 4 + 2 * c ≤ length b
  fields_room f es ec = member_room q.equipped tuple_known f es ec

selects_tag : (b : List ℕ) (visit : Visit ℕ Lent) (i m u tag : ℕ) (s : Rule.State Lent) → i ≡ 0 → tag ≡ field (node_record b m) 0
    → selected b visit i m u s ≡ reach (value (integer (pos tag))) s
unfolding selected tag_of
selects_tag b visit i m u tag s z e = rw (z, e) refl

selects_field : (b : List ℕ) (visit : Visit ℕ Lent) (i m u : ℕ) (s : Rule.State Lent) → (i ≡ 0 → ⊥)
    → selected b visit i m u s ≡ node_due (get_elem? (fields_from (node_record b m) 1) (i - 1)) no_field s (λ k. visit k u s)
unfolding selected tuple_fields
selects_field b visit zero m u s z = absurd (z refl)
selects_field b visit (suc i) m u s z = rw (sub-one (suc i)) refl

-- a selection: at index 0 the tag, and else the field that it counts from 1, under the tuple's own context
pub select_misses : {b : List ℕ} {at y : ℕ} {e : Ending ℕ} → Err (ending_of (outcome_in y)) ≡ constructor_of e → GoesOn b at kinds.select e (Err y)
unfolding goes_on
select_misses h = to_end (λ visit s. constructor_misses _ s _ h)

module _ {b tab : List ℕ} {at m u n i e : ℕ} (q : OperandKnown b tab at kinds.select (value (constructor m u))) (en : n ≡ get_or tab (below at) 0)
    (ei : i ≡ second_part n) (ee : e ≡ get_or tab m 0) where
  pub select_tag : {y tag : ℕ} {o : Outcome} → i ≡ 0 → tag ≡ first_part e → outcome_in y ≡ o → ending_of o ≡ value (integer (pos tag))
      → GoesOn b at kinds.select (value (constructor m u)) (Err y)
  unfolding goes_on constructor_due
  select_tag z et ey eo =
      let tag = tag_read q.equipped (tuple_known q) ee et in
      let index = second_read q.equipped q.node en plain_select ei in
      to_end (λ visit s. rw (← index, ey, eo) (selects_tag b visit i m u _ s z tag))

  module _ {s c : ℕ} (o : Found) (z : i ≡ 0 → ⊥) (es : s ≡ second_part e) (ec : c ≡ third_part e)
      (eo : found_of o ≡ cond (ltb i c) (some (word b (s + 4 + 2 * i))) none) where
    field_sought : (visit : Visit ℕ Lent) (r : Rule.State Lent) → goes_on b at (value (constructor m u)) visit r kinds.select
        ≡ node_due (found_of o) no_field r (λ k. visit k u r)
    unfolding goes_on constructor_due
    field_sought visit r =
        let index = second_read q.equipped q.node en plain_select ei in
        let found = member_read q.equipped (tuple_known q) ee es ec _ _ z eo in
        rw (← index, found) (selects_field b visit i m u r z)

    pub field_found : {k p : ℕ} → o ≡ Some k → (below p ≡ k) × (above p ≡ u) → GoesOn b at kinds.select (value (constructor m u)) (Ok p)
    field_found h f =
        let found = member_read q.equipped (tuple_known q) ee es ec _ _ z eo in
        to_visit f (λ visit r. field_sought visit r ∙ node_there no_field r _ h) (member_child _ q.equipped.accepted (tuple_known q) found h)
        (λ most i l. i.1)

    pub field_missed : {y : ℕ} {w : Outcome} → o ≡ None → outcome_in y ≡ w → ending_of w ≡ ended no_field
        → GoesOn b at kinds.select (value (constructor m u)) (Err y)
    field_missed h ey ew = to_end (λ visit r. field_sought visit r ∙ node_missing no_field r _ h ∙ rw (ey, ew) refl)

-- a case: the first clause with the tag, under the case's context
pub case_misses : {b : List ℕ} {at y : ℕ} {e : Ending ℕ} → Err (ending_of (outcome_in y)) ≡ constructor_of e → GoesOn b at kinds.case_of e (Err y)
unfolding goes_on
case_misses h = to_end (λ visit s. constructor_misses _ s _ h)

module _ {b tab : List ℕ} {at m u n tag e s c : ℕ} (q : OperandKnown b tab at kinds.case_of (value (constructor m u))) (p : ℕ) (o : Found)
    (en : n ≡ get_or tab m 0) (et : tag ≡ first_part n) (ee : e ≡ get_or tab (below at) 0) (es : s ≡ second_part e) (ec : c ≡ third_part e)
    (ep : (found_in b p ≡ chosen (clauses_at b s c) tag) × (p + 2 ≤ length b)) (eo : found_of o ≡ found_in b p) where
  clause_sought : (visit : Visit ℕ Lent) (r : Rule.State Lent) → goes_on b at (value (constructor m u)) visit r kinds.case_of
      ≡ node_due (found_of o) no_clause r (λ k. visit k (above at) r)
  unfolding goes_on constructor_due tag_of
  clause_sought visit r =
      rw (clause_read q.equipped q.node ee es ec _ p _ ep eo, tag_read q.equipped (tuple_known q) en et) refl

  pub clause_found : {k y : ℕ} → o ≡ Some k → (below y ≡ k) × (above y ≡ above at) → GoesOn b at kinds.case_of (value (constructor m u)) (Ok y)
  clause_found h f =
      to_visit f (λ visit r. clause_sought visit r ∙ node_there no_clause r _ h)
      (clause_child q.equipped.accepted _ q.node (clause_read q.equipped q.node ee es ec _ p _ ep eo) h) (λ most i l. l)

  pub clause_missed : {y : ℕ} {w : Outcome} → o ≡ None → outcome_in y ≡ w → ending_of w ≡ ended no_clause
      → GoesOn b at kinds.case_of (value (constructor m u)) (Err y)
  clause_missed h ey ew = to_end (λ visit r. clause_sought visit r ∙ node_missing no_clause r _ h ∙ rw (ey, ew) refl)

-- an if: nonzero takes the second node, zero the third
pub branch_misses : {b : List ℕ} {at y : ℕ} {e : Ending ℕ} → Err (ending_of (outcome_in y)) ≡ number_of e → GoesOn b at kinds.conditional e (Err y)
unfolding goes_on
branch_misses h = to_end (λ visit s. number_misses _ s _ h)

pub branch_goes : {b tab : List ℕ} {at e k second third p : ℕ} {z y : ℤ} → OperandKnown b tab at kinds.conditional (value (integer z)) → y ≡ z
    → e ≡ get_or tab (below at) 0 → second ≡ second_part e → third ≡ third_part e → k ≡ cond (is_zero y) third second
    → (below p ≡ k) × (above p ≡ above at) → GoesOn b at kinds.conditional (value (integer z)) (Ok p)
unfolding goes_on number_due
branch_goes {b} {at = at} {k = k} {z = z} q ey ee es et ek ep =
    let f : k ≡ cond (is_zero z) (field (node_record b (below at)) 2) (field (node_record b (below at)) 1) =
    ek ∙ rw (ey, second_read q.equipped q.node ee plain_conditional es, third_read q.equipped q.node ee plain_conditional et) refl in
    to_visit ep (λ visit s. rw f refl) (branch_child q.equipped.accepted z q.node f) (λ most i l. l)
