-- A visit that is not stopped is a visit of the labels that its context stands for, with the same end: for all contexts whose two
-- places that look at them do so.
use mathlib.Core.Path.{◌≡◌, refl, sym, ◌∙◌}
use Prim.Native.Nat.{ℕ, zero, suc}
use mathlib.Core.List.{List}
use mathlib.Core.Option.{Option, none, some}
use mathlib.Core.Bool.{true, false, cond, true≢false}
use lib.IntN.{ℤ}
use lib.ListN.{get_elem?}
use Rattle.definitions.specs.Numbers.{no_field, no_clause, is_stop}
use Rattle.definitions.specs.Ranges.{within}
use Rattle.definitions.specs.Operators.{computed, is_zero}
use Rattle.definitions.specs.NodeFields.{Clause, chosen}
use Rattle.definitions.specs.TranslationNodes.{TranslationNode, number, reading, formal, select, operator, conditional, call, tuple, case_of, translation_node_of, tag_of, tuple_fields}
use Rattle.definitions.specs.Rule.{Ending, value, ended, integer, constructor, State, Reached, Contexts, reach, with_step}
use Rattle.definitions.specs.Rule.{number_due, constructor_due, node_due, selected, evaluated, visited}
use Rattle.accepted.specs.Mention as Mention
use Rattle.rule_laws.specs.Derivations.{Trace, Derivation, NotNumber, constructor_came, ended_before, NotConstructor, number_came, ended_first}
use Rattle.rule_laws.specs.Derivations.{number_itself, reading_value, tuple_itself}
use Rattle.rule_laws.specs.Derivations.{select_tag, select_field, select_beyond, select_fails, case_chosen, case_unmatched}
use Rattle.rule_laws.specs.Derivations.{case_fails, if_chosen, if_fails, operator_numbers, left_fails, right_fails}
use Rattle.rule_laws.specs.Reads.{state_of, Reads, Shows, an_integer, a_constructor, an_end, Arrives}
use Rattle.rule_laws.specs.Found.{stopped, Comes, Found, Finding, FindingHooks}
use Rattle.rule_laws.proofs.Mentions.{branch_mentioned, clause_mentioned}
use Rattle.rule_laws.proofs.Arrivals.{arrives_alone, arrives_after, arrives_both, arrives_ended, arrives_integer, arrives_result}

-- what is due is not stopped, so what it is due from is not
module _ {C S : Type 0} where
  number_not_stopped : (d : Ending C) (u : State S) (go : ℤ → State S → Reached C S) → stopped (number_due d u go).ending ≡ false → stopped d ≡ false
  unfolding number_due reach
  number_not_stopped (value v) u go h = refl
  number_not_stopped (ended n) u go h = h

  constructor_not_stopped : (d : Ending C) (u : State S) (go : ℕ → C → State S → Reached C S) → stopped (constructor_due d u go).ending ≡ false → stopped d ≡ false
  unfolding constructor_due reach
  constructor_not_stopped (value v) u go h = refl
  constructor_not_stopped (ended n) u go h = h

module _ {t : List ℕ} {C S : Type 0} (R : Reads t C S) (rs : List ℤ) where
  open R use {At, at_mentioned, Built, built_tuple, built_field_law, at_went}

  -- a visit of labels that arrives is found
  pub found : {nd : TranslationNode} {k n : ℕ} {ws : List ℕ} {s : State S} {r : Reached C S} {a : Trace} {e : Ending (List ℕ)}
      → Derivation t rs nd k ws a e → Arrives R n s a e r → Found R rs nd k ws n s r
  found {a} {e} v f = record { ending = e; comes = record { trace = a; visits = v; arrives = f } }

  -- where a number or a constructor is due of a node's visit, by what came
  module _ {nd td : TranslationNode} {k j n i : ℕ} {ws us : List ℕ} {s q : State S} {r : Reached C S} where
    by_number : {d : Ending C} {e : Ending (List ℕ)} (go : ℤ → State S → Reached C S) → Shows (Built r.state.store) d e → Comes R rs td j us n s r e
        → ((z : ℤ) → Comes R rs td j us n s r (value (integer z)) → stopped (go z r.state).ending ≡ false → Found R rs nd k ws i q (go z r.state))
        → ((y : ℕ) → NotNumber e y → Found R rs nd k ws i q (reach (ended y) r.state))
        → stopped (number_due d r.state go).ending ≡ false
        → Found R rs nd k ws i q (number_due d r.state go)
    unfolding number_due
    by_number go (an_integer {z}) c on fails h = on z c h
    by_number go (a_constructor b) c on fails h = fails _ constructor_came
    by_number go an_end c on fails h = fails _ ended_before

    by_constructor : {d : Ending C} {e : Ending (List ℕ)} (go : ℕ → C → State S → Reached C S) → Shows (Built r.state.store) d e → Comes R rs td j us n s r e
        → ((m : ℕ) (v : C) (vs : List ℕ) → Built r.state.store m v vs → Comes R rs td j us n s r (value (constructor m vs))
        → stopped (go m v r.state).ending ≡ false → Found R rs nd k ws i q (go m v r.state))
        → ((y : ℕ) → NotConstructor e y → Found R rs nd k ws i q (reach (ended y) r.state))
        → stopped (constructor_due d r.state go).ending ≡ false
        → Found R rs nd k ws i q (constructor_due d r.state go)
    unfolding constructor_due
    by_constructor go an_integer c on fails h = fails _ number_came
    by_constructor go (a_constructor {k = m} {w = v} {ws = vs} b) c on fails h = on m v vs b c h
    by_constructor go an_end c on fails h = fails _ ended_first

  module _ (M : Contexts C S) (hooks : FindingHooks R rs M) where
    -- one node, where the visits of the nodes that it asks for are found
    module _ (n : ℕ) (ih : Finding R rs n (visited M t rs n)) (k left : ℕ) (m : S) where
      -- what comes after the first node of a select and of a case
      module _ {x j : ℕ} {ws vs : List ℕ} {r : Reached C S} (c : Comes R rs (translation_node_of t x) x ws n (state_of left m) r (value (constructor j vs))) where
        field_found : (i : ℕ) (v : C) (o : Option ℕ) → get_elem? (tuple_fields t j) i ≡ o → Built r.state.store j v vs
            → stopped (node_due o no_field r.state (λ y. visited M t rs n y v r.state)).ending ≡ false
            → Found R rs (select x (suc i)) k ws (suc n) (state_of (suc left) m) (node_due o no_field r.state (λ y. visited M t rs n y v r.state))
        unfolding node_due
        field_found i v none e b h = found (select_beyond c.visits e) (arrives_after R (arrives_ended R c.arrives))
        field_found i v (some y) e b h =
            let g = (ih.finds y v r.state (built_field_law i e b) h).comes in
            found (select_field c.visits e g.visits) (arrives_both R c.arrives g.arrives)

        selected_found : (i : ℕ) (v : C) → Built r.state.store j v vs → stopped (selected t (visited M t rs n) i j v r.state).ending ≡ false
            → Found R rs (select x i) k ws (suc n) (state_of (suc left) m) (selected t (visited M t rs n) i j v r.state)
        unfolding selected
        selected_found zero v b h = found (select_tag c.visits) (arrives_after R (arrives_integer R c.arrives))
        selected_found (suc i) v b h = field_found i v (get_elem? (tuple_fields t j) i) refl b h

        clause_found : (cs : List Clause) (w : C) (o : Option ℕ) → chosen cs (tag_of t j) ≡ o
            → translation_node_of t k ≡ case_of x cs → At r.state.store k w ws
            → stopped (node_due o no_clause r.state (λ y. visited M t rs n y w r.state)).ending ≡ false
            → Found R rs (case_of x cs) k ws (suc n) (state_of (suc left) m) (node_due o no_clause r.state (λ y. visited M t rs n y w r.state))
        unfolding node_due
        clause_found cs w none e p a h = found (case_unmatched c.visits e) (arrives_after R (arrives_ended R c.arrives))
        clause_found cs w (some y) e p a h =
            let g = (ih.finds y w r.state (at_mentioned p (clause_mentioned cs (tag_of t j) e) a) h).comes in
            found (case_chosen c.visits e g.visits) (arrives_both R c.arrives g.arrives)

      -- by the kind of node
      evaluated_found : (nd : TranslationNode) (w : C) {ws : List ℕ} → translation_node_of t k ≡ nd → At m k w ws
          → stopped (evaluated M t rs (visited M t rs n) nd k w (state_of left m)).ending ≡ false
          → Found R rs nd k ws (suc n) (state_of (suc left) m) (evaluated M t rs (visited M t rs n) nd k w (state_of left m))
      unfolding evaluated
      evaluated_found (number z) w e a h = found number_itself (arrives_alone R k a an_integer)
      evaluated_found (reading i) w e a h = found reading_value (arrives_alone R k a an_integer)
      evaluated_found (tuple x ns) w e a h = found tuple_itself (arrives_alone R k a (a_constructor (built_tuple e a)))
      evaluated_found (formal p) w e a h = hooks.formal_found n ih k p left w m e a h
      evaluated_found (call l f) w e a h = hooks.call_found n ih k l f left w m e a h
      evaluated_found (select x i) w e a h =
          let g = (ih.finds x w (state_of left m) (at_mentioned e Mention.selected a) (constructor_not_stopped _ _ _ h)).comes in
          by_constructor _ g.arrives.shows g
          (λ j v vs b c y. selected_found c i v b y)
          (λ y z. found (select_fails g.visits z) (arrives_after R (arrives_ended R g.arrives))) h
      evaluated_found (case_of x cs) w e a h =
          let g = (ih.finds x w (state_of left m) (at_mentioned e Mention.scrutinee a) (constructor_not_stopped _ _ _ h)).comes in
          by_constructor _ g.arrives.shows g
          (λ j v vs b c y. clause_found c cs w (chosen cs (tag_of t j)) refl e (at_went c.arrives.went a) y)
          (λ y z. found (case_fails g.visits z) (arrives_after R (arrives_ended R g.arrives))) h
      evaluated_found (conditional x p q) w e a h =
          let g = (ih.finds x w (state_of left m) (at_mentioned e Mention.condition a) (number_not_stopped _ _ _ h)).comes in
          by_number _ g.arrives.shows g
          (λ z c y.
          let d = (ih.finds (cond (is_zero z) q p) w _ (at_mentioned e (branch_mentioned (is_zero z)) (at_went c.arrives.went a)) y).comes in
          found (if_chosen c.visits d.visits) (arrives_both R c.arrives d.arrives))
          (λ y z. found (if_fails g.visits z) (arrives_after R (arrives_ended R g.arrives))) h
      evaluated_found (operator o x y) w e a h =
          let g = (ih.finds x w (state_of left m) (at_mentioned e Mention.left a) (number_not_stopped _ _ _ h)).comes in
          by_number _ g.arrives.shows g
          (λ z c i.
          let d = (ih.finds y w _ (at_mentioned e Mention.right (at_went c.arrives.went a)) (number_not_stopped _ _ _ i)).comes in
          by_number _ d.arrives.shows d
          (λ u b j. found (operator_numbers c.visits b.visits) (arrives_both R c.arrives (arrives_result R (computed o z u) b.arrives)))
          (λ u b. found (right_fails c.visits d.visits b) (arrives_both R c.arrives (arrives_ended R d.arrives))) i)
          (λ z i. found (left_fails g.visits i) (arrives_after R (arrives_ended R g.arrives))) h

    -- a step counted, or none left, or no visit that may be opened
    stepped : (n k left : ℕ) (w : C) (m : S) {ws : List ℕ} → Finding R rs n (visited M t rs n) → At m k w ws
        → stopped (visited M t rs (suc n) k w (state_of left m)).ending ≡ false
        → Found R rs (translation_node_of t k) k ws (suc n) (state_of left m) (visited M t rs (suc n) k w (state_of left m))
    unfolding visited with_step is_stop within reach
    stepped n k zero w m ih a h = absurd (true≢false h)
    stepped n k (suc left) w m ih a h = evaluated_found n ih k left m (translation_node_of t k) w refl a h

    unopened : (k left : ℕ) (w : C) (m : S) → stopped (visited M t rs zero k w (state_of left m)).ending ≡ true
    unfolding visited with_step is_stop within reach
    unopened k zero w m = refl
    unopened k (suc left) w m = refl

    -- every visit that is not stopped is found
    pub visits_found : (n : ℕ) → Finding R rs n (visited M t rs n)
    visits_found zero = record { finds = λ k w s a h. absurd (true≢false (sym (unopened k s.left w s.store) ∙ h)) }
    visits_found (suc n) = record { finds = λ k w s a h. stepped n k s.left w s.store (visits_found n) a h }
