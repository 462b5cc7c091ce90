-- Every visit keeps what its two places that look at contexts keep.
use mathlib.Core.Path.{◌≡◌, refl}
use Prim.Native.Nat.{ℕ, zero, suc, ◌≤◌}
use mathlib.Core.List.{List}
use mathlib.Core.Option.{Option, none, some}
use mathlib.Core.Bool.{true, false}
use native.Mathlib.Omega.{arith}
use lib.IntN.{ℤ}
use lib.ListN.{get_elem?}
use Rattle.definitions.specs.Numbers.{no_step, no_nesting, no_field, no_clause, number_wanted, constructor_wanted, is_stop, is_fault}
use Rattle.definitions.specs.Ranges.{within}
use Rattle.definitions.specs.Operators.{Computed, gives, is_zero}
use Rattle.definitions.specs.NodeFields.{chosen}
use Rattle.definitions.specs.TranslationNodes.{TranslationNode, number, reading, formal, select, operator, conditional, call, tuple, case_of, translation_node_of, tag_of, tuple_fields}
use Rattle.definitions.specs.Rule.{Ending, ended, State, Reached, Visit, Contexts, reach, with_step, number_due, constructor_due, node_due, result_of, selected, evaluated, visited}
use Rattle.accepted.specs.Mention as Mention
use Rattle.rule_laws.specs.Reads.{is_value}
use Rattle.rule_laws.specs.Keeps.{Keeps, Proper, an_integer, a_constructor, an_end, Kept, Keeping, KeepingHooks}
use Rattle.rule_laws.proofs.Mentions.{branch_mentioned, clause_mentioned}
use Rattle.rule_laws.proofs.Computing.{Result, a_number, out_of_range, no_divisor, computed_result}

module _ {t : List ℕ} {rs : List ℤ} {C S : Type 0} (K : Keeps t rs C S) where
  open K use {Becomes, stays, onward, At, at_onward, at_mentioned, Built, built_tuple, built_field_law, Number, number_literal, number_reading, number_tag, number_computed, stop_ends, fault_ends}

  -- an end where the visit is
  pub kept_here : (s : State S) {e : Ending C} → Proper K s.store e → Kept K s (reach e s)
  unfolding reach
  kept_here s p = record { falls = omega arith; becomes = stays s.store; proper = p }

  pub kept_stop : (s : State S) (n : ℕ) → is_stop n ≡ true → Kept K s (reach (ended n) s)
  kept_stop s n h = kept_here s (an_end (stop_ends n h))

  pub kept_fault : (s : State S) (n : ℕ) → is_fault n ≡ true → Kept K s (reach (ended n) s)
  kept_fault s n h = kept_here s (an_end (fault_ends n h))

  -- after a visit that ended with no value
  pub kept_ended : {s q : State S} {n : ℕ} → q.left ≤ s.left → Becomes false s.store q.store → K.MayEnd n → Kept K s (reach (ended n) q)
  unfolding reach
  kept_ended h b m = record { falls = h; becomes = b; proper = an_end m }

  -- from an earlier state, after a visit that ended with a value
  pub kept_onward : {s q : State S} {r : Reached C S} → q.left ≤ s.left → Becomes true s.store q.store → Kept K q r → Kept K s r
  kept_onward h b g = record { falls = omega (arith, g.falls); becomes = onward b g.becomes; proper = g.proper }

  -- what is due, after a visit
  kept_number : {s : State S} {r : Reached C S} (go : ℤ → State S → Reached C S) → Kept K s r
      → ((z : ℤ) → Number z → Becomes true s.store r.state.store → Kept K r.state (go z r.state))
      → Kept K s (number_due r.ending r.state go)
  unfolding number_due is_fault within
  kept_number {s} {r} go g f = from g.proper g.becomes
    where
      from : {e : Ending C} → Proper K r.state.store e → Becomes (is_value e) s.store r.state.store → Kept K s (number_due e r.state go)
      from (an_integer {z} n) b = kept_onward g.falls b (f z n b)
      from (a_constructor x) b = kept_onward g.falls b (kept_fault r.state number_wanted refl)
      from (an_end h) b = kept_ended g.falls b h

  kept_constructor : {s : State S} {r : Reached C S} (go : ℕ → C → State S → Reached C S) → Kept K s r
      → ((n : ℕ) (c : C) → Built r.state.store n c → Becomes true s.store r.state.store → Kept K r.state (go n c r.state))
      → Kept K s (constructor_due r.ending r.state go)
  unfolding constructor_due is_fault within
  kept_constructor {s} {r} go g f = from g.proper g.becomes
    where
      from : {e : Ending C} → Proper K r.state.store e → Becomes (is_value e) s.store r.state.store → Kept K s (constructor_due e r.state go)
      from (an_integer n) b = kept_onward g.falls b (kept_fault r.state constructor_wanted refl)
      from (a_constructor {k} {c} x) b = kept_onward g.falls b (f k c x b)
      from (an_end h) b = kept_ended g.falls b h

  pub kept_node : (s : State S) (o : Option ℕ) (n : ℕ) (go : ℕ → Reached C S) → is_fault n ≡ true → ((k : ℕ) → o ≡ some k → Kept K s (go k))
      → Kept K s (node_due o n s go)
  unfolding node_due
  kept_node s none n go h f = kept_fault s n h
  kept_node s (some k) n go h f = f k refl

  kept_result : (s : State S) {o : ℕ} {x y : ℤ} {c : Computed} → Result o x y c → ((z : ℤ) → c ≡ gives z → Number z) → Kept K s (result_of c s)
  unfolding result_of is_fault within
  kept_result s (a_number {z}) f = kept_here s (an_integer (f z refl))
  kept_result s (out_of_range e h) f = kept_fault s _ refl
  kept_result s no_divisor f = kept_fault s _ refl

  module _ (M : Contexts C S) (hooks : KeepingHooks K M) where
    kept_selected : (visit : Visit C S) → Keeping K visit → (i k : ℕ) (c : C) (s : State S) → Built s.store k c
        → Kept K s (selected t visit i k c s)
    unfolding selected is_fault within
    kept_selected visit ih zero k c s b = kept_here s (an_integer (number_tag b))
    kept_selected visit ih (suc i) k c s b =
        kept_node s (get_elem? (tuple_fields t k) i) no_field _ refl (λ n e. ih.keeps n c s (built_field_law i e b))

    -- by the kind of node
    kept_evaluated : (n : ℕ) → Keeping K (visited M t rs n) → (nd : TranslationNode) (k : ℕ) (c : C) (s : State S)
        → translation_node_of t k ≡ nd → At s.store k c
        → Kept K s (evaluated M t rs (visited M t rs n) nd k c s)
    unfolding evaluated is_fault within
    kept_evaluated n ih (number z) k c s e a = kept_here s (an_integer (number_literal e a))
    kept_evaluated n ih (reading i) k c s e a = kept_here s (an_integer (number_reading i))
    kept_evaluated n ih (formal p) k c s e a = hooks.formal_keeps n ih k p c s e a
    kept_evaluated n ih (select x i) k c s e a =
        kept_constructor _ (ih.keeps x c s (at_mentioned e Mention.selected a)) (λ m d b o. kept_selected (visited M t rs n) ih i m d _ b)
    kept_evaluated n ih (operator o x y) k c s e a =
        kept_number _ (ih.keeps x c s (at_mentioned e Mention.left a))
        (λ i p b.
        kept_number _ (ih.keeps y c _ (at_mentioned e Mention.right (at_onward b a)))
        (λ j q d. kept_result _ (computed_result o i j) (λ z f. number_computed o p q f)))
    kept_evaluated n ih (conditional x p q) k c s e a =
        kept_number _ (ih.keeps x c s (at_mentioned e Mention.condition a))
        (λ z h b. ih.keeps _ c _ (at_mentioned e (branch_mentioned (is_zero z)) (at_onward b a)))
    kept_evaluated n ih (call l f) k c s e a = hooks.call_keeps n ih k l f c s e a
    kept_evaluated n ih (tuple x ns) k c s e a = kept_here s (a_constructor (built_tuple e a))
    kept_evaluated n ih (case_of x cs) k c s e a =
        kept_constructor _ (ih.keeps x c s (at_mentioned e Mention.scrutinee a))
        (λ m d b o. kept_node _ (chosen cs (tag_of t m)) no_clause _ refl
        (λ j f. ih.keeps j c _ (at_mentioned e (clause_mentioned cs (tag_of t m) f) (at_onward o a))))

    -- a step counted, or none left
    kept_step : (n : ℕ) (m : S) (go : State S → Reached C S)
        → ((left : ℕ) → suc left ≡ n → Kept K (record { left = n; store = m }) (go (record { left = left; store = m })))
        → Kept K (record { left = n; store = m }) (with_step n m go)
    unfolding with_step is_stop within
    kept_step zero m go f = kept_stop (record { left = 0; store = m }) no_step refl
    kept_step (suc n) m go f = f n refl

    -- every visit keeps
    pub visit_keeps : (n : ℕ) → Keeping K (visited M t rs n)
    unfolding visited is_stop within
    visit_keeps zero = record { keeps = λ k c s a. kept_step s.left s.store _ (λ left e. kept_stop s no_nesting refl) }
    visit_keeps (suc n) =
        record {
          keeps = λ k c s a.
              kept_step s.left s.store _
              (λ left e. kept_onward (omega arith) (stays s.store) (kept_evaluated n (visit_keeps n) (translation_node_of t k) k c _ refl a));
        }
