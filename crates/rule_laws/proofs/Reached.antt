-- Where a visit of labels ends, the visit of a context that stands for them ends alike, at all allowances that have room for it: for
-- all contexts whose two places that look at them do so.
use mathlib.Core.Path.{◌≡◌, refl}
use Prim.Native.Nat.{ℕ, zero, suc, ◌≤◌}
use mathlib.Core.List.{List}
use native.Mathlib.Omega.{arith}
use lib.IntN.{ℤ}
use Rattle.definitions.specs.Operators.{computed, is_zero}
use Rattle.definitions.specs.TranslationNodes.{TranslationNode, translation_node_of}
use Rattle.definitions.specs.Rule.{Ending, value, ended, integer, constructor, State, Reached, Contexts, with_step, number_due, constructor_due, node_due, selected, evaluated, visited}
use Rattle.accepted.specs.Mention as Mention
use Rattle.rule_laws.specs.Derivations.{Trace, alone, after, after_both, after_call, depth_of, steps_of}
use Rattle.rule_laws.specs.Derivations.{Derivation, NotNumber, constructor_came, ended_before, NotConstructor, number_came, ended_first}
use Rattle.rule_laws.specs.Derivations.{number_itself, reading_value, tuple_itself, formal_actual, formal_beyond}
use Rattle.rule_laws.specs.Derivations.{formal_outside, call_body, select_tag, select_field, select_beyond, select_fails}
use Rattle.rule_laws.specs.Derivations.{case_chosen, case_unmatched, case_fails, if_chosen, if_fails, operator_numbers, left_fails, right_fails}
use Rattle.rule_laws.specs.Reads.{state_of, Reads, Shows, an_integer, a_constructor, an_end, Arrives}
use Rattle.rule_laws.specs.Reached.{Allowed, Reaching, ReachingHooks}
use Rattle.rule_laws.proofs.Mentions.{branch_mentioned, clause_mentioned}
use Rattle.rule_laws.proofs.Arrivals.{arrives_alone, arrives_after, arrives_both, arrives_ended, arrives_integer, arrives_result}

-- every visit is open while it lasts and counts its step
least : (a : Trace) → (1 ≤ depth_of a) × (1 ≤ steps_of a)
least alone = (omega arith, omega arith)
least (after a) = (omega arith, omega arith)
least (after_both a d) = (omega arith, omega arith)
least (after_call a) = (omega arith, omega arith)

module _ {t : List ℕ} {C S : Type 0} (R : Reads t C S) where
  open R use {At, at_mentioned, Built, built_tuple, built_field_law, at_went, size, went_steps, went_cells}

  -- what is due, by what a visit came to
  module _ {n : ℕ} {s q : State S} {a : Trace} {e : Ending (List ℕ)} where
    number_goes : {x : Ending C} {z : ℤ} (go : ℤ → State S → Reached C S) → Shows (Built q.store) x (value (integer z)) → Arrives R n s a e (go z q)
        → Arrives R n s a e (number_due x q go)
    unfolding number_due
    number_goes go an_integer f = f

    constructor_goes : {x : Ending C} {k : ℕ} {ws : List ℕ} (go : ℕ → C → State S → Reached C S) → Shows (Built q.store) x (value (constructor k ws))
        → ((w : C) → Built q.store k w ws → Arrives R n s a e (go k w q))
        → Arrives R n s a e (constructor_due x q go)
    unfolding constructor_due
    constructor_goes go (a_constructor {w} b) f = f w b

  -- and where it does not come
  module _ {n : ℕ} {s : State S} {a : Trace} {r : Reached C S} where
    number_fails : {x : Ending C} {e : Ending (List ℕ)} {y : ℕ} (go : ℤ → State S → Reached C S) → Shows (Built r.state.store) x e → NotNumber e y
        → Arrives R n s a e r → Arrives R n s a (ended y) (number_due x r.state go)
    unfolding number_due
    number_fails go (a_constructor b) constructor_came f = arrives_ended R f
    number_fails go an_end ended_before f = arrives_ended R f
    number_fails {y = y} go (an_integer {z = z}) x8 f = elim x8 [ ]

    constructor_fails : {x : Ending C} {e : Ending (List ℕ)} {y : ℕ} (go : ℕ → C → State S → Reached C S) → Shows (Built r.state.store) x e → NotConstructor e y
        → Arrives R n s a e r → Arrives R n s a (ended y) (constructor_due x r.state go)
    unfolding constructor_due
    constructor_fails go an_integer number_came f = arrives_ended R f
    constructor_fails go an_end ended_first f = arrives_ended R f
    constructor_fails {y = y} go (a_constructor {k = k} {w = w} {ws = ws} _) x9 f = elim x9 [ ]

  module _ (rs : List ℤ) (cells_allowed : ℕ) where
    -- the room that a node's visit leaves for the visits that it asks for
    module _ {n left : ℕ} {m : S} where
      allows_one : {a : Trace} → Allowed R cells_allowed (after a) (suc n) (state_of (suc left) m) → Allowed R cells_allowed a n (state_of left m)
      allows_one p = record { depth = omega (arith, p.depth); steps = omega (arith, p.steps); cells = p.cells }

      allows_first : {a d : Trace} → Allowed R cells_allowed (after_both a d) (suc n) (state_of (suc left) m) → Allowed R cells_allowed a n (state_of left m)
      allows_first p = record { depth = omega (arith, p.depth); steps = omega (arith, p.steps); cells = omega (arith, p.cells) }

      allows_second : {a d : Trace} {e : Ending (List ℕ)} {r : Reached C S} → Allowed R cells_allowed (after_both a d) (suc n) (state_of (suc left) m)
          → Arrives R n (state_of left m) a e r
          → Allowed R cells_allowed d n r.state
      allows_second p f =
          record {
            depth = omega (arith, p.depth);
            steps = omega (arith, p.steps, went_steps f.went);
            cells = omega (arith, p.cells, went_cells f.went);
          }

    module _ (M : Contexts C S) (hooks : ReachingHooks R rs cells_allowed M) where
      -- a node's evaluation comes to this end wherever there is room
      record EvaluatesTo (nd : TranslationNode) (k : ℕ) (ws : List ℕ) (a : Trace) (e : Ending (List ℕ)) : Type 0 where
        pub at : (n left : ℕ) (w : C) (m : S) → At m k w ws → Allowed R cells_allowed a (suc n) (state_of (suc left) m)
            → Arrives R (suc n) (state_of (suc left) m) a e (evaluated M t rs (visited M t rs n) nd k w (state_of left m))

      evaluating : {nd : TranslationNode} {k : ℕ} {ws : List ℕ} {a : Trace} {e : Ending (List ℕ)}
          → ((n left : ℕ) (w : C) (m : S) → At m k w ws → Allowed R cells_allowed a (suc n) (state_of (suc left) m)
          → Arrives R (suc n) (state_of (suc left) m) a e (evaluated M t rs (visited M t rs n) nd k w (state_of left m)))
          → EvaluatesTo nd k ws a e
      evaluating f = record { at = f }

      -- where there is room for a visit its step is counted, and the node is evaluated
      opened : (n left k : ℕ) (w : C) (m : S) {ws : List ℕ} {a : Trace} {e : Ending (List ℕ)} → EvaluatesTo (translation_node_of t k) k ws a e
          → At m k w ws → Allowed R cells_allowed a n (state_of left m)
          → Arrives R n (state_of left m) a e (visited M t rs n k w (state_of left m))
      unfolding visited with_step
      opened zero left k w m {a} f s p = absurd (omega (arith, (least a).0, p.depth))
      opened (suc n) zero k w m {a} f s p = absurd (omega (arith, (least a).1, p.steps))
      opened (suc n) (suc left) k w m f s p = f.at n left w m s p

      -- so the visit is reached
      reaching : (n : ℕ) {k : ℕ} {ws : List ℕ} {a : Trace} {e : Ending (List ℕ)} → EvaluatesTo (translation_node_of t k) k ws a e
          → Reaching R rs cells_allowed n (visited M t rs n) k ws a e
      reaching n {k} f = record { reaches = λ w s a p. opened n s.left k w s.store f a p }

      -- by the rule with which the visit of labels ends
      evaluates : {nd : TranslationNode} {k : ℕ} {ws : List ℕ} {a : Trace} {e : Ending (List ℕ)} → Derivation t rs nd k ws a e → translation_node_of t k ≡ nd
          → EvaluatesTo nd k ws a e
      unfolding evaluated selected node_due
      evaluates number_itself e = evaluating (λ n l w m s p. arrives_alone R _ s an_integer)
      evaluates reading_value e = evaluating (λ n l w m s p. arrives_alone R _ s an_integer)
      evaluates tuple_itself e = evaluating (λ n l w m s p. arrives_alone R _ s (a_constructor (built_tuple e s)))
      evaluates formal_outside e = evaluating (λ n l w m s p. hooks.formal_outside n l w m e s)
      evaluates (formal_beyond h) e = evaluating (λ n l w m s p. hooks.formal_beyond n l w m e s h)
      evaluates (formal_actual h v) e = evaluating (λ n l w m s p. hooks.formal_actual n l w m e s h v (reaching n (evaluates v refl)) (allows_one p))
      evaluates (call_body v) e = evaluating (λ n l w m s p. hooks.call_body n l w m e s (reaching n (evaluates v refl)) p)
      evaluates (select_tag v) e =
          evaluating (λ n l w m s p.
          let f = (reaching n (evaluates v refl)).reaches w _ (at_mentioned e Mention.selected s) (allows_one p) in
          constructor_goes _ f.shows (λ c b. arrives_after R (arrives_integer R f)))
      evaluates (select_field {i = place} v h z) e =
          evaluating (λ n l w m s p.
          let f = (reaching n (evaluates v refl)).reaches w _ (at_mentioned e Mention.selected s) (allows_first p) in
          constructor_goes _ f.shows
          (λ c b.
          let g = (reaching n (evaluates z refl)).reaches c _ (built_field_law place h b) (allows_second p f) in
          rw h (arrives_both R f g)))
      evaluates (select_beyond v h) e =
          evaluating (λ n l w m s p.
          let f = (reaching n (evaluates v refl)).reaches w _ (at_mentioned e Mention.selected s) (allows_one p) in
          constructor_goes _ f.shows (λ c b. rw h (arrives_after R (arrives_ended R f))))
      evaluates (select_fails v z) e =
          evaluating (λ n l w m s p.
          let f = (reaching n (evaluates v refl)).reaches w _ (at_mentioned e Mention.selected s) (allows_one p) in
          arrives_after R (constructor_fails _ f.shows z f))
      evaluates (case_chosen {cs} v h z) e =
          evaluating (λ n l w m s p.
          let f = (reaching n (evaluates v refl)).reaches w _ (at_mentioned e Mention.scrutinee s) (allows_first p) in
          let c = at_mentioned e (clause_mentioned cs _ h) (at_went f.went s) in
          let g = (reaching n (evaluates z refl)).reaches w _ c (allows_second p f) in
          constructor_goes _ f.shows (λ c b. rw h (arrives_both R f g)))
      evaluates (case_unmatched v h) e =
          evaluating (λ n l w m s p.
          let f = (reaching n (evaluates v refl)).reaches w _ (at_mentioned e Mention.scrutinee s) (allows_one p) in
          constructor_goes _ f.shows (λ c b. rw h (arrives_after R (arrives_ended R f))))
      evaluates (case_fails v z) e =
          evaluating (λ n l w m s p.
          let f = (reaching n (evaluates v refl)).reaches w _ (at_mentioned e Mention.scrutinee s) (allows_one p) in
          arrives_after R (constructor_fails _ f.shows z f))
      evaluates (if_chosen {z = x} v z) e =
          evaluating (λ n l w m s p.
          let f = (reaching n (evaluates v refl)).reaches w _ (at_mentioned e Mention.condition s) (allows_first p) in
          let c = at_mentioned e (branch_mentioned (is_zero x)) (at_went f.went s) in
          let g = (reaching n (evaluates z refl)).reaches w _ c (allows_second p f) in
          number_goes _ f.shows (arrives_both R f g))
      evaluates (if_fails v z) e =
          evaluating (λ n l w m s p.
          let f = (reaching n (evaluates v refl)).reaches w _ (at_mentioned e Mention.condition s) (allows_one p) in
          arrives_after R (number_fails _ f.shows z f))
      evaluates (operator_numbers {o} {x} {y} v z) e =
          evaluating (λ n l w m s p.
          let f = (reaching n (evaluates v refl)).reaches w _ (at_mentioned e Mention.left s) (allows_first p) in
          let c = at_mentioned e Mention.right (at_went f.went s) in
          let g = (reaching n (evaluates z refl)).reaches w _ c (allows_second p f) in
          number_goes _ f.shows (number_goes _ g.shows (arrives_both R f (arrives_result R (computed o x y) g))))
      evaluates (left_fails v z) e =
          evaluating (λ n l w m s p.
          let f = (reaching n (evaluates v refl)).reaches w _ (at_mentioned e Mention.left s) (allows_one p) in
          arrives_after R (number_fails _ f.shows z f))
      evaluates (right_fails v z h) e =
          evaluating (λ n l w m s p.
          let f = (reaching n (evaluates v refl)).reaches w _ (at_mentioned e Mention.left s) (allows_first p) in
          let c = at_mentioned e Mention.right (at_went f.went s) in
          let g = (reaching n (evaluates z refl)).reaches w _ c (allows_second p f) in
          number_goes _ f.shows (arrives_both R f (number_fails _ g.shows h g)))

      -- a visit of labels is reached
      pub visits_reached : (n : ℕ) {k : ℕ} {ws : List ℕ} {a : Trace} {e : Ending (List ℕ)} → Derivation t rs (translation_node_of t k) k ws a e
          → Reaching R rs cells_allowed n (visited M t rs n) k ws a e
      visits_reached n v = reaching n (evaluates v refl)
