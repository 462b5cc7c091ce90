-- Two evaluations go in step: where nodes and contexts are alike, both visits come to endings and states that are alike, or one
-- was cut short.
use mathlib.Core.Path.{◌≡◌, refl}
use Prim.Native.Nat.{ℕ, zero, suc}
use mathlib.Core.List.{List}
use mathlib.Core.Option.{Option, none, some}
use mathlib.Core.Bool.{Bool, true, false, cond}
use lib.IntN.{ℤ}
use Rattle.definitions.specs.Numbers.{no_field, no_clause}
use Rattle.definitions.specs.Operators.{Computed, gives, faults, computed, is_zero}
use Rattle.definitions.specs.NodeFields.{chosen}
use Rattle.definitions.specs.TranslationNodes.{TranslationNode, number, reading, formal, select, operator, conditional, call, tuple, case_of, tag_of}
use Rattle.definitions.specs.Rule.{Ending, State, Reached, Visit, Contexts, reach, number_due, constructor_due, node_due, result_of, selected, evaluated, visited}
use Rattle.accepted.specs.Mention.{Mention}
use Rattle.rule_laws.specs.SideBySide.{SideBySide, AlikeEnds, integers, constructors, ends, Both, cut, arrive, Due, neither, each, Beside, Alike, numbers, readings, formals}
use Rattle.rule_laws.specs.SideBySide.{selects, operators, conditionals, calls, tuples, cases, InStep}
use Rattle.rule_laws.proofs.Mentions.{clause_mentioned}

module _ {C S D T : Type 0} (B : SideBySide C S D T) where
  open B use {World, here, there, Leads, stays, onward, steps_lead, At, at_onward, Built, AtFormal, AtCall, Nested, cut_back, cut_number, cut_constructor}

  -- from an earlier world
  pub both_back : {w v : World} {r : Reached C S} {q : Reached D T} → Leads w v → Both B v r q → Both B w r q
  both_back l (cut h) = cut (cut_back l h)
  both_back l (arrive u g e) = arrive u (onward l g) e

  -- an end where both are
  pub both_here : (w : World) {e : Ending C} {d : Ending D} → AlikeEnds B w e d → Both B w (reach e (here w)) (reach d (there w))
  unfolding reach
  both_here w e = arrive w (stays w) e

  -- what is due, after two visits
  both_number : (w : World) {r : Reached C S} {q : Reached D T} (go : ℤ → State S → Reached C S) (go' : ℤ → State T → Reached D T)
      → Both B w r q
      → ((v : World) (z : ℤ) → Leads w v → Both B v (go z (here v)) (go' z (there v)))
      → Both B w (number_due r.ending r.state go) (number_due q.ending q.state go')
  unfolding number_due
  both_number w go go' (cut h) f = cut (cut_number go go' h)
  both_number w go go' (arrive v l (integers {z})) f = both_back l (f v z l)
  both_number w go go' (arrive v l (constructors x)) f = both_back l (both_here v ends)
  both_number w go go' (arrive v l ends) f = both_back l (both_here v ends)

  both_constructor : (w : World) {r : Reached C S} {q : Reached D T} (go : ℕ → C → State S → Reached C S) (go' : ℕ → D → State T → Reached D T)
      → Both B w r q
      → ((v : World) (k m : ℕ) (c : C) (d : D) → Leads w v → Built v k m c d → Both B v (go k c (here v)) (go' m d (there v)))
      → Both B w (constructor_due r.ending r.state go) (constructor_due q.ending q.state go')
  unfolding constructor_due
  both_constructor w go go' (cut h) f = cut (cut_constructor go go' h)
  both_constructor w go go' (arrive v l integers) f = both_back l (both_here v ends)
  both_constructor w go go' (arrive v l (constructors {k} {m} {c} {d} x)) f = both_back l (f v k m c d l x)
  both_constructor w go go' (arrive v l ends) f = both_back l (both_here v ends)

  pub both_due : (w : World) (c : C) (d : D) {o o' : Option ℕ} (x : ℕ) {visit : Visit C S} {visit' : Visit D T} → Beside B visit visit'
      → Due B w c d o o'
      → Both B w (node_due o x (here w) (λ n. visit n c (here w))) (node_due o' x (there w) (λ n. visit' n d (there w)))
  unfolding node_due
  both_due w c d x f neither = both_here w ends
  both_due w c d x f (each {n} {m} h) = f.both w n m c d h

  both_result : (w : World) (x : Computed) → Both B w (result_of x (here w)) (result_of x (there w))
  unfolding result_of
  both_result w (gives z) = both_here w integers
  both_result w (faults n) = both_here w ends

  both_branch : (w : World) (c : C) (d : D) (t : Bool) {x x' y y' : ℕ} {visit : Visit C S} {visit' : Visit D T} → Beside B visit visit'
      → At w x x' c d → At w y y' c d
      → Both B w (visit (cond t y x) c (here w)) (visit' (cond t y' x') d (there w))
  both_branch w c d true f p q = f.both w _ _ c d q
  both_branch w c d false f p q = f.both w _ _ c d p

  due_onward : {w v : World} {c : C} {d : D} {o o' : Option ℕ} → Leads w v → Due B w c d o o' → Due B v c d o o'
  due_onward l neither = neither
  due_onward l (each h) = each (at_onward l h)

  -- in one file, a node is alike itself where the nodes that it names are
  pub due_itself : (w : World) (c : C) (d : D) (o : Option ℕ) → ((n : ℕ) → o ≡ some n → At w n n c d) → Due B w c d o o
  due_itself w c d none f = neither
  due_itself w c d (some n) f = each (f n refl)

  pub alike_itself : (rs : List ℤ) (w : World) (k : ℕ) (c : C) (d : D) (nd : TranslationNode)
      → ((n : ℕ) → Mention nd n → At w n n c d)
      → ((p : ℕ) → nd ≡ formal p → AtFormal w p p c d)
      → ((l f : ℕ) → nd ≡ call l f → AtCall w l f l f c d)
      → ((a : ℕ) (ns : List ℕ) → nd ≡ tuple a ns → Built w k k c d)
      → Alike B rs rs w k k c d nd nd
  alike_itself rs w k c d (number z) at fo ca bu = numbers
  alike_itself rs w k c d (reading i) at fo ca bu = readings refl
  alike_itself rs w k c d (formal p) at fo ca bu = formals (fo p refl)
  alike_itself rs w k c d (select n i) at fo ca bu = selects (at n Mention.selected)
  alike_itself rs w k c d (operator o n m) at fo ca bu = operators (at n Mention.left) (at m Mention.right)
  alike_itself rs w k c d (conditional n p q) at fo ca bu = conditionals (at n Mention.condition) (at p Mention.if_nonzero) (at q Mention.if_zero)
  alike_itself rs w k c d (call l f) at fo ca bu = calls (ca l f refl)
  alike_itself rs w k c d (tuple a ns) at fo ca bu = tuples (bu a ns refl)
  alike_itself rs w k c d (case_of n cs) at fo ca bu =
      cases (at n Mention.scrutinee) (λ a. due_itself w c d (chosen cs a) (λ m e. at m (clause_mentioned cs a e)))

  module _ {M : Contexts C S} {t : List ℕ} {rs : List ℤ} {N : Contexts D T} {u : List ℕ} {qs : List ℤ} (L : InStep B M t rs N u qs) where
    both_selected : {visit : Visit C S} {visit' : Visit D T} → Beside B visit visit'
        → (w : World) (i k m : ℕ) (c : C) (d : D) → Built w k m c d
        → Both B w (selected t visit i k c (here w)) (selected u visit' i m d (there w))
    unfolding selected
    both_selected f w zero k m c d h = rw (L.tags h) (both_here w integers)
    both_selected f w (suc i) k m c d h = both_due w c d no_field f (L.fields h i)

    -- by the kinds of the nodes; w is the world before their steps are counted
    both_evaluated : (n n' : ℕ) → Nested n n' → Beside B (visited M t rs n) (visited N u qs n')
        → (w v : World) → B.Steps w v → (k m : ℕ) (c : C) (d : D) {x y : TranslationNode} → Alike B rs qs v k m c d x y
        → Both B w (evaluated M t rs (visited M t rs n) x k c (here v)) (evaluated N u qs (visited N u qs n') y m d (there v))
    unfolding evaluated
    both_evaluated n n' g f w v s k m c d numbers = both_back (steps_lead s) (both_here v integers)
    both_evaluated n n' g f w v s k m c d (readings e) = both_back (steps_lead s) (rw e (both_here v integers))
    both_evaluated n n' g f w v s k m c d (formals h) = L.formals_both n n' g f w v s h
    both_evaluated n n' g f w v s k m c d (selects {i} h) =
        both_back (steps_lead s)
        (both_constructor v _ _ (f.both v _ _ c d h) (λ z a b x y l q. both_selected f z i a b x y q))
    both_evaluated n n' g f w v s k m c d (operators {o} h i) =
        both_back (steps_lead s)
        (both_number v _ _ (f.both v _ _ c d h) (λ z x l.
        both_number z _ _ (f.both z _ _ c d (at_onward l i)) (λ r y q. both_result r (computed o x y))))
    both_evaluated n n' g f w v s k m c d (conditionals h i j) =
        both_back (steps_lead s)
        (both_number v _ _ (f.both v _ _ c d h) (λ z x l. both_branch z c d (is_zero x) f (at_onward l i) (at_onward l j)))
    both_evaluated n n' g f w v s k m c d (calls h) = L.calls_both n n' g f w v s h
    both_evaluated n n' g f w v s k m c d (tuples h) = both_back (steps_lead s) (both_here v (constructors h))
    both_evaluated n n' g f w v s k m c d (cases h i) =
        both_back (steps_lead s)
        (both_constructor v _ _ (f.both v _ _ c d h) (λ z a b x y l q.
        rw (L.tags q) (both_due z c d no_clause f (due_onward l (i (tag_of u b))))))

    -- a step of each, and a visit more
    stepped : (n n' : ℕ) → Nested n n' → Beside B (visited M t rs n) (visited N u qs n')
        → Beside B (visited M t rs (suc n)) (visited N u qs (suc n'))
    unfolding visited
    stepped n n' g f =
        record {
          both = λ w k m c d h.
              L.step w _ _ (λ v s. both_evaluated n n' g f w v s k m c d (L.alike (at_onward (steps_lead s) h)));
        }

    -- at all nestings that go together
    pub evaluations_in_step : (n n' : ℕ) → Nested n n' → Beside B (visited M t rs n) (visited N u qs n')
    evaluations_in_step zero n' g = L.unopened n' g
    evaluations_in_step (suc n) n' g =
        let o = L.opened n n' g in
        rw o.is (stepped n o.rest o.nested (evaluations_in_step n o.rest o.nested))
