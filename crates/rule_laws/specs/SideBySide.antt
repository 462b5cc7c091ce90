-- Two evaluations by the rule, side by side: of two files, with two lists of readings, two kinds of contexts and of stores.
use Rattle.std.specs.Prelude.{◌≡◌, ℕ, zero, suc, List, ℤ, pos, get_or}
use Rattle.std.proofs.Math.Option.{Option, none, some}
use Rattle.std.proofs.Math.ListN.{get_elem?}
use Rattle.definitions.specs.NodeFields.{Clause, chosen}
use Rattle.definitions.specs.TranslationNodes.{TranslationNode, number, reading, formal, select, operator, conditional, call, tuple, case_of, translation_node_of, tag_of, tuple_fields}
use Rattle.definitions.specs.Rule.{Ending, value, ended, integer, constructor, State, Reached, Visit, Contexts, with_step, number_due, constructor_due, visited}

-- what joins them
pub record SideBySide (C S D T : Type 0) : Type 1 where
  -- a pair of states with what joins them
  pub World : Type 0
  pub here : World → State S
  pub there : World → State T
  -- a world can lead to another
  pub Leads : World → World → Type 0
  pub stays : (w : World) → Leads w w
  pub onward : {w v u : World} → Leads w v → Leads v u → Leads w u
  -- a world leads to the one in which a step of each is counted
  pub Steps : World → World → Type 0
  pub steps_lead : {w v : World} → Steps w v → Leads w v
  -- nodes and contexts whose visits go alike, and go on to
  pub At : World → ℕ → ℕ → C → D → Type 0
  pub at_onward : {w v : World} {k m : ℕ} {c : C} {d : D} → Leads w v → At w k m c d → At v k m c d
  -- constructors, by node and context, that are alike
  pub Built : World → ℕ → ℕ → C → D → Type 0
  -- formals, and labels with functions, that go alike
  pub AtFormal : World → ℕ → ℕ → C → D → Type 0
  pub AtCall : World → ℕ → ℕ → ℕ → ℕ → C → D → Type 0
  -- nestings that go together
  pub Nested : ℕ → ℕ → Type 0
  -- one of the two was cut short: nothing more is claimed of them, and it stays so
  pub Cut : World → Reached C S → Reached D T → Type 0
  pub cut_back : {w v : World} {r : Reached C S} {q : Reached D T} → Leads w v → Cut v r q → Cut w r q
  pub cut_number : {w : World} {r : Reached C S} {q : Reached D T} (go : ℤ → State S → Reached C S) (go' : ℤ → State T → Reached D T)
      → Cut w r q → Cut w (number_due r.ending r.state go) (number_due q.ending q.state go')
  pub cut_constructor : {w : World} {r : Reached C S} {q : Reached D T} (go : ℕ → C → State S → Reached C S) (go' : ℕ → D → State T → Reached D T)
      → Cut w r q → Cut w (constructor_due r.ending r.state go) (constructor_due q.ending q.state go')

module _ {C S D T : Type 0} (B : SideBySide C S D T) where
  open B use {World, here, there, Leads, Steps, At, Built, AtFormal, AtCall, Nested, Cut}

  -- endings that are alike
  pub data AlikeEnds (w : World) : Ending C → Ending D → Type 0 where
    integers : {z : ℤ} → AlikeEnds w (value (integer z)) (value (integer z))
    constructors : {k m : ℕ} {c : C} {d : D} → Built w k m c d → AlikeEnds w (value (constructor k c)) (value (constructor m d))
    ends : {n : ℕ} → AlikeEnds w (ended n) (ended n)

  -- one was cut short, or both have come to a world that this one leads to, with endings that are alike
  pub data Both (w : World) : Reached C S → Reached D T → Type 0 where
    cut : {r : Reached C S} {q : Reached D T} → Cut w r q → Both w r q
    arrive : {e : Ending C} {d : Ending D} (v : World) → Leads w v → AlikeEnds v e d
        → Both w (record { ending = e; state = here v }) (record { ending = d; state = there v })

  -- both go on to nodes, or neither has one
  pub data Due (w : World) (c : C) (d : D) : Option ℕ → Option ℕ → Type 0 where
    neither : Due w c d none none
    each : {n m : ℕ} → At w n m c d → Due w c d (some n) (some m)

  -- two visits that go in step
  pub record Beside (visit : Visit C S) (visit' : Visit D T) : Type 0 where
    pub both : (w : World) (k m : ℕ) (c : C) (d : D) → At w k m c d → Both w (visit k c (here w)) (visit' m d (there w))

  -- nodes that are alike, kind by kind
  pub data Alike (rs qs : List ℤ) (w : World) (k m : ℕ) (c : C) (d : D) : TranslationNode → TranslationNode → Type 0 where
    numbers : {z : ℤ} → Alike rs qs w k m c d (number z) (number z)
    readings : {i j : ℕ} → get_or rs i (pos 0) ≡ get_or qs j (pos 0) → Alike rs qs w k m c d (reading i) (reading j)
    formals : {p q : ℕ} → AtFormal w p q c d → Alike rs qs w k m c d (formal p) (formal q)
    selects : {n n' i : ℕ} → At w n n' c d → Alike rs qs w k m c d (select n i) (select n' i)
    operators : {o x x' y y' : ℕ} → At w x x' c d → At w y y' c d → Alike rs qs w k m c d (operator o x y) (operator o x' y')
    conditionals : {n n' x x' y y' : ℕ} → At w n n' c d → At w x x' c d → At w y y' c d
        → Alike rs qs w k m c d (conditional n x y) (conditional n' x' y')
    calls : {l l' f f' : ℕ} → AtCall w l f l' f' c d → Alike rs qs w k m c d (call l f) (call l' f')
    tuples : {a a' : ℕ} {ns ns' : List ℕ} → Built w k m c d → Alike rs qs w k m c d (tuple a ns) (tuple a' ns')
    cases : {n n' : ℕ} {cs cs' : List Clause} → At w n n' c d → ((a : ℕ) → Due w c d (chosen cs a) (chosen cs' a))
        → Alike rs qs w k m c d (case_of n cs) (case_of n' cs')

  -- a nesting in which one more visit can be opened
  pub record OneMoreVisit (n n' : ℕ) : Type 0 where
    pub rest : ℕ
    pub is : n' ≡ suc rest
    pub nested : Nested n rest

  -- what two evaluations owe to go in step
  pub record InStep (M : Contexts C S) (t : List ℕ) (rs : List ℤ) (N : Contexts D T) (u : List ℕ) (qs : List ℤ) : Type 0 where
    pub alike : {w : World} {k m : ℕ} {c : C} {d : D} → At w k m c d → Alike rs qs w k m c d (translation_node_of t k) (translation_node_of u m)
    pub tags : {w : World} {k m : ℕ} {c : C} {d : D} → Built w k m c d → tag_of t k ≡ tag_of u m
    pub fields : {w : World} {k m : ℕ} {c : C} {d : D} → Built w k m c d → (i : ℕ)
        → Due w c d (get_elem? (tuple_fields t k) i) (get_elem? (tuple_fields u m) i)
    -- one step of each
    pub step : (w : World) (go : State S → Reached C S) (go' : State T → Reached D T)
        → ((v : World) → Steps w v → Both w (go (here v)) (go' (there v)))
        → Both w (with_step (here w).left (here w).store go) (with_step (there w).left (there w).store go')
    -- one visit more
    pub unopened : (n' : ℕ) → Nested zero n' → Beside (visited M t rs zero) (visited N u qs n')
    pub opened : (n n' : ℕ) → Nested (suc n) n' → OneMoreVisit n n'
    -- the two places that look at contexts, from the world before the step is counted
    pub formals_both : (n n' : ℕ) → Nested n n' → Beside (visited M t rs n) (visited N u qs n')
        → (w v : World) {p q : ℕ} {c : C} {d : D} → Steps w v → AtFormal v p q c d
        → Both w (M.at_formal (visited M t rs n) p c (here v)) (N.at_formal (visited N u qs n') q d (there v))
    pub calls_both : (n n' : ℕ) → Nested n n' → Beside (visited M t rs n) (visited N u qs n')
        → (w v : World) {l f l' f' : ℕ} {c : C} {d : D} → Steps w v → AtCall v l f l' f' c d
        → Both w (M.at_call (visited M t rs n) l f c (here v)) (N.at_call (visited N u qs n') l' f' d (there v))
