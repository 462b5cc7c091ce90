-- Contexts and settings that correspond, as evaluation goes from node to node: at the start, to a child, into a function's
-- body, to a clause, to a parameter's argument and to a held constructor's field.
use mathlib.Core.Path.{◌≡◌, refl, sym, ap}
use Prim.Native.Nat.{ℕ, ◌<◌}
use mathlib.Core.List.{List, [], ◌∷◌}
use mathlib.Core.Option.{Option, none, some}
use mathlib.Core.Bool.{Bool, true, false, cond}
use native.Mathlib.Omega.{arith}
use lib.IntN.{ℤ}
use lib.ListN.{get_elem?}
use Rattle.definitions.specs.Layouts.{functions, nodes, body_of, owner_of}
use Rattle.definitions.specs.References.{parameters, arity}
use Rattle.definitions.specs.NodeFields.{Clause, chosen}
use Rattle.definitions.specs.SheetNodes.{SheetNode, pattern_variable, conditional, call, build, case_of, sheet_node_of, scrutinee_of}
use Rattle.definitions.specs.TranslationNodes.{translation_node_of, actual, tuple_fields}
use Rattle.definitions.specs.SheetRules.{clause_within}
use Rattle.definitions.specs.Checks.{sheet_verdict}
use Rattle.definitions.specs.Labels.{never_shared, label_of}
use Rattle.definitions.specs.Translate.{formal_of, unshared_translation}
use Rattle.definitions.specs.Rule.{value, constructor}
use Rattle.agreement.specs.Meaning.{Setting, empty, entered, holding, closure_at, argument_of, held_field}
use Rattle.definitions.specs.declared.Layout.TheVariants.{Sheet}
use Rattle.definitions.specs.Verdict.{Accepted}
use Rattle.accepted.specs.Child.{Child, if_nonzero, if_zero, argument, component, scrutinee, clause, is_case}
use Rattle.accepted.proofs.Elements.{element_there}
use Rattle.accepted.proofs.Head.{functions_least}
use Rattle.accepted.proofs.Owners.{body_below, owner_of_body}
use Rattle.accepted.proofs.Checks.{sheet_shape, trees_pass}
use Rattle.accepted.proofs.Names.{result_parameters, call_below, call_count, build_count}
use Rattle.accepted.proofs.Trees.{child_below, child_owner, case_body}
use Rattle.accepted.proofs.Clauses.{chosen_found}
use Rattle.accepted.proofs.Places.{body_place, same_place, scrutinee_place, chosen_place}
use Rattle.accepted.proofs.Patterns.{scrutinee_is, pattern_held}
use Rattle.readback.proofs.Nodes.{tuple_fields_read}
use Rattle.readback.proofs.Unshared.{actual_argument}
use Rattle.rule_laws.specs.Derivations.{Trace, Derivation}
use Rattle.agreement.specs.Corresponds.{Corresponds, outset, called, held, At}

-- the argument of a function's parameter i: the actual that the head label names, under the tail
pub data ArgumentAt (b : List ℕ) (rs : List ℤ) (f i : ℕ) : List ℕ → Setting → Type 0 where
  argument_at : {l n : ℕ} {ws : List ℕ} {s u : Setting}
      → actual (unshared_translation b) (formal_of b f i) l ≡ some n
      → argument_of s i ≡ some (record { node = n; setting = u })
      → At b rs n ws u
      → ArgumentAt b rs f i (l ∷ ws) s

-- it is the same once a case has chosen
argument_held : {b : List ℕ} {rs : List ℤ} {f i : ℕ} {ws ns : List ℕ} {s u : Setting} → ArgumentAt b rs f i ws s
    → ArgumentAt b rs f i ws (holding s ns u)
unfolding argument_of
argument_held (argument_at e h c) = argument_at e h c

-- field i of the constructor that is held in a function's clause: the field of the tuple with which the scrutinee ends
pub record FieldAt (b : List ℕ) (rs : List ℤ) (f i : ℕ) (ws : List ℕ) (s : Setting) : Type 0 where
  pub scrutinee : ℕ
  pub clauses : List Clause
  pub body : sheet_node_of b (body_of Sheet b f) ≡ case_of scrutinee clauses
  pub trace : Trace
  pub tuple : ℕ
  pub labels : List ℕ
  pub visits : Derivation (unshared_translation b) rs (translation_node_of (unshared_translation b) scrutinee) scrutinee ws trace (value (constructor tuple labels))
  pub node : ℕ
  pub setting : Setting
  pub there : get_elem? (tuple_fields (unshared_translation b) tuple) i ≡ some node
  pub holds : held_field s i ≡ some (record { node = node; setting = setting })
  pub at : At b rs node labels setting

module _ (b : List ℕ) (accepted : sheet_verdict b ≡ Accepted) {rs : List ℤ} where
  -- a node in a place that corresponds
  placed : (k : ℕ) {f : ℕ} {p : Option ℕ} {ws : List ℕ} {s : Setting} → k < nodes b → owner_of Sheet b k ≡ f
      → clause_within b (nodes b) k ≡ p
      → Corresponds b rs f p ws s
      → At b rs k ws s
  placed k h e q c = record { below = h; corresponds = rw (e, q) c }

  -- a body, where its function's labels and setting correspond
  body_placed : (f : ℕ) {ws : List ℕ} {s : Setting} → f < functions b → Corresponds b rs f none ws s → At b rs (body_of Sheet b f) ws s
  body_placed f h c =
      let a = sheet_shape b accepted in
      let o = owner_of_body Sheet b a f h in
      placed (body_of Sheet b f) (body_below Sheet b a f h) o
      (body_place b (body_of Sheet b f) (nodes b) (sym (ap (body_of Sheet b) o))) c

  pub start_at : At b rs (body_of Sheet b 0) [] empty
  start_at = body_placed 0 (functions_least Sheet b (sheet_shape b accepted)) outset

  module _ {k : ℕ} {ws : List ℕ} {s : Setting} (a : At b rs k ws s) where
    -- to a child of a node that is no case
    pub child_at : {nd : SheetNode} {n : ℕ} → sheet_node_of b k ≡ nd → is_case nd ≡ false → Child nd n → At b rs n ws s
    child_at e n c =
        placed _ (child_below b (trees_pass b accepted) k a.below e c) (child_owner b (trees_pass b accepted) k a.below e c)
        (same_place b (trees_pass b accepted) k a.below e n c) a.corresponds

    -- into the body of a function that is called
    pub body_at : {f : ℕ} {ns : List ℕ} → sheet_node_of b k ≡ call f ns → At b rs (body_of Sheet b f) (label_of never_shared b f k ∷ ws) (entered ns s)
    body_at {f} e = body_placed f (call_below b accepted k a.below e) (called a.below e refl a.corresponds)

    module _ {n : ℕ} {cs : List Clause} (e : sheet_node_of b k ≡ case_of n cs) where
      -- a case stands in no clause
      case_corresponds : Corresponds b rs (owner_of Sheet b k) none ws s
      case_corresponds = rw (body_place b k (nodes b) (case_body b (trees_pass b accepted) k a.below e)) at a.corresponds

      -- to the scrutinee of a case
      pub scrutinee_at : At b rs n ws s
      scrutinee_at =
          placed n (child_below b (trees_pass b accepted) k a.below e scrutinee) (child_owner b (trees_pass b accepted) k a.below e scrutinee)
          (scrutinee_place b (trees_pass b accepted) k a.below e) case_corresponds

      -- to the clause of the constructor with which the scrutinee ends
      pub clause_at_law : {m j c : ℕ} {vs ns : List ℕ} {u : Setting} {d : Trace}
          → Derivation (unshared_translation b) rs (translation_node_of (unshared_translation b) n) n ws d (value (constructor m vs))
          → At b rs m vs u
          → sheet_node_of b m ≡ build c ns
          → chosen cs c ≡ some j
          → At b rs j ws (holding s ns u)
      clause_at_law {j} {c} v x h q =
          let f = chosen_found cs c j q in
          let y = clause f.place f.there f.leads in
          placed j (child_below b (trees_pass b accepted) k a.below e y) (child_owner b (trees_pass b accepted) k a.below e y)
          (chosen_place b (trees_pass b accepted) k a.below e q)
          (held {cs = cs} (rw (← case_body b (trees_pass b accepted) k a.below e) e) v x.below h x.corresponds case_corresponds)

  -- to the argument of a parameter
  pub argument_of_law : {f i : ℕ} {p : Option ℕ} {ws : List ℕ} {s : Setting} → Corresponds b rs f p ws s → i < parameters b f
      → ArgumentAt b rs f i ws s
  unfolding argument_of closure_at unshared_translation
  argument_of_law outset h = absurd (omega (arith, h, result_parameters b accepted))
  argument_of_law {i} (called {k} {f} {ns} {ws} {s} h e l c) g =
      let x = element_there ns i (rw (call_count b accepted k h e) g) in
      argument_at {s = entered ns s} {u = s} (rw l at (actual_argument b accepted f k i h e x.there)) (rw x.there refl)
      (child_at (record { below = h; corresponds = c }) e refl (argument i x.there))
  argument_of_law (held e v h q c d) g = argument_held (argument_of_law d g)

  -- to the field of a constructor that is held
  pub field_of : {f i c : ℕ} {ws : List ℕ} {s : Setting} → Corresponds b rs f (some c) ws s → i < arity b c → FieldAt b rs f i ws s
  unfolding held_field closure_at unshared_translation
  field_of {i} (held {n} {m} {cs} {a} {vs} {ns} {u} e v h q c d) g =
      let x = element_there ns i (rw (build_count b accepted m h q) g) in
      record {
        scrutinee = n;
        clauses = cs;
        body = e;
        trace = a;
        tuple = m;
        labels = vs;
        visits = v;
        node = x.element;
        setting = u;
        there = rw (tuple_fields_read never_shared b accepted m h q) x.there;
        holds = rw x.there refl;
        at = child_at (record { below = h; corresponds = c }) q refl (component i x.there);
      }

  -- to the chosen node of an if
  pub branch_at : {k n p q : ℕ} {ws : List ℕ} {s : Setting} (x : Bool) → At b rs k ws s → sheet_node_of b k ≡ conditional n p q
      → At b rs (cond x q p) ws s
  branch_at true a h = child_at a h refl if_zero
  branch_at false a h = child_at a h refl if_nonzero

  -- to the field that a pattern variable asks for, of the constructor with which the selection's node ends
  pub field_at : {k i : ℕ} {ws : List ℕ} {s : Setting} → At b rs k ws s → sheet_node_of b k ≡ pattern_variable i
      → FieldAt b rs (owner_of Sheet b k) i ws s
  field_at {k} a h =
      let p = pattern_held b accepted k a.below h in
      field_of (rw p.within at a.corresponds) p.below

  pub scrutinee_same : {k n i : ℕ} {ws : List ℕ} {s : Setting} (a : At b rs k ws s) (h : sheet_node_of b k ≡ pattern_variable i) → scrutinee_of b k ≡ n
      → (field_at a h).scrutinee ≡ n
  scrutinee_same {k} a h e = let p = scrutinee_is b accepted k a.below (field_at a h).body in cc
