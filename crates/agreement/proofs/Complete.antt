-- Visits of a sheet translated with a label for each call are complete: what the sheet's node means in a setting, a visit of the
-- node ends with, under the labels that correspond to the setting.
use mathlib.Core.Path.{◌≡◌, refl, ap, subst}
use Prim.Native.Nat.{ℕ, suc}
use mathlib.Core.List.{List, ◌∷◌}
use mathlib.Core.Option.{some}
use mathlib.Core.Bool.{Bool, true, false, cond}
use lib.IntN.{ℤ}
use Rattle.definitions.specs.Layouts.{body_of}
use Rattle.definitions.specs.Operators.{computed, is_zero}
use Rattle.definitions.specs.SheetNodes.{SheetNode, build, sheet_node_of}
use Rattle.definitions.specs.TranslationNodes.{TranslationNode, translation_node_of}
use Rattle.definitions.specs.Checks.{sheet_verdict}
use Rattle.definitions.specs.Labels.{never_shared}
use Rattle.definitions.specs.Translate.{formal_of, unshared_translation}
use Rattle.definitions.specs.Rule.{Ending, constructor, ended}
use Rattle.definitions.specs.Rule
use Rattle.agreement.specs.Meaning.{Setting, Closure, argument_of, held_field, End, value, fault, integer, built}
use Rattle.agreement.specs.Meaning.{Means, number_itself, reading_value, parameter_argument, call_body, build_itself, case_chosen, case_unmatched, case_number, case_fault}
use Rattle.agreement.specs.Meaning.{pattern_field, if_nonzero_law, if_zero_law, if_constructor, if_fault, operator_numbers, left_constructor, left_fault, right_constructor, right_fault}
use Rattle.definitions.specs.declared.Layout.TheVariants.{Sheet, Translation}
use Rattle.definitions.specs.Verdict.{Accepted}
use Rattle.accepted.specs.Child.{left, right, condition, if_nonzero, if_zero}
use Rattle.accepted.proofs.Names.{parameter_below, call_below}
use Rattle.readback.proofs.Nodes.{number_becomes, reading_becomes, parameter_becomes, pattern_becomes, operator_becomes, conditional_becomes, call_becomes, build_becomes}
use Rattle.readback.proofs.Nodes.{case_becomes, body_read, tag_read}
use Rattle.rule_laws.specs.Derivations.{Trace, constructor_came, ended_before, number_came, ended_first, Derivation}
use Rattle.agreement.specs.Corresponds.{At, Agrees, integers, constructors, ends, Visited}
use Rattle.agreement.proofs.Corresponds.{ArgumentAt, argument_at, FieldAt, child_at, body_at, scrutinee_at, clause_at_law, argument_of_law, field_at, scrutinee_same}
use Rattle.agreement.proofs.Meant.{result_agrees}

-- by the node of the translation
visited_as : {b : List ℕ} {rs : List ℤ} {k : ℕ} {ws : List ℕ} {td : TranslationNode} {c : Trace} {e : Ending (List ℕ)} {d : End}
    → translation_node_of (unshared_translation b) k ≡ td → Derivation (unshared_translation b) rs td k ws c e → Agrees b rs e d → Visited b rs k ws d
visited_as {c} {e} h v a = record { trace = c; ending = e; visits = rw h v; agrees = a }

-- a visit that ends with a number, with a constructor, with a fault
record NumberVisit (b : List ℕ) (rs : List ℤ) (k : ℕ) (ws : List ℕ) (z : ℤ) : Type 0 where
  trace : Trace
  visits : Derivation (unshared_translation b) rs (translation_node_of (unshared_translation b) k) k ws trace (Rule.value (Rule.integer z))

record ConstructorVisit (b : List ℕ) (rs : List ℤ) (k : ℕ) (ws : List ℕ) (c : ℕ) (ns : List ℕ) (s : Setting) : Type 0 where
  trace : Trace
  tuple : ℕ
  labels : List ℕ
  visits : Derivation (unshared_translation b) rs (translation_node_of (unshared_translation b) k) k ws trace (Rule.value (constructor tuple labels))
  at : At b rs tuple labels s
  is : sheet_node_of b tuple ≡ build c ns

record FaultVisit (b : List ℕ) (rs : List ℤ) (k : ℕ) (ws : List ℕ) (n : ℕ) : Type 0 where
  trace : Trace
  visits : Derivation (unshared_translation b) rs (translation_node_of (unshared_translation b) k) k ws trace (ended n)

-- a parameter, by its argument
parameter_visited : {b : List ℕ} {rs : List ℤ} {k : ℕ} {ws : List ℕ} {f i : ℕ} {s : Setting} {c : Closure} {d : End} → ArgumentAt b rs f i ws s → argument_of s i ≡ some c
    → translation_node_of (unshared_translation b) k ≡ TranslationNode.formal (formal_of b f i)
    → ((vs : List ℕ) → At b rs c.node vs c.setting → Visited b rs c.node vs d)
    → Visited b rs k ws d
parameter_visited {b} {rs} {c} (argument_at {n} {ws = vs} {u} g h a) e p on =
    let z : Path Closure (record { node = n; setting = u }) c = cc in
    let y : n ≡ c.node = ap (λ (x : Closure). x.node) z in
    let v = on vs (subst (λ (x : Closure). At b rs x.node vs x.setting) z a) in
    visited_as p (Derivation.formal_actual (rw y at g) v.visits) v.agrees

module _ {b : List ℕ} {rs : List ℤ} {k : ℕ} {ws : List ℕ} where
  number_visit : {z : ℤ} → Visited b rs k ws (value (integer z)) → NumberVisit b rs k ws z
  number_visit v = from v.visits v.agrees
    where
      from : {c : Trace} {e : Ending (List ℕ)} {z : ℤ} → Derivation (unshared_translation b) rs (translation_node_of (unshared_translation b) k) k ws c e
          → Agrees b rs e (value (integer z)) → NumberVisit b rs k ws z
      from {c} v integers = record { trace = c; visits = v }

  constructor_visit : {c : ℕ} {ns : List ℕ} {s : Setting} → Visited b rs k ws (value (built c ns s)) → ConstructorVisit b rs k ws c ns s
  constructor_visit v = from v.visits v.agrees
    where
      from : {x : Trace} {e : Ending (List ℕ)} {c : ℕ} {ns : List ℕ} {s : Setting} → Derivation (unshared_translation b) rs (translation_node_of (unshared_translation b) k) k ws x e
          → Agrees b rs e (value (built c ns s)) → ConstructorVisit b rs k ws c ns s
      from {x} v (constructors {k = m} {ws = vs} a h) = record { trace = x; tuple = m; labels = vs; visits = v; at = a; is = h }

  fault_visit : {n : ℕ} → Visited b rs k ws (fault n) → FaultVisit b rs k ws n
  fault_visit v = from v.visits v.agrees
    where
      from : {c : Trace} {e : Ending (List ℕ)} {n : ℕ} → Derivation (unshared_translation b) rs (translation_node_of (unshared_translation b) k) k ws c e
          → Agrees b rs e (fault n) → FaultVisit b rs k ws n
      from {c} v ends = record { trace = c; visits = v }

  -- a pattern variable, by the field
  pattern_visited : {f i n : ℕ} {s : Setting} {c : Closure} {d : End} (x : FieldAt b rs f i ws s) → held_field s i ≡ some c
      → x.scrutinee ≡ n
      → translation_node_of (unshared_translation b) k ≡ TranslationNode.select n (suc i)
      → ((vs : List ℕ) → At b rs c.node vs c.setting → Visited b rs c.node vs d)
      → Visited b rs k ws d
  pattern_visited {c} x e q p on =
      let h = x.holds in
      let z : Path Closure (record { node = x.node; setting = x.setting }) c = cc in
      let y : x.node ≡ c.node = ap (λ (x : Closure). x.node) z in
      let v = on x.labels (subst (λ (o : Closure). At b rs o.node x.labels o.setting) z x.at) in
      visited_as p (Derivation.select_field (rw q at x.visits) (rw y at x.there) v.visits) v.agrees

  -- an if, by the chosen node
  branch_visited : {n p q : ℕ} {z : ℤ} {d : End} (x : Bool) → is_zero z ≡ x
      → translation_node_of (unshared_translation b) k ≡ TranslationNode.conditional n p q
      → NumberVisit b rs n ws z
      → Visited b rs (cond x q p) ws d
      → Visited b rs k ws d
  branch_visited x h p f g =
      visited_as p (Derivation.if_chosen {d = g.trace} {e = g.ending} f.visits (rw h g.visits)) g.agrees

  -- a call, by the function's body
  call_visited : {f j l : ℕ} {d : End} → body_of Translation (unshared_translation b) f ≡ j
      → translation_node_of (unshared_translation b) k ≡ TranslationNode.call l f
      → Visited b rs j (l ∷ ws) d
      → Visited b rs k ws d
  call_visited q p v = visited_as p (Derivation.call_body {a = v.trace} {e = v.ending} (rw q v.visits)) v.agrees

module _ (b : List ℕ) (accepted : sheet_verdict b ≡ Accepted) {rs : List ℤ} where
  -- by the rule with which the node means its end
  pub complete : {nd : SheetNode} {s : Setting} {d : End} {ws : List ℕ} → Means b rs nd s d → (k : ℕ) → sheet_node_of b k ≡ nd
      → At b rs k ws s
      → Visited b rs k ws d
  unfolding unshared_translation
  complete number_itself k h a = visited_as (number_becomes never_shared b accepted k a.below h) Derivation.number_itself integers
  complete reading_value k h a = visited_as (reading_becomes never_shared b accepted k a.below h) Derivation.reading_value integers
  complete build_itself k h a = visited_as (build_becomes never_shared b accepted k a.below h) Derivation.tuple_itself (constructors a h)
  complete (parameter_argument {c} p m) k h a =
      parameter_visited (argument_of_law b accepted a.corresponds (parameter_below b accepted k a.below h)) p
      (parameter_becomes never_shared b accepted k a.below h)
      (λ vs x. complete m c.node refl x)
  complete (pattern_field {c} p m) k h a =
      pattern_visited (field_at b accepted a h) p (scrutinee_same b accepted a h refl) (pattern_becomes never_shared b accepted k a.below h)
      (λ vs x. complete m c.node refl x)
  complete (call_body {f} m) k h a =
      call_visited (body_read never_shared b accepted f (call_below b accepted k a.below h)) (call_becomes never_shared b accepted k a.below h)
      (complete m (body_of Sheet b f) refl (body_at b accepted a h))
  complete (case_chosen {n} {c} {m = j} {cs} m p m') k h a =
      let f = constructor_visit (complete m n refl (scrutinee_at b accepted a h)) in
      let g = complete m' j refl (clause_at_law b accepted a h f.visits f.at f.is p) in
      let q = tag_read never_shared b accepted f.tuple f.at.below f.is in
      visited_as (case_becomes never_shared b accepted k a.below h) (Derivation.case_chosen f.visits (rw q p) g.visits) g.agrees
  complete (case_unmatched {n} m p) k h a =
      let f = constructor_visit (complete m n refl (scrutinee_at b accepted a h)) in
      let q = tag_read never_shared b accepted f.tuple f.at.below f.is in
      visited_as (case_becomes never_shared b accepted k a.below h) (Derivation.case_unmatched f.visits (rw q p)) ends
  complete (case_number {n} m) k h a =
      let f = number_visit (complete m n refl (scrutinee_at b accepted a h)) in
      visited_as (case_becomes never_shared b accepted k a.below h) (Derivation.case_fails f.visits number_came) ends
  complete (case_fault {n} m) k h a =
      let f = fault_visit (complete m n refl (scrutinee_at b accepted a h)) in
      visited_as (case_becomes never_shared b accepted k a.below h) (Derivation.case_fails f.visits ended_first) ends
  complete (if_nonzero_law {n} {p} m q m') k h a =
      branch_visited false q (conditional_becomes never_shared b accepted k a.below h)
      (number_visit (complete m n refl (child_at b accepted a h refl condition)))
      (complete m' p refl (child_at b accepted a h refl if_nonzero))
  complete (if_zero_law {n} {q = j} m q m') k h a =
      branch_visited true q (conditional_becomes never_shared b accepted k a.below h)
      (number_visit (complete m n refl (child_at b accepted a h refl condition)))
      (complete m' j refl (child_at b accepted a h refl if_zero))
  complete (if_constructor {n} m) k h a =
      let f = constructor_visit (complete m n refl (child_at b accepted a h refl condition)) in
      visited_as (conditional_becomes never_shared b accepted k a.below h) (Derivation.if_fails f.visits constructor_came) ends
  complete (if_fault {n} m) k h a =
      let f = fault_visit (complete m n refl (child_at b accepted a h refl condition)) in
      visited_as (conditional_becomes never_shared b accepted k a.below h) (Derivation.if_fails f.visits ended_before) ends
  complete (operator_numbers {o} {l} {r} {x} {y} m m') k h a =
      let f = number_visit (complete m l refl (child_at b accepted a h refl left)) in
      let g = number_visit (complete m' r refl (child_at b accepted a h refl right)) in
      visited_as (operator_becomes never_shared b accepted k a.below h) (Derivation.operator_numbers f.visits g.visits) (result_agrees (computed o x y))
  complete (left_constructor {l} m) k h a =
      let f = constructor_visit (complete m l refl (child_at b accepted a h refl left)) in
      visited_as (operator_becomes never_shared b accepted k a.below h) (Derivation.left_fails f.visits constructor_came) ends
  complete (left_fault {l} m) k h a =
      let f = fault_visit (complete m l refl (child_at b accepted a h refl left)) in
      visited_as (operator_becomes never_shared b accepted k a.below h) (Derivation.left_fails f.visits ended_before) ends
  complete (right_constructor {l} {r} m m') k h a =
      let f = number_visit (complete m l refl (child_at b accepted a h refl left)) in
      let g = constructor_visit (complete m' r refl (child_at b accepted a h refl right)) in
      visited_as (operator_becomes never_shared b accepted k a.below h) (Derivation.right_fails f.visits g.visits constructor_came) ends
  complete (right_fault {l} {r} m m') k h a =
      let f = number_visit (complete m l refl (child_at b accepted a h refl left)) in
      let g = fault_visit (complete m' r refl (child_at b accepted a h refl right)) in
      visited_as (operator_becomes never_shared b accepted k a.below h) (Derivation.right_fails f.visits g.visits ended_before) ends
