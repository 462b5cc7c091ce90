-- Visits of a sheet translated with a label for each call are sound: what a visit ends with is what the sheet's node means, in
-- the setting that corresponds to the labels.
use mathlib.Core.Path.{◌≡◌, refl}
use Prim.Native.Nat.{ℕ}
use mathlib.Core.List.{List, ◌∷◌}
use mathlib.Core.Bool.{cond}
use lib.IntN.{ℤ}
use Rattle.definitions.specs.Layouts.{body_of}
use Rattle.definitions.specs.Operators.{computed, is_zero}
use Rattle.definitions.specs.SheetNodes.{SheetNode, sheet_node_of}
use Rattle.definitions.specs.TranslationNodes.{TranslationNode}
use Rattle.definitions.specs.Checks.{sheet_verdict}
use Rattle.definitions.specs.Labels.{never_shared}
use Rattle.definitions.specs.Translate.{unshared_translation}
use Rattle.definitions.specs.Rule.{Ending}
use Rattle.agreement.specs.Meaning.{Setting, end_of, Means}
use Rattle.agreement.specs.Meaning
use Rattle.definitions.specs.declared.Layout.TheVariants.{Translation}
use Rattle.definitions.specs.Verdict.{Accepted}
use Rattle.accepted.specs.Child.{left, right, condition}
use Rattle.accepted.proofs.Names.{parameter_below, call_below}
use Rattle.readback.proofs.Nodes.{body_read, tag_read}
use Rattle.rule_laws.specs.Derivations.{Trace, Derivation, number_itself, reading_value, tuple_itself, formal_actual, formal_beyond, formal_outside, call_body, select_field, select_beyond, select_tag}
use Rattle.rule_laws.specs.Derivations.{select_fails, case_chosen, case_unmatched, case_fails, if_chosen, if_fails, operator_numbers, left_fails, right_fails}
use Rattle.agreement.specs.Corresponds.{At, integers, constructors, Meant}
use Rattle.agreement.proofs.Corresponds.{child_at, branch_at, body_at, scrutinee_at, clause_at_law, argument_of_law, field_at, scrutinee_same}
use Rattle.agreement.proofs.Becomes.{Becomes, becomes_number, becomes_reading, becomes_formal, becomes_select, becomes_operator, becomes_conditional, becomes_call}
use Rattle.agreement.proofs.Becomes.{becomes_tuple, becomes_case, becomes}
use Rattle.agreement.proofs.Meant.{result_agrees, not_constructor, integer_meant, built_meant, left_meant, right_meant, if_meant, case_meant, branch_meant, fault_meant}
use Rattle.agreement.proofs.Meant.{call_meant, parameter_meant, parameter_listed, parameter_inside, scrutinee_ends, pattern_meant, pattern_listed}

module _ (b : List ℕ) (accepted : sheet_verdict b ≡ Accepted) {rs : List ℤ} where
  -- by the rule with which the visit ends
  pub sound : {k : ℕ} {nd : SheetNode} {td : TranslationNode} {ws : List ℕ} {c : Trace} {e : Ending (List ℕ)} {s : Setting}
      → Derivation (unshared_translation b) rs td k ws c e → Becomes b k nd td → sheet_node_of b k ≡ nd → At b rs k ws s
      → Meant b rs nd s e
  unfolding unshared_translation
  sound number_itself becomes_number h a = record { end = _; means = Means.number_itself; agrees = integers }
  sound reading_value becomes_reading h a = record { end = _; means = Means.reading_value; agrees = integers }
  sound tuple_itself becomes_tuple h a = record { end = _; means = Means.build_itself; agrees = constructors a h }
  sound {k} (formal_actual {n} g v) (becomes_formal p) h a =
      parameter_meant (argument_of_law b accepted a.corresponds (parameter_below b accepted k a.below h)) (rw p g)
      (λ u x. sound v (becomes b accepted n x.below) refl x)
  sound {k} (formal_beyond g) (becomes_formal p) h a =
      absurd (parameter_listed (argument_of_law b accepted a.corresponds (parameter_below b accepted k a.below h)) (rw p g))
  sound {k} formal_outside (becomes_formal p) h a =
      absurd (parameter_inside (argument_of_law b accepted a.corresponds (parameter_below b accepted k a.below h)) refl)
  sound {k} {ws} {s} (call_body {l} {f} v) (becomes_call {ns} p) h a =
      let q = body_read never_shared b accepted f (call_below b accepted k a.below h) in
      let x : At b rs (body_of Translation (unshared_translation b) f) (l ∷ ws) (Meaning.entered ns s) = rw q (rw p at (body_at b accepted a h)) in
      call_meant q (sound v (becomes b accepted (body_of Translation (unshared_translation b) f) x.below) refl x)
  sound (select_field {j} v g u) (becomes_select p) h a =
      pattern_meant (field_at b accepted a h) (scrutinee_same b accepted a h p) v g (λ w x. sound u (becomes b accepted j x.below) refl x)
  sound (select_beyond v g) (becomes_select p) h a = absurd (pattern_listed (field_at b accepted a h) (scrutinee_same b accepted a h p) v g)
  sound (select_fails v g) (becomes_select p) h a =
      absurd (not_constructor g (scrutinee_ends (field_at b accepted a h) (scrutinee_same b accepted a h p) v))
  sound (case_chosen {n} {m} {j} v g u) becomes_case h a =
      let x = scrutinee_at b accepted a h in
      let f = built_meant (sound v (becomes b accepted n x.below) refl x) in
      let y = rw (tag_read never_shared b accepted m f.at.below f.is) at g in
      let z = clause_at_law b accepted a h v f.at f.is y in
      let w = sound u (becomes b accepted j z.below) refl z in
      record { end = w.end; means = Means.case_chosen {e = w.end} f.means y w.means; agrees = w.agrees }
  sound (case_unmatched {n} {m} v g) becomes_case h a =
      let x = scrutinee_at b accepted a h in
      let f = built_meant (sound v (becomes b accepted n x.below) refl x) in
      fault_meant (Means.case_unmatched f.means (rw (tag_read never_shared b accepted m f.at.below f.is) at g))
  sound (case_fails {n} v g) becomes_case h a =
      let x = scrutinee_at b accepted a h in
      let f = sound v (becomes b accepted n x.below) refl x in
      fault_meant (case_meant f.agrees f.means g)
  sound (if_chosen {n} {p} {q} {z} v u) becomes_conditional h a =
      let x = child_at b accepted a h refl condition in
      let f = integer_meant (sound v (becomes b accepted n x.below) refl x) in
      let y = branch_at b accepted (is_zero z) a h in
      branch_meant (is_zero z) refl f (sound u (becomes b accepted (cond (is_zero z) q p) y.below) refl y)
  sound (if_fails {n} v g) becomes_conditional h a =
      let x = child_at b accepted a h refl condition in
      let f = sound v (becomes b accepted n x.below) refl x in
      fault_meant (if_meant f.agrees f.means g)
  sound (operator_numbers {o} {l} {r} {x} {y} v u) becomes_operator h a =
      let p = child_at b accepted a h refl left in
      let q = child_at b accepted a h refl right in
      let f = integer_meant (sound v (becomes b accepted l p.below) refl p) in
      let g = integer_meant (sound u (becomes b accepted r q.below) refl q) in
      record { end = end_of (computed o x y); means = Means.operator_numbers f g; agrees = result_agrees (computed o x y) }
  sound (left_fails {l} v g) becomes_operator h a =
      let p = child_at b accepted a h refl left in
      let f = sound v (becomes b accepted l p.below) refl p in
      fault_meant (left_meant f.agrees f.means g)
  sound (right_fails {l} {r} v u g) becomes_operator h a =
      let p = child_at b accepted a h refl left in
      let q = child_at b accepted a h refl right in
      let f = integer_meant (sound v (becomes b accepted l p.below) refl p) in
      let d = sound u (becomes b accepted r q.below) refl q in
      fault_meant (right_meant f d.agrees d.means g)
  sound {nd = nd} {s = s} (select_tag {n = n} {m = m} {k = k} {ws = ws} {vs = vs} _) x10 h a = elim x10 [ ]
