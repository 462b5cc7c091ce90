-- What a node of an accepted typed sheet ends with, in a setting that fits: a value of the node's type, or a fault that is no type error.
use mathlib.Core.Path.{◌≡◌, refl, sym, ap, subst, ◌∙◌}
use Prim.Native.Nat.{ℕ, ◌<◌}
use mathlib.Core.List.{List}
use mathlib.Core.Option.{Option, some}
use mathlib.Core.Bool.{true, false}
use native.Mathlib.Omega.{arith}
use lib.IntN.{ℤ}
use lib.Dec.{eqb}
use borrow.Author.Tests.{eqb-false}
use Rattle.definitions.specs.Layouts.{is_typed, nodes, body_of}
use Rattle.definitions.specs.Numbers.{number_wanted, constructor_wanted, no_clause, zero_divisor, overflow}
use Rattle.definitions.specs.Operators.{Computed}
use Rattle.definitions.specs.NodeFields.{Clause, chosen}
use Rattle.definitions.specs.SheetNodes.{SheetNode, pattern_variable, build, case_of, sheet_node_of}
use Rattle.definitions.specs.SheetRules.{clause_within}
use Rattle.definitions.specs.Types.{number_type, own_type, field_type, pattern_type, type_of}
use Rattle.definitions.specs.Checks.{sheet_verdict}
use Rattle.definitions.specs.declared.Layout.TheVariants.{Sheet}
use Rattle.definitions.specs.Verdict.{Accepted}
use Rattle.accepted.specs.Child.{left, right, condition, if_nonzero, if_zero}
use Rattle.accepted.proofs.Names.{parameter_below, call_below, build_below}
use Rattle.accepted.proofs.Clauses.{chosen_found}
use Rattle.accepted.proofs.Patterns.{pattern_held}
use Rattle.rule_laws.proofs.Computing.{Result, computed_result}
use Rattle.rule_laws.proofs.Computing
use Rattle.agreement.specs.Meaning.{Setting, Closure, End, end_of, value, fault, integer, built}
use Rattle.agreement.specs.Meaning.{Means, number_itself, reading_value, parameter_argument, call_body, build_itself, case_chosen, case_unmatched, case_number, case_fault}
use Rattle.agreement.specs.Meaning.{pattern_field, if_nonzero_law, if_zero_law, if_constructor, if_fault, operator_numbers, left_constructor, left_fault, right_constructor, right_fault}
use Rattle.typed_sheets.specs.TypeErrors.{NoTypeError}
use Rattle.typed_sheets.specs.Fits.{At, OfType, a_number, a_constructor, a_fault}
use Rattle.typed_sheets.proofs.Rules.{type_is, own_type_least, operands, arms, scrutinised, body_type, clause_type}
use Rattle.typed_sheets.proofs.Settings.{ClosureOf, child_at, body_at, scrutinee_at, clause_at_law, argument_of_law, field_of}

-- by an equal type
as_type : {b : List ℕ} {t u : ℕ} {e : End} → t ≡ u → OfType b u e → OfType b t e
as_type {b} {e} p x = subst (λ (a : ℕ). OfType b a e) (sym p) x

-- a number's type is 0; a fault is of every type
number_type_law : {b : List ℕ} {t : ℕ} {z : ℤ} → OfType b t (value (integer z)) → t ≡ number_type
number_type_law a_number = refl

any_type : {b : List ℕ} {t u n : ℕ} → OfType b t (fault n) → OfType b u (fault n)
any_type (a_fault p) = a_fault p

-- where a constructor was built
record BuiltAt (b : List ℕ) (t c : ℕ) (ns : List ℕ) (s : Setting) : Type 0 where
  node : ℕ
  at : At b node s
  is : sheet_node_of b node ≡ build c ns
  type : own_type b c ≡ t

built_at : {b : List ℕ} {t c : ℕ} {ns : List ℕ} {s : Setting} → OfType b t (value (built c ns s)) → BuiltAt b t c ns s
built_at (a_constructor {m} a h e) = record { node = m; at = a; is = h; type = e }

-- an outcome that is neither 14 nor 15
pub no_type_error : (n : ℕ) → eqb n number_wanted ≡ false → eqb n constructor_wanted ≡ false → NoTypeError n
no_type_error n p q = record { no_number_wanted = eqb-false n number_wanted p; no_constructor_wanted = eqb-false n constructor_wanted q }

-- an operator gives a number, or its fault is 17 or 20
result_type_law : (b : List ℕ) {o : ℕ} {x y : ℤ} {c : Computed} → Result o x y c → OfType b number_type (end_of c)
unfolding end_of
result_type_law b Computing.a_number = a_number
result_type_law b (Computing.out_of_range p q) = a_fault (no_type_error overflow refl refl)
result_type_law b Computing.no_divisor = a_fault (no_type_error zero_divisor refl refl)

-- a closure that is found is the one that has the type
closure_type : {b : List ℕ} {t : ℕ} {found : Option Closure} {c : Closure} {e : End} → ClosureOf b t found → found ≡ some c
    → (At b c.node c.setting → OfType b (type_of b c.node) e)
    → OfType b t e
closure_type {b} {t} {c} {e} x p f =
    let z : Path Closure (record { node = x.node; setting = x.setting }) c = let q = x.there in cc in
    let y : type_of b c.node ≡ t = subst (λ (o : Closure). type_of b o.node ≡ t) z x.type in
    as_type (sym y) (f (subst (λ (o : Closure). At b o.node o.setting) z x.at))

module _ (b : List ℕ) (accepted : sheet_verdict b ≡ Accepted) (typed : is_typed b ≡ true) where
  -- a constructor's type is not 0
  no_number : {t c : ℕ} {ns : List ℕ} {s : Setting} → OfType b t (value (built c ns s)) → t ≡ number_type → ⊥
  no_number {c} x e =
      let m = built_at x in
      omega (arith, own_type_least b accepted typed c (build_below b accepted m.node m.at.below m.is), m.type, e)

  -- the node that a constructor chooses has its case's type
  chosen_type : {k n m : ℕ} {cs : List Clause} (c : ℕ) → k < nodes b → sheet_node_of b k ≡ case_of n cs → chosen cs c ≡ some m → type_of b k ≡ type_of b m
  chosen_type {k} {m} {cs} c h e q =
      let f = chosen_found cs c m q in
      let p = clause_type b accepted typed k h e f.place f.there in
      sym (rw f.leads at p)

  -- a pattern variable's type is that of the field
  field_type_law : {k i c : ℕ} → k < nodes b → sheet_node_of b k ≡ pattern_variable i → clause_within b (nodes b) k ≡ some c → type_of b k ≡ field_type b c i
  field_type_law {k} {i} h e w = type_is b accepted k h e ∙ ap (pattern_type b i) w

  -- by the rule with which the node means its end
  pub end_type : {rs : List ℤ} {nd : SheetNode} {s : Setting} {e : End} → Means b rs nd s e → (k : ℕ) → sheet_node_of b k ≡ nd → At b k s
      → OfType b (type_of b k) e
  end_type number_itself k h a = as_type (type_is b accepted k a.below h) a_number
  end_type reading_value k h a = as_type (type_is b accepted k a.below h) a_number
  end_type build_itself k h a = a_constructor a h (sym (type_is b accepted k a.below h))
  end_type (parameter_argument {i} {c} p m) k h a =
      as_type (type_is b accepted k a.below h)
      (closure_type (argument_of_law b accepted typed i a.fits (parameter_below b accepted k a.below h)) p (λ x. end_type m c.node refl x))
  end_type (pattern_field {i} {c} p m) k h a =
      let w = pattern_held b accepted k a.below h in
      as_type (field_type_law a.below h w.within)
      (closure_type (field_of b accepted typed i (rw w.within at a.fits) w.below) p (λ x. end_type m c.node refl x))
  end_type (call_body {f} m) k h a =
      as_type (type_is b accepted k a.below h ∙ sym (body_type b accepted typed f (call_below b accepted k a.below h)))
      (end_type m (body_of Sheet b f) refl (body_at b accepted a h))
  end_type (case_chosen {n} {c} {m = j} m p m') k h a =
      let x = built_at (end_type m n refl (scrutinee_at b accepted a h)) in
      as_type (chosen_type c a.below h p) (end_type m' j refl (clause_at_law b accepted a h x.at x.is p))
  end_type (case_unmatched m p) k h a = a_fault (no_type_error no_clause refl refl)
  end_type (case_number {n} m) k h a =
      absurd (omega (arith, scrutinised b accepted typed k a.below h, number_type_law (end_type m n refl (scrutinee_at b accepted a h))))
  end_type (case_fault {n} m) k h a = any_type (end_type m n refl (scrutinee_at b accepted a h))
  end_type (if_nonzero_law {p} m q m') k h a =
      as_type (type_is b accepted k a.below h) (end_type m' p refl (child_at b accepted a h refl if_nonzero))
  end_type (if_zero_law {q = j} m q m') k h a =
      as_type (type_is b accepted k a.below h ∙ (arms b accepted typed k a.below h).1) (end_type m' j refl (child_at b accepted a h refl if_zero))
  end_type (if_constructor {n} m) k h a =
      absurd (no_number (end_type m n refl (child_at b accepted a h refl condition)) (arms b accepted typed k a.below h).0)
  end_type (if_fault {n} m) k h a = any_type (end_type m n refl (child_at b accepted a h refl condition))
  end_type (operator_numbers {o} {x} {y} m m') k h a = as_type (type_is b accepted k a.below h) (result_type_law b (computed_result o x y))
  end_type (left_constructor {l} m) k h a =
      absurd (no_number (end_type m l refl (child_at b accepted a h refl left)) (operands b accepted typed k a.below h).0)
  end_type (left_fault {l} m) k h a = any_type (end_type m l refl (child_at b accepted a h refl left))
  end_type (right_constructor {r} m m') k h a =
      absurd (no_number (end_type m' r refl (child_at b accepted a h refl right)) (operands b accepted typed k a.below h).1)
  end_type (right_fault {r} m m') k h a = any_type (end_type m' r refl (child_at b accepted a h refl right))
