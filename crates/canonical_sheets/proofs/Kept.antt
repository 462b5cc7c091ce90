-- What the canonical file keeps of the sheet's functions and constructors, and whose each node is; and that the records before the
-- nodes pass the checks of shape, references and arguments.
use mathlib.Core.Path.{◌≡◌, refl, sym, ap, ◌∙◌}
use Prim.Native.Nat.{ℕ, suc, ◌+◌, ◌*◌, ◌-◌, ◌<◌}
use mathlib.Core.List.{List, []}
use mathlib.Core.Bool.{Bool, true, false}
use native.Mathlib.Omega.{arith}
use native.Mathlib.Nat.{not-suc-le-zero}
use native.Mathlib.Decide.{ℕ_discrete, dec_lt}
use lib.ListN.{length}
use lib.Dec.{leb}
use borrow.Author.Tests.{ne_eqb}
use Rattle.definitions.specs.Bytes.{word}
use Rattle.definitions.specs.Records.{whole, start_of, record_at, record_of, kind_of, field, field_count}
use Rattle.definitions.specs.SheetKinds
use Rattle.definitions.specs.TranslationKinds
use Rattle.definitions.specs.Kinds.{row_of, allows}
use Rattle.definitions.specs.Numbers.{out_of_range, bad_arguments}
use Rattle.definitions.specs.Verdicts.{◌and_then◌}
use Rattle.definitions.specs.Layouts.{is_typed, items, functions, nodes, first_node, due, is_due, constructor_kind, function_kind, section_kind, run_end, owner_of}
use Rattle.definitions.specs.Shape.{head_counts, run_counts, typed_function_counts, counts, operator_code, shape, file_shape}
use Rattle.definitions.specs.References.{parameters, arity, names_in_range, in_range, references}
use Rattle.definitions.specs.SheetRules.{arguments_match, arguments, is_body}
use Rattle.definitions.specs.Checks.{sheet_verdict}
use Rattle.definitions.specs.CanonicalSheet.{canonical}
use Rattle.definitions.specs.declared.Layout.TheVariants.{Sheet}
use Rattle.definitions.specs.Verdict.{Accepted}
use Rattle.laws.proofs.Records.{whole_is, record_none, record_length_law, record_word}
use Rattle.laws.proofs.Verdicts.{then_accepted, require_true}
use Rattle.laws.proofs.Shape.{shape_accepted}
use Rattle.accepted.proofs.Counts.{count_same}
use Rattle.accepted.proofs.Records.{kind_due, length_allowed, code_right, counts_right, record_fields}
use Rattle.accepted.proofs.Head.{head_kind_law, nodes_least}
use Rattle.accepted.proofs.Sections.{constructor_kind_law, sheet_function_kind}
use Rattle.accepted.proofs.Owners.{owner_below}
use Rattle.accepted.proofs.Checks.{sheet_shape, sheet_in_range, arguments_match_law}
use Rattle.canonical_sheets.proofs.ReadBack.{readings_read, items_read, functions_read, nodes_read, typed_read, first_node_read}
use Rattle.canonical_sheets.proofs.ReadBack.{section_read, item_read, function_read, counts_read, body_read}

-- a record that is not empty is whole, and passes the check of its shape if its parts do
shown_whole : (b : List ℕ) (at : ℕ) (t : Bool) → whole b at ≡ t → 0 < length (record_at b at) → whole b at ≡ true
shown_whole b at true e h = e
shown_whole b at false e h =
    let z : [] ≡ record_at b at = record_none b at false (sym e) refl in
    let o : 0 < 0 = rw (← z) at h in
    absurd (not-suc-le-zero o)

pub pass_shape : (c : List ℕ) (r n : ℕ) → length (record_of c r) ≡ 4 + n → is_due Sheet c r (kind_of (record_of c r)) ≡ true
    → allows (row_of (kind_of (record_of c r))) (length (record_of c r)) ≡ true → operator_code (record_of c r) ≡ true
    → counts Sheet c r (record_of c r) ≡ true → shape Sheet c r ≡ Accepted
unfolding shape record_of
pass_shape c r n l d a o t =
    let at = start_of c r in
    let w = shown_whole c at (whole c at) refl (omega (arith, l)) in
    let i = (whole_is c at w).inside in
    let m : length (record_at c at) ≡ word c at = record_length_law c at w in
    let k : kind_of (record_at c at) ≡ word c (at + 2) = record_word c at 2 w (omega (arith, l, m)) in
    sym (shape_accepted Sheet c r at (omega (arith, i)) (omega (arith, i, l, m)) (kind_of (record_at c at)) (length (record_at c at)) k m
    true (sym d) refl true (sym a) refl (omega (arith, i, m)) (record_at c at) refl true (sym o) refl true (sym t) refl)

-- references and arguments that match
pub pass_names : (c : List ℕ) (r : ℕ) → in_range c r (record_of c r) ≡ true → arguments_match c r (record_of c r) ≡ true
    → (references c r and_then arguments c r) ≡ Accepted
unfolding references arguments
pass_names c r x y = then_accepted _ _ (require_true _ out_of_range r x) ∙ require_true _ bad_arguments r y

module _ (b : List ℕ) (accepted : sheet_verdict b ≡ Accepted) where
  abbrev form : List ℕ
  form = canonical b

  abbrev shaped : file_shape Sheet b ≡ Accepted
  shaped = sheet_shape b accepted

  pub parameters_kept : (f : ℕ) → f < functions b → parameters form f ≡ parameters b f
  parameters_kept f h = ap (λ (rec : List ℕ). field rec 0) (function_read b accepted f h)

  pub arity_kept : (i : ℕ) → i < items b → arity form i ≡ arity b i
  arity_kept i h = ap (λ (rec : List ℕ). field rec 0) (item_read b accepted i h)

  end_kept : (f : ℕ) → f < functions b → run_end Sheet form f ≡ run_end Sheet b f
  unfolding run_end
  end_kept f h = counts_read b accepted (suc f) h

  pub owner_kept : (q : ℕ) → owner_of Sheet form q ≡ owner_of Sheet b q
  unfolding owner_of
  owner_kept q =
      rw (functions_read b accepted)
      (count_same (functions b) (λ f. leb (run_end Sheet form f) q) (λ f. leb (run_end Sheet b f) q) (λ f h. rw (end_kept f h) refl))

  pub body_kept : (q : ℕ) → q < nodes b → is_body form q ≡ is_body b q
  unfolding is_body
  body_kept q h = rw (owner_kept q, body_read b accepted (owner_of Sheet b q) (owner_below Sheet b shaped q h)) refl

  -- the checks of a record that stays
  due_kept : (r k : ℕ) → is_due Sheet form r k ≡ is_due Sheet b r k
  unfolding is_due section_kind constructor_kind function_kind
  due_kept r k = rw (items_read b accepted, functions_read b accepted, typed_read b accepted) refl

  counts_kept : (r : ℕ) (rec : List ℕ) → kind_of rec < SheetKinds.number → counts Sheet form r rec ≡ counts Sheet b r rec
  unfolding counts head_counts run_counts typed_function_counts
  counts_kept r rec h =
      rw (
        ne_eqb (kind_of rec) TranslationKinds.function (λ e. omega (arith, e, h)),
        functions_read b accepted,
        counts_read b accepted (functions b) (omega arith),
        readings_read b accepted,
        items_read b accepted,
        nodes_read b accepted,
      ) refl

  -- a record before the nodes is of a smaller kind than they
  small_constructor : (t : Bool) → is_typed b ≡ t → constructor_kind b < SheetKinds.number
  unfolding constructor_kind
  small_constructor true e = rw e (omega arith)
  small_constructor false e = rw e (omega arith)

  small_function : (t : Bool) → is_typed b ≡ t → function_kind b < SheetKinds.number
  unfolding function_kind
  small_function true e = rw e (omega arith)
  small_function false e = rw e (omega arith)

  section_kind_law : (r : ℕ) → r < first_node b → kind_of (record_of b r) < SheetKinds.number
  section_kind_law r h =
      elim (ℕ_discrete r 0) [
        | yes e ↦ rw (e, head_kind_law Sheet b shaped) (omega arith)
        | no e ↦ elim (dec_lt r (1 + items b)) [
          | yes l ↦
              let z : 1 + (r - 1) ≡ r = omega (arith, e) in
              rw (rw z at (constructor_kind_law b shaped (r - 1) (omega (arith, l, e)))) (small_constructor (is_typed b) refl)
          | no l ↦
              let z : 1 + items b + (r - (1 + items b)) ≡ r = omega (arith, l) in
              rw (rw z at (sheet_function_kind b shaped (r - (1 + items b)) (omega (arith, l, h)))) (small_function (is_typed b) refl)
        ]
      ]

  pub section_shape : (r : ℕ) → r < first_node b → shape Sheet form r ≡ Accepted
  section_shape r h =
      let e = section_read b accepted r h in
      let l : r < due b = omega (arith, h) in
      pass_shape form r (2 * field_count (record_of b r)) (rw e (record_fields Sheet b shaped r l))
      (rw e (due_kept r (kind_of (record_of b r)) ∙ kind_due Sheet b shaped r l)) (rw e (length_allowed Sheet b shaped r l))
      (rw e (code_right Sheet b shaped r l)) (rw e (counts_kept r (record_of b r) (section_kind_law r h) ∙ counts_right Sheet b shaped r l))

  range_kept : (r : ℕ) (rec : List ℕ) → r < first_node b → in_range form r rec ≡ in_range b r rec
  unfolding in_range names_in_range
  range_kept r rec h =
      let z : r - first_node b ≡ 0 = omega (arith, h) in
      let p : parameters form (owner_of Sheet form (r - first_node form)) ≡ parameters b (owner_of Sheet b (r - first_node b))
      = rw (first_node_read b accepted, z, owner_kept 0) (parameters_kept (owner_of Sheet b 0) (owner_below Sheet b shaped 0 (nodes_least Sheet b shaped))) in
      rw (p, nodes_read b accepted, readings_read b accepted, functions_read b accepted, items_read b accepted) refl

  arguments_kept : (r : ℕ) (rec : List ℕ) → kind_of rec < SheetKinds.number → arguments_match form r rec ≡ arguments_match b r rec
  unfolding arguments_match
  arguments_kept r rec h =
      rw (ne_eqb (kind_of rec) SheetKinds.call (λ e. omega (arith, e, h)), ne_eqb (kind_of rec) SheetKinds.build (λ e. omega (arith, e, h)), items_read b accepted) refl

  pub section_names : (r : ℕ) → r < first_node b → (references form r and_then arguments form r) ≡ Accepted
  section_names r h =
      let e = section_read b accepted r h in
      let l : r < due b = omega (arith, h) in
      pass_names form r (rw e (range_kept r (record_of b r) h ∙ sheet_in_range b accepted r l))
      (rw e (arguments_kept r (record_of b r) (section_kind_law r h) ∙ arguments_match_law b accepted r l))
