-- A typed sheet and the sheet with its types removed are equal up to types.
use mathlib.Core.Path.{◌≡◌, refl, sym, ap, ◌∙◌}
use Prim.Native.Nat.{ℕ, ◌+◌, ◌-◌, ◌<◌}
use mathlib.Core.List.{List, [], ◌∷◌}
use mathlib.Core.Bool.{true}
use native.Mathlib.Omega.{arith}
use native.Mathlib.Decide.{ℕ_discrete, dec_lt}
use lib.ListN.{length}
use Rattle.definitions.specs.Bytes.{word}
use Rattle.definitions.specs.Records.{whole, start_of, record_at, record_of, field}
use Rattle.definitions.specs.SheetKinds
use Rattle.definitions.specs.Layouts.{is_typed, items, functions, first_node, node_count}
use Rattle.definitions.specs.References.{parameters, arity}
use Rattle.definitions.specs.Checks.{sheet_verdict}
use Rattle.definitions.specs.TypesRemoved.{types_removed}
use Rattle.definitions.specs.declared.Layout.TheVariants.{Sheet}
use Rattle.definitions.specs.Verdict.{Accepted}
use Rattle.laws.proofs.Records.{record_length_law, record_word}
use Rattle.accepted.proofs.Records.{record_whole}
use Rattle.accepted.proofs.Sections.{arity_limit}
use Rattle.accepted.proofs.Checks.{sheet_shape}
use Rattle.readback.proofs.Fields.{Fit, fit_none, fit_more, field_read}
use Rattle.readback.proofs.Fitting.{function_writable}
use Rattle.typed_sheets.specs.UpToTypes.{EqualUpToTypes}
use Rattle.typed_sheets.proofs.UntypedRecords.{removed_whole, head_stays, node_stays, head_length, constructor_bytes, function_bytes, constructor_untyped, function_untyped}

-- a word of the head is read from the file's start
head_word : (b : List ℕ) (j : ℕ) → whole b 0 ≡ true → length (record_at b 0) ≡ 12 → j + 1 < 12 → word (record_at b 0) j ≡ word b j
head_word b j w l h =
    let z : 0 + j ≡ j = omega arith in
    rw z at (record_word b 0 j w (omega (arith, record_length_law b 0 w, l, h)))

-- the place of record r: the head, a constructor, a function, or from the first node on
pub data Place (b : List ℕ) (r : ℕ) : Type 0 where
  at_head : r ≡ 0 → Place b r
  at_constructor : (c : ℕ) → c < items b → r ≡ 1 + c → Place b r
  at_function : (f : ℕ) → f < functions b → r ≡ 1 + items b + f → Place b r
  at_node : (k : ℕ) → r ≡ first_node b + k → Place b r

pub place : (b : List ℕ) (r : ℕ) → Place b r
place b r =
    elim (ℕ_discrete r 0) [
      | yes e ↦ at_head e
      | no e ↦ elim (dec_lt r (1 + items b)) [
        | yes h ↦ at_constructor (r - 1) (omega (arith, e, h)) (omega (arith, e))
        | no h ↦ elim (dec_lt r (first_node b)) [
          | yes g ↦ at_function (r - (1 + items b)) (omega (arith, h, g)) (omega (arith, h))
          | no g ↦ at_node (r - first_node b) (omega (arith, g))
        ]
      ]
    ]

module _ (b : List ℕ) (accepted : sheet_verdict b ≡ Accepted) where
  -- the head's counts
  same_word : (j : ℕ) → j + 1 < 12 → word (types_removed b) j ≡ word b j
  unfolding record_of start_of
  same_word j h =
      let s = sheet_shape b accepted in
      let p = head_stays b s in
      let l = head_length b s in
      sym (head_word (types_removed b) j (removed_whole b s 0 (omega arith)) (ap length p ∙ l) h)
      ∙ ap (λ (rec : List ℕ). word rec j) p
      ∙ head_word b j (record_whole Sheet b s 0 (omega arith)) l h

  same_items : items (types_removed b) ≡ items b
  same_items = same_word 6 (omega arith)

  same_functions : functions (types_removed b) ≡ functions b
  same_functions = same_word 8 (omega arith)

  -- the fields of a constructor and of a function
  pub arity_read : (c : ℕ) → c < items b → field (constructor_bytes b c) 0 ≡ arity b c
  arity_read c h =
      let l = arity_limit b (sheet_shape b accepted) c h in
      field_read SheetKinds.constructor (arity b c ∷ []) (fit_more (arity b c) [] (omega (arith, l)) fit_none) 0

  module _ (f : ℕ) (h : f < functions b) where
    function_fit : Fit (parameters b f ∷ node_count Sheet b f ∷ [])
    function_fit =
        let w = (function_writable b accepted f h).fit in
        fit_more (parameters b f) (node_count Sheet b f ∷ []) (w.each 1) (fit_more (node_count Sheet b f) [] (w.each 0) fit_none)

    pub parameters_read : field (function_bytes b f) 0 ≡ parameters b f
    parameters_read = field_read SheetKinds.function (parameters b f ∷ node_count Sheet b f ∷ []) function_fit 0

    pub count_read : field (function_bytes b f) 1 ≡ node_count Sheet b f
    count_read = field_read SheetKinds.function (parameters b f ∷ node_count Sheet b f ∷ []) function_fit 1

  module _ (typed : is_typed b ≡ true) where
    -- arities and parameters: field 0 of every record
    same_field_law : (r : ℕ) → Place b r → field (record_of (types_removed b) r) 0 ≡ field (record_of b r) 0
    same_field_law r (at_head e) = rw (e, head_stays b (sheet_shape b accepted)) refl
    same_field_law r (at_constructor c h e) = rw (e, constructor_untyped b (sheet_shape b accepted) typed c h) (arity_read c h)
    same_field_law r (at_function f h e) = rw (e, function_untyped b (sheet_shape b accepted) typed f h) (parameters_read f h)
    same_field_law r (at_node k e) = rw (e, node_stays b (sheet_shape b accepted) k) refl

    same_count : (f : ℕ) → field (record_of (types_removed b) (1 + items b + f)) 1 ≡ node_count Sheet b f
    same_count f =
        elim (dec_lt f (functions b)) [
          | yes h ↦ rw (function_untyped b (sheet_shape b accepted) typed f h) (count_read f h)
          | no h ↦
              let z : first_node b + (f - functions b) ≡ 1 + items b + f = omega (arith, h) in
              ap (λ (rec : List ℕ). field rec 1) (rw z at (node_stays b (sheet_shape b accepted) (f - functions b)))
        ]

    pub equal_up_to_types : EqualUpToTypes (types_removed b) b
    equal_up_to_types =
        record {
          readings = same_word 4 (omega arith);
          items = same_items;
          functions = same_functions;
          nodes = same_word 10 (omega arith);
          arities = λ c. same_field_law (1 + c) (place b (1 + c));
          parameters = λ f. rw same_items (same_field_law (1 + items b + f) (place b (1 + items b + f)));
          counts = λ f. rw same_items (same_count f);
          records = λ k. rw (same_items, same_functions) (node_stays b (sheet_shape b accepted) k);
        }
