-- Each record of a typed sheet with its types removed passes the checks of its shape, of what it names and of its arguments.
use mathlib.Core.Path.{◌≡◌, refl, sym, ap, ap₂, ◌∙◌, fun_ext}
use Prim.Native.Nat.{ℕ, ◌+◌, ◌≤◌, ◌<◌}
use mathlib.Core.List.{List, [], ◌∷◌}
use mathlib.Core.Bool.{true, ◌&&◌, and-eq-true_iff}
use native.Mathlib.Omega.{arith}
use native.Mathlib.Decide.{ℕ_discrete}
use lib.ListN.{length}
use borrow.Author.Tests.{le-leb, lt-leb, eq-eqb, ne_eqb, le-ltb, lt-ltb}
use Rattle.definitions.specs.Bytes.{word}
use Rattle.definitions.specs.Records.{start_of, record_at, record_of, kind_of, field}
use Rattle.definitions.specs.SheetKinds
use Rattle.definitions.specs.Kinds.{row, rows, row_in, row_of, allows}
use Rattle.definitions.specs.Ranges.{within}
use Rattle.definitions.specs.Sizes.{most_fields}
use Rattle.definitions.specs.Numbers.{out_of_range, bad_arguments}
use Rattle.definitions.specs.Verdicts.{◌and_then◌}
use Rattle.definitions.specs.Lists.{sum_of}
use Rattle.definitions.specs.Layouts.{is_typed, items, functions, nodes, first_node, due, constructor_kind, function_kind, section_kind, is_due, function_record, node_record, node_count}
use Rattle.definitions.specs.Shape.{head_counts, run_counts, typed_function_counts, counts, operator_code, shape}
use Rattle.definitions.specs.References.{parameters, arity, every_other, from_first, from_second, names_in_range, in_range, references}
use Rattle.definitions.specs.SheetRules.{arguments_match, arguments}
use Rattle.definitions.specs.Checks.{sheet_verdict}
use Rattle.definitions.specs.TypesRemoved.{types_removed}
use Rattle.definitions.specs.declared.Layout.TheVariants.{Sheet}
use Rattle.definitions.specs.Verdict.{Accepted}
use Rattle.laws.proofs.Ranges.{within_both}
use Rattle.laws.proofs.Records.{whole_is, record_length_law, record_word}
use Rattle.laws.proofs.Verdicts.{then_accepted, require_true}
use Rattle.laws.proofs.Shape.{counts_other, shape_accepted}
use Rattle.accepted.proofs.Records.{length_allowed, code_right, counts_right}
use Rattle.accepted.proofs.Head.{head_kind_law}
use Rattle.accepted.proofs.Sections.{arity_limit, typed_function_counts_law, node_kind_law}
use Rattle.accepted.proofs.Checks.{sheet_shape, sheet_in_range, arguments_match_law}
use Rattle.accepted.proofs.Names.{result_parameters}
use Rattle.readback.proofs.Made.{record_bytes_law}
use Rattle.readback.proofs.Fields.{kind_read}
use Rattle.readback.proofs.Passing.{names_there, no_mention}
use Rattle.readback.proofs.SectionsPass.{none_below}
use Rattle.typed_sheets.specs.UpToTypes.{EqualUpToTypes}
use Rattle.typed_sheets.proofs.SameChecks.{same_first_node, same_range, same_arguments}
use Rattle.typed_sheets.proofs.UntypedRecords.{removed_whole, head_stays, node_stays, no_types_left, constructor_bytes, function_bytes, constructor_untyped, function_untyped}
use Rattle.typed_sheets.proofs.UpToTypes.{Place, at_head, at_constructor, at_function, at_node, place, arity_read, parameters_read, count_read, equal_up_to_types}

-- record r of a sheet, and what the checks ask of it
record Passes (t : List ℕ) (r : ℕ) : Type 0 where
  bytes : List ℕ
  there : record_of t r ≡ bytes
  due : is_due Sheet t r (kind_of bytes) ≡ true
  allowed : allows (row_of (kind_of bytes)) (length bytes) ≡ true
  code : operator_code bytes ≡ true
  counts : counts Sheet t r bytes ≡ true
  named : in_range t r bytes ≡ true
  matched : arguments_match t r bytes ≡ true

module _ (b : List ℕ) (accepted : sheet_verdict b ≡ Accepted) (typed : is_typed b ≡ true) where
  equal : EqualUpToTypes (types_removed b) b
  equal = equal_up_to_types b accepted typed

  -- the head
  head_passes : Passes (types_removed b) 0
  unfolding is_due counts head_counts
  head_passes =
      let s = sheet_shape b accepted in
      record {
        bytes = record_of b 0;
        there = head_stays b s;
        due = rw (head_kind_law Sheet b s) refl;
        allowed = length_allowed Sheet b s 0 (omega arith);
        code = code_right Sheet b s 0 (omega arith);
        counts = rw (equal.readings, equal.items, equal.functions, equal.nodes) (counts_right Sheet b s 0 (omega arith));
        named = same_range equal 0 (record_of b 0) ∙ sheet_in_range b accepted 0 (omega arith);
        matched = same_arguments equal 0 (record_of b 0) ∙ arguments_match_law b accepted 0 (omega arith);
      }

  -- a constructor
  constructor_passes : (c : ℕ) → c < items b → Passes (types_removed b) (1 + c)
  unfolding is_due section_kind constructor_kind row_of rows row_in row allows operator_code counts names_in_range every_other from_first from_second arguments_match
  constructor_passes c h =
      let t = types_removed b in
      let s = sheet_shape b accepted in
      let fs = arity b c ∷ [] in
      let rec = constructor_bytes b c in
      let k : kind_of rec ≡ SheetKinds.constructor = kind_read SheetKinds.constructor fs (omega arith) in
      let n : 1 + c < first_node t = rw (same_first_node equal) (omega arith) in
      let i : 1 + c ≤ items t = rw equal.items (omega arith) in
      record {
        bytes = rec;
        there = constructor_untyped b s typed c h;
        due = rw (k, ne_eqb (1 + c) 0 (λ e. omega (arith, e)), lt-ltb (1 + c) (first_node t) n, le-leb (1 + c) (items t) i, no_types_left b s) refl;
        allowed = rw (k, record_bytes_law SheetKinds.constructor fs) (refl {a = true});
        code = rw k refl;
        counts =
            rw (ne_eqb (1 + c) 0 (λ e. omega (arith, e)), k, arity_read b accepted c h)
            (within_both 0 most_fields (arity b c) (omega arith) (arity_limit b s c h));
        named = names_there t (1 + c) rec (none_below t rec (no_mention rec SheetKinds.constructor k refl refl refl)) (rw k refl);
        matched = rw (ne_eqb (1 + c) (1 + items t) (λ e. omega (arith, e, i)), k) refl;
      }

  -- a function: the sheet with types has the same counts
  same_run : (f : ℕ) → f < functions b
      → run_counts Sheet (types_removed b) (1 + items b + f) (function_bytes b f) ≡ run_counts Sheet b (1 + items b + f) (function_record Sheet b f)
  unfolding run_counts
  same_run f h =
      rw (count_read b accepted f h, ap₂ sum_of equal.functions (fun_ext equal.counts), equal.items, equal.functions, equal.nodes) refl

  function_counts : (f : ℕ) → f < functions b
      → (within 0 most_fields (parameters b f) && run_counts Sheet (types_removed b) (1 + items b + f) (function_bytes b f)) ≡ true
  unfolding typed_function_counts
  function_counts f h =
      let counts = within 0 most_fields (parameters b f) && run_counts Sheet b (1 + items b + f) (function_record Sheet b f) in
      rw (same_run f h) ((and-eq-true_iff counts _).0 (typed_function_counts_law b (sheet_shape b accepted) f h typed)).0

  -- "`result` has parameters" is 7: it has none
  result_matches : (f : ℕ) → f < functions b → arguments_match (types_removed b) (1 + items b + f) (function_bytes b f) ≡ true
  unfolding arguments_match
  result_matches f h =
      elim (ℕ_discrete f 0) [
        | yes e ↦
            let q : field (function_bytes b f) 0 ≡ 0 = parameters_read b accepted f h ∙ ap (λ g. parameters b g) e ∙ result_parameters b accepted in
            rw (equal.items, eq-eqb (1 + items b + f) (1 + items b) (omega (arith, e)), q) refl
        | no e ↦
            let k : kind_of (function_bytes b f) ≡ SheetKinds.function =
            kind_read SheetKinds.function (parameters b f ∷ node_count Sheet b f ∷ []) (omega arith) in
            rw (equal.items, ne_eqb (1 + items b + f) (1 + items b) (λ p. omega (arith, e, p)), k) refl
      ]

  function_passes : (f : ℕ) → f < functions b → Passes (types_removed b) (1 + items b + f)
  unfolding is_due section_kind function_kind row_of rows row_in row allows operator_code counts names_in_range every_other from_first from_second
  function_passes f h =
      let t = types_removed b in
      let s = sheet_shape b accepted in
      let r = 1 + items b + f in
      let fs = parameters b f ∷ node_count Sheet b f ∷ [] in
      let rec = function_bytes b f in
      let k : kind_of rec ≡ SheetKinds.function = kind_read SheetKinds.function fs (omega arith) in
      let n : r < first_node t = rw (same_first_node equal) (omega arith) in
      let i : items t < r = rw equal.items (omega arith) in
      record {
        bytes = rec;
        there = function_untyped b s typed f h;
        due = rw (k, ne_eqb r 0 (λ e. omega (arith, e)), lt-ltb r (first_node t) n, lt-leb r (items t) i, no_types_left b s) refl;
        allowed = rw (k, record_bytes_law SheetKinds.function fs) (refl {a = true});
        code = rw k refl;
        counts =
            rw (ne_eqb r 0 (λ e. omega (arith, e)), k, parameters_read b accepted f h) (function_counts f h);
        named = names_there t r rec (none_below t rec (no_mention rec SheetKinds.function k refl refl refl)) (rw k refl);
        matched = result_matches f h;
      }

  -- a node
  node_passes : (k : ℕ) → k < nodes b → Passes (types_removed b) (first_node b + k)
  unfolding is_due
  node_passes k h =
      let t = types_removed b in
      let s = sheet_shape b accepted in
      let r = first_node b + k in
      let rec = node_record b k in
      let d = node_kind_law Sheet b s k h in
      let l = d.least in
      let g = d.greatest in
      let n : first_node t ≤ r = rw (same_first_node equal) (omega arith) in
      record {
        bytes = rec;
        there = node_stays b s k;
        due = rw (ne_eqb r 0 (λ e. omega (arith, e)), le-ltb r (first_node t) n, le-leb SheetKinds.number (kind_of rec) l, le-leb (kind_of rec) SheetKinds.case_of g) refl;
        allowed = length_allowed Sheet b s r (omega arith);
        code = code_right Sheet b s r (omega arith);
        counts =
            sym (counts_other Sheet t rec r (kind_of rec) (λ e. omega (arith, e)) refl (λ e. omega (arith, e, l)) (λ e. omega (arith, e, l))
            (λ e. omega (arith, e, l)) (λ e. omega (arith, e, l)) (λ e. omega (arith, e, g)));
        named = same_range equal r rec ∙ sheet_in_range b accepted r (omega arith);
        matched = same_arguments equal r rec ∙ arguments_match_law b accepted r (omega arith);
      }

  passes_at : (r : ℕ) → r < due b → Place b r → Passes (types_removed b) r
  passes_at r h (at_head e) = rw e head_passes
  passes_at r h (at_constructor c l e) = rw e (constructor_passes c l)
  passes_at r h (at_function f l e) = rw e (function_passes f l)
  passes_at r h (at_node k e) = rw e (node_passes k (omega (arith, h, e)))

  -- each record that is due passes
  module _ (r : ℕ) (h : r < due b) where
    passes : Passes (types_removed b) r
    passes = passes_at r h (place b r)

    pub shape_passes : shape Sheet (types_removed b) r ≡ Accepted
    unfolding shape record_of
    shape_passes =
        let t = types_removed b in
        let p = passes in
        let at = start_of t r in
        let e : record_at t at ≡ p.bytes = p.there in
        let w = removed_whole b (sheet_shape b accepted) r h in
        let i = whole_is t at w in
        let n : length p.bytes ≡ word t at = sym (ap length e) ∙ record_length_law t at w in
        let k : kind_of p.bytes ≡ word t (at + 2) = ap kind_of (sym e) ∙ record_word t at 2 w (omega (arith, i.least)) in
        sym (shape_accepted Sheet t r at (omega (arith, i.least, i.inside)) (omega (arith, i.least, i.inside)) (kind_of p.bytes) (length p.bytes) k n
        true (sym p.due) refl true (sym p.allowed) refl (omega (arith, i.inside, n)) p.bytes (sym e)
        true (sym p.code) refl true (sym p.counts) refl)

    pub names_pass : (references (types_removed b) r and_then arguments (types_removed b) r) ≡ Accepted
    unfolding references arguments
    names_pass =
        let p = passes in
        then_accepted _ _ (require_true _ out_of_range r (rw p.there p.named)) ∙ require_true _ bad_arguments r (rw p.there p.matched)
