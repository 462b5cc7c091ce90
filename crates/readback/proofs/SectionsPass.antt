-- The head, the functions and the formals of an accepted sheet's translation pass the checks of a translation.
use mathlib.Core.Path.{◌≡◌, refl, sym, ◌∙◌}
use Prim.Native.Nat.{ℕ, suc, ◌+◌, ◌*◌, ◌≤◌, ◌<◌}
use mathlib.Core.List.{List, [], ◌∷◌}
use mathlib.Core.Bool.{Bool, true, false, cond}
use native.Mathlib.Omega.{arith}
use lib.ListN.{length}
use lib.Dec.{eqb}
use borrow.Author.Tests.{le-leb, eq-eqb}
use Rattle.definitions.specs.Sizes.{most_nodes}
use Rattle.definitions.specs.Bytes.{bytes_of}
use Rattle.definitions.specs.Records.{kind_of}
use Rattle.definitions.specs.TranslationKinds
use Rattle.definitions.specs.Kinds.{row, rows, row_in, row_of, allows}
use Rattle.definitions.specs.Lists.{sum_of}
use Rattle.definitions.specs.Layouts.{readings, items, functions, nodes, first_node, is_due, node_count, parameter_count}
use Rattle.definitions.specs.Shape.{head_counts, run_counts, parameter_counts, counts, operator_code}
use Rattle.definitions.specs.References.{parameters, from_first, from_second, every_other, children, child, names_in_range}
use Rattle.definitions.specs.Checks.{sheet_verdict}
use Rattle.definitions.specs.Labels.{Labelling, actuals}
use Rattle.definitions.specs.Translate.{record_words, formal_of, formals, head_words, function_words, translation_by}
use Rattle.definitions.specs.declared.Layout.TheVariants.{Sheet, Translation}
use Rattle.definitions.specs.Verdict.{Accepted}
use Rattle.laws.proofs.Ranges.{within_both}
use Rattle.laws.proofs.Shape.{due_section, section_function, section_formal, counts_run, counts_other}
use Rattle.accepted.proofs.Sums.{sum_same}
use Rattle.accepted.proofs.Head.{readings_limit, functions_least, functions_limit, nodes_least, nodes_limit}
use Rattle.accepted.proofs.Sections.{parameters_limit, node_count_least, node_counts_sum}
use Rattle.accepted.proofs.TranslationNames.{list_mentions, list_mention}
use Rattle.accepted.proofs.Checks.{sheet_shape}
use Rattle.readback.proofs.Fields.{element_is, kind_read, count_read, field_read}
use Rattle.readback.proofs.Labels.{actuals_limit, actuals_below}
use Rattle.readback.proofs.Fitting.{function_fields, formals_limit, formal_in_range, function_writable, formal_writable}
use Rattle.readback.proofs.Records.{formal_part, translation_readings, translation_items, translation_functions, translation_nodes, head_written, function_written, formal_written}
use Rattle.readback.proofs.Nodes.{node_count_read, parameter_count_read}
use Rattle.readback.proofs.Passing.{Passes, row_allows, names_there, no_mention}

-- no node is named where there is no place for one
pub none_below : (t rec : List ℕ) → children rec ≡ 0 → (j : ℕ) → j < children rec → child rec j < nodes t
none_below t rec e j h = absurd (omega (arith, e, h))

both_ways : (t : Bool) → cond t true true ≡ true
both_ways true = refl
both_ways false = refl

module _ (same : Labelling) (b : List ℕ) (accepted : sheet_verdict b ≡ Accepted) where
  head_counts_law : head_counts Translation (translation_by same b) ≡ true
  unfolding head_counts
  head_counts_law =
      let t = translation_by same b in
      let s = sheet_shape b accepted in
      let i : readings t ≤ 32 = rw (translation_readings same b accepted) (readings_limit Sheet b s) in
      let m : items t ≤ 512 = rw (translation_items same b accepted) (formals_limit b accepted) in
      let f : 1 ≤ functions t = rw (translation_functions same b accepted) (functions_least Sheet b s) in
      let g : functions t ≤ 64 = rw (translation_functions same b accepted) (functions_limit Sheet b s) in
      let n : 1 ≤ nodes t = rw (translation_nodes same b accepted) (nodes_least Sheet b s) in
      let o : nodes t ≤ most_nodes = rw (translation_nodes same b accepted) (nodes_limit Sheet b s) in
      rw (
        within_both 0 32 (readings t) (omega arith) i,
        within_both 0 512 (items t) (omega arith) m,
        within_both 1 64 (functions t) f g,
        within_both 1 most_nodes (nodes t) n o,
      ) refl

  pub head_passes : Passes (translation_by same b) 0 TranslationKinds.head (readings b ∷ formals b ∷ functions b ∷ nodes b ∷ [])
  unfolding head_words is_due row_of rows row_in row allows operator_code counts names_in_range every_other from_first from_second
  head_passes =
      let fs = readings b ∷ formals b ∷ functions b ∷ nodes b ∷ [] in
      let rec = bytes_of (record_words TranslationKinds.head fs) in
      let k : kind_of rec ≡ TranslationKinds.head = kind_read TranslationKinds.head fs (omega arith) in
      record {
        there = head_written same b accepted;
        small = omega arith;
        due = refl;
        allowed = refl;
        code = rw k refl;
        counts = head_counts_law;
        named = names_there (translation_by same b) 0 rec (none_below (translation_by same b) rec (no_mention rec TranslationKinds.head k refl refl refl)) (rw k refl);
      }

  -- a function's counts: its own is not 0, and all sum to the nodes
  counts_sum : sum_of (functions (translation_by same b)) (node_count Translation (translation_by same b)) ≡ nodes (translation_by same b)
  counts_sum =
      rw (translation_functions same b accepted, translation_nodes same b accepted)
      (sum_same (functions b) (node_count Translation (translation_by same b)) (node_count Sheet b) (node_count_read same b accepted)
      ∙ node_counts_sum Sheet b (sheet_shape b accepted))

  run_counts_law : (f : ℕ) → f < functions b
      → run_counts Translation (translation_by same b) (1 + f) (bytes_of (record_words TranslationKinds.function (function_fields b f))) ≡ true
  unfolding run_counts
  run_counts_law f h =
      let t = translation_by same b in
      let l = node_count_least Sheet b (sheet_shape b accepted) f h in
      rw (
        field_read TranslationKinds.function (function_fields b f) (function_writable b accepted f h).fit 0,
        le-leb 1 (node_count Sheet b f) l,
        eq-eqb (sum_of (functions t) (node_count Translation t)) (nodes t) counts_sum,
      )
      (both_ways (eqb (suc (1 + f)) (1 + functions t)))

  -- its parameters are at most eight, and all sum to the formals
  parameters_sum : sum_of (functions (translation_by same b)) (parameter_count (translation_by same b)) ≡ items (translation_by same b)
  unfolding formals
  parameters_sum =
      rw (translation_functions same b accepted, translation_items same b accepted)
      (sum_same (functions b) (parameter_count (translation_by same b)) (parameters b) (parameter_count_read same b accepted))

  parameter_counts_law : (f : ℕ) → f < functions b
      → parameter_counts (translation_by same b) (1 + f) (bytes_of (record_words TranslationKinds.function (function_fields b f))) ≡ true
  unfolding parameter_counts
  parameter_counts_law f h =
      let t = translation_by same b in
      rw (
        field_read TranslationKinds.function (function_fields b f) (function_writable b accepted f h).fit 1,
        within_both 0 8 (parameters b f) (omega arith) (parameters_limit b (sheet_shape b accepted) f h),
        eq-eqb (sum_of (functions t) (parameter_count t)) (items t) parameters_sum,
      )
      (both_ways (eqb (suc (1 + f)) (1 + functions t)))

  pub function_passes : (f : ℕ) → f < functions b
      → Passes (translation_by same b) (1 + f) TranslationKinds.function (function_fields b f)
  unfolding function_words row_of rows row_in row allows operator_code names_in_range every_other from_first from_second
  function_passes f h =
      let t = translation_by same b in
      let fs = function_fields b f in
      let rec = bytes_of (record_words TranslationKinds.function fs) in
      let k : kind_of rec ≡ TranslationKinds.function = kind_read TranslationKinds.function fs (omega arith) in
      let l : f < functions t = rw (translation_functions same b accepted) h in
      record {
        there = function_written same b accepted f h;
        small = omega arith;
        due =
            sym (due_section Translation t (1 + f) TranslationKinds.function (first_node t) TranslationKinds.function (λ e. omega (arith, e)) refl (omega (arith, l))
            (section_function Translation t (1 + f) (functions t) refl refl (omega (arith, l))));
        allowed = refl;
        code = rw k refl;
        counts =
            sym (counts_run Translation t rec (1 + f) TranslationKinds.function (λ e. omega (arith, e)) (sym k) true true refl
            (sym (parameter_counts_law f h)) refl (sym (run_counts_law f h)));
        named = names_there t (1 + f) rec (none_below t rec (no_mention rec TranslationKinds.function k refl refl refl)) (rw k refl);
      }

  -- an actual is a node
  formal_mention : (f i : ℕ) → i < parameters b f → (j : ℕ) → j < children (bytes_of (formal_part same b f i))
      → child (bytes_of (formal_part same b f i)) j < nodes (translation_by same b)
  formal_mention f i g j h =
      let fs = actuals same b f i in
      let rec = bytes_of (formal_part same b f i) in
      let k : kind_of rec ≡ TranslationKinds.formal_list = kind_read TranslationKinds.formal_list fs (omega arith) in
      let l : j < length fs = rw (list_mentions rec k, count_read TranslationKinds.formal_list fs) at h in
      rw (list_mention rec k j, field_read TranslationKinds.formal_list fs (formal_writable same b accepted f i g).fit j, translation_nodes same b accepted)
      (actuals_below same b accepted f i j g (element_is 0 fs j l))

  pub formal_passes : (f i : ℕ) → f < functions b → i < parameters b f
      → Passes (translation_by same b) (1 + functions (translation_by same b) + formal_of b f i) TranslationKinds.formal_list (actuals same b f i)
  unfolding row_of rows row_in row operator_code names_in_range
  formal_passes f i h g =
      let t = translation_by same b in
      let fs = actuals same b f i in
      let r = 1 + functions t + formal_of b f i in
      let rec = bytes_of (formal_part same b f i) in
      let k : kind_of rec ≡ TranslationKinds.formal_list = kind_read TranslationKinds.formal_list fs (omega arith) in
      let l : formal_of b f i < items t = rw (translation_items same b accepted) (formal_in_range b accepted f i h g) in
      let m = actuals_limit same b f i in
      let n = nodes_limit Sheet b (sheet_shape b accepted) in
      record {
        there = formal_written same b accepted f i h g;
        small = omega arith;
        due =
            sym (due_section Translation t r TranslationKinds.formal_list (first_node t) TranslationKinds.formal_list (λ e. omega (arith, e)) refl (omega (arith, l))
            (section_formal Translation t r (functions t) refl refl (omega arith)));
        allowed = row_allows (row_of TranslationKinds.formal_list) (4 + 2 * length fs) (omega arith) (omega (arith, m, n)) (omega arith);
        code = rw k refl;
        counts =
            sym (counts_other Translation t rec r TranslationKinds.formal_list (λ e. omega (arith, e)) (sym k) (λ e. omega (arith, e)) (λ e. omega (arith, e))
            (λ e. omega (arith, e)) (λ e. omega (arith, e)) (λ e. omega (arith, e)));
        named = names_there t r rec (formal_mention f i g) (rw k refl);
      }
