-- The nodes of an accepted sheet's translation pass the checks of a translation.
use mathlib.Core.Path.{◌≡◌, refl, sym, ap, ◌∙◌}
use Prim.Native.Nat.{ℕ, zero, suc, ◌+◌, ◌*◌, ◌-◌, ◌≤◌, ◌<◌}
use mathlib.Core.List.{List, [], ◌∷◌}
use mathlib.Core.Option.{some}
use mathlib.Core.Bool.{true}
use native.Mathlib.Omega.{arith}
use lib.ListN.{length, get_or, get_elem?}
use borrow.Author.Tests.{lt-ltb, le-leb}
use mir.Syntax.{w32}
use Rattle.definitions.specs.TranslationKinds
use Rattle.definitions.specs.Bytes.{words32, bytes_of}
use Rattle.definitions.specs.Records.{kind_of, field_count}
use Rattle.definitions.specs.Kinds.{row, rows, row_in, row_of, allows}
use Rattle.definitions.specs.Layouts.{readings, functions, nodes, first_node, node_record, owner_of}
use Rattle.definitions.specs.Shape.{operator_code}
use Rattle.definitions.specs.References.{from_first, from_second, every_other, children, child, clauses, names_in_range}
use Rattle.definitions.specs.NodeFields.{Clause}
use Rattle.definitions.specs.Operators.{residue}
use Rattle.definitions.specs.SheetNodes.{SheetNode, number, reading, parameter, pattern_variable, operator, conditional, call, build, case_of, sheet_node_of, scrutinee_of}
use Rattle.definitions.specs.Checks.{sheet_verdict}
use Rattle.definitions.specs.Labels.{Labelling, label_of}
use Rattle.definitions.specs.Translate.{record_words, formal_of, formals, clause_words, translation_by}
use Rattle.definitions.specs.declared.Layout.TheVariants.{Sheet, Translation}
use Rattle.definitions.specs.Verdict.{Accepted}
use Rattle.laws.proofs.Ranges.{within_both}
use Rattle.laws.proofs.Shape.{due_node, counts_other}
use Rattle.accepted.specs.Child.{Child, left, right, condition, if_nonzero, if_zero, component, scrutinee, clause}
use Rattle.accepted.proofs.Owners.{owner_below}
use Rattle.accepted.proofs.Sections.{arity_limit}
use Rattle.accepted.proofs.Checks.{sheet_shape, trees_pass}
use Rattle.accepted.proofs.Names.{reading_below, parameter_below, call_below, build_below, build_count, operator_code_law}
use Rattle.accepted.proofs.Trees.{child_below}
use Rattle.accepted.proofs.Clauses.{clauses_least, clauses_limit}
use Rattle.accepted.proofs.TranslationNames.{select_mentions, select_mention, operator_mentions, operator_mention, conditional_mentions, conditional_mention}
use Rattle.accepted.proofs.TranslationNames.{tuple_mentions, tuple_mention, case_mentions, case_mention}
use Rattle.readback.specs.TranslatedNode.{translated_kind, translated_fields}
use Rattle.readback.proofs.Fields.{Fit, element_is, kind_read, count_read, field_read, no_clause, clause_words_law, clause_node, clause_count_read}
use Rattle.readback.proofs.Fitting.{formal_in_range, scrutinee_below, node_writable}
use Rattle.readback.proofs.Records.{node_words_law, translation_readings, translation_items, translation_functions, translation_nodes, node_written}
use Rattle.readback.proofs.Passing.{Passes, row_allows, names_there, no_mention}
use Rattle.readback.proofs.SectionsPass.{none_below}

-- the nodes that a record written as words names are below n
module _ (n : ℕ) (fs : List ℕ) (f : Fit fs) where
  select_below : length fs ≡ 2 → get_or fs 0 0 < n → (j : ℕ) → j < children (bytes_of (record_words TranslationKinds.select fs))
      → child (bytes_of (record_words TranslationKinds.select fs)) j < n
  select_below l p j h =
      let rec = bytes_of (record_words TranslationKinds.select fs) in
      let k : kind_of rec ≡ TranslationKinds.select = kind_read TranslationKinds.select fs (omega arith) in
      let m : j ≡ 0 = omega (arith, h, select_mentions rec k (count_read TranslationKinds.select fs ∙ l)) in
      rw (m, select_mention rec k 0, field_read TranslationKinds.select fs f 0) p

  operator_below : length fs ≡ 3 → get_or fs 1 0 < n → get_or fs 2 0 < n → (j : ℕ) → j < children (bytes_of (record_words TranslationKinds.operator fs))
      → child (bytes_of (record_words TranslationKinds.operator fs)) j < n
  operator_below l p q j h =
      let rec = bytes_of (record_words TranslationKinds.operator fs) in
      let k : kind_of rec ≡ TranslationKinds.operator = kind_read TranslationKinds.operator fs (omega arith) in
      let m : j < 2 = rw (operator_mentions rec k (count_read TranslationKinds.operator fs ∙ l)) at h in
      rw (operator_mention rec k j, field_read TranslationKinds.operator fs f (1 + j)) (either j m)
    where
      either : (j : ℕ) → j < 2 → get_or fs (1 + j) 0 < n
      either zero h = p
      either (suc zero) h = q
      either (suc (suc j)) h = absurd (omega arith)

  conditional_below : length fs ≡ 3 → get_or fs 0 0 < n → get_or fs 1 0 < n → get_or fs 2 0 < n → (j : ℕ)
      → j < children (bytes_of (record_words TranslationKinds.conditional fs))
      → child (bytes_of (record_words TranslationKinds.conditional fs)) j < n
  conditional_below l p q r j h =
      let rec = bytes_of (record_words TranslationKinds.conditional fs) in
      let k : kind_of rec ≡ TranslationKinds.conditional = kind_read TranslationKinds.conditional fs (omega arith) in
      let m : j < 3 = rw (conditional_mentions rec k (count_read TranslationKinds.conditional fs ∙ l)) at h in
      rw (conditional_mention rec k j, field_read TranslationKinds.conditional fs f j) (either j m)
    where
      either : (j : ℕ) → j < 3 → get_or fs j 0 < n
      either zero h = p
      either (suc zero) h = q
      either (suc (suc zero)) h = r
      either (suc (suc (suc j))) h = absurd (omega arith)

module _ (n : ℕ) where
  tuple_below : (c : ℕ) (ns : List ℕ) → Fit (c ∷ ns) → ((i x : ℕ) → get_elem? ns i ≡ some x → x < n)
      → (j : ℕ) → j < children (bytes_of (record_words TranslationKinds.tuple (c ∷ ns))) → child (bytes_of (record_words TranslationKinds.tuple (c ∷ ns))) j < n
  tuple_below c ns f p j h =
      let rec = bytes_of (record_words TranslationKinds.tuple (c ∷ ns)) in
      let k : kind_of rec ≡ TranslationKinds.tuple = kind_read TranslationKinds.tuple (c ∷ ns) (omega arith) in
      let m : j < length ns = omega (arith, h, tuple_mentions rec k, count_read TranslationKinds.tuple (c ∷ ns)) in
      let e : 1 + j ≡ suc j = omega arith in
      rw (tuple_mention rec k j, e, field_read TranslationKinds.tuple (c ∷ ns) f (suc j)) (p j (get_or ns j 0) (element_is 0 ns j m))

  case_below : (m : ℕ) (cs : List Clause) → Fit (m ∷ clause_words cs) → m < n
      → ((i : ℕ) (c : Clause) → get_elem? cs i ≡ some c → c.node < n)
      → (j : ℕ) → j < children (bytes_of (record_words TranslationKinds.case_of (m ∷ clause_words cs))) → child (bytes_of (record_words TranslationKinds.case_of (m ∷ clause_words cs))) j < n
  case_below m cs f p q j h =
      let fs = m ∷ clause_words cs in
      let rec = bytes_of (record_words TranslationKinds.case_of fs) in
      let k : kind_of rec ≡ TranslationKinds.case_of = kind_read TranslationKinds.case_of fs (omega arith) in
      let c = clause_count_read TranslationKinds.case_of m cs in
      let w : field_count rec ≡ 1 + 2 * clauses rec = omega (arith, count_read TranslationKinds.case_of fs, clause_words_law cs, c) in
      let l : j < suc (length cs) = omega (arith, h, case_mentions rec k w, c) in
      rw (case_mention rec k j, field_read TranslationKinds.case_of fs f (2 * j)) (either j l)
    where
      either : (j : ℕ) → j < suc (length cs) → get_or (m ∷ clause_words cs) (2 * j) 0 < n
      either zero l = p
      either (suc j) l =
          let e : 2 * suc j ≡ suc (suc (2 * j)) = omega arith in
          rw (e, clause_node cs j) (q j (get_or cs j no_clause) (element_is no_clause cs j (omega arith)))

module _ (same : Labelling) (b : List ℕ) (accepted : sheet_verdict b ≡ Accepted) (k : ℕ) (h : k < nodes b) where
  -- what is left to show of a node's record
  node_pass : (kind : ℕ) (fs : List ℕ) → node_record (translation_by same b) k ≡ bytes_of (record_words kind fs) → TranslationKinds.number ≤ kind → kind ≤ TranslationKinds.case_of
      → allows (row_of kind) (4 + 2 * length fs) ≡ true
      → (kind_of (bytes_of (record_words kind fs)) ≡ kind → operator_code (bytes_of (record_words kind fs)) ≡ true)
      → (kind_of (bytes_of (record_words kind fs)) ≡ kind → (j : ℕ) → j < children (bytes_of (record_words kind fs)) → child (bytes_of (record_words kind fs)) j < nodes (translation_by same b))
      → (kind_of (bytes_of (record_words kind fs)) ≡ kind → names_in_range (translation_by same b) (first_node (translation_by same b) + k) (bytes_of (record_words kind fs)) ≡ true)
      → Passes (translation_by same b) (first_node (translation_by same b) + k) kind fs
  node_pass kind fs there l g allowed code below names =
      let t = translation_by same b in
      let r = first_node t + k in
      let rec = bytes_of (record_words kind fs) in
      let e : kind_of rec ≡ kind = kind_read kind fs (omega arith) in
      record {
        there = there;
        small = omega arith;
        due = sym (due_node Translation t r kind (first_node t) TranslationKinds.number (λ p. omega (arith, p)) refl (omega arith) refl l) ∙ le-leb (kind -
            TranslationKinds.number) 8 (omega arith);
        allowed = allowed;
        code = code e;
        counts =
            sym (counts_other Translation t rec r kind (λ p. omega (arith, p)) (sym e) (λ p. omega (arith, p, l)) (λ p. omega (arith, p, l))
            (λ p. omega (arith, p, l)) (λ p. omega (arith, p, l)) (λ p. omega (arith, p, l)));
        named = names_there t r rec (below e) (names e);
      }

  child_there : {nd : SheetNode} {n : ℕ} → sheet_node_of b k ≡ nd → Child nd n → n < nodes (translation_by same b)
  child_there e c = rw (translation_nodes same b accepted) (child_below b (trees_pass b accepted) k h e c)

  by_kind : (nd : SheetNode) → sheet_node_of b k ≡ nd
      → node_record (translation_by same b) k ≡ bytes_of (record_words (translated_kind nd) (translated_fields same b k nd))
      → Fit (translated_fields same b k nd)
      → Passes (translation_by same b) (first_node (translation_by same b) + k) (translated_kind nd) (translated_fields same b k nd)
  unfolding translated_kind translated_fields words32 row_of rows row_in row allows operator_code names_in_range every_other from_first from_second
  by_kind (number z) e r f =
      let fs = words32 (residue w32 z) in
      let rec = bytes_of (record_words TranslationKinds.number fs) in
      node_pass TranslationKinds.number fs r (omega arith) (omega arith) refl (λ q. rw q refl)
      (λ q. none_below (translation_by same b) rec (no_mention rec TranslationKinds.number q refl refl refl)) (λ q. rw q refl)
  by_kind (reading i) e r f =
      let fs = i ∷ [] in
      let rec = bytes_of (record_words TranslationKinds.reading fs) in
      node_pass TranslationKinds.reading fs r (omega arith) (omega arith) refl (λ q. rw q refl)
      (λ q. none_below (translation_by same b) rec (no_mention rec TranslationKinds.reading q refl refl refl))
      (λ q. rw (q, field_read TranslationKinds.reading fs f 0, translation_readings same b accepted) (lt-ltb i (readings b) (reading_below b accepted k h e)))
  by_kind (parameter i) e r f =
      let g = owner_of Sheet b k in
      let fs = formal_of b g i ∷ [] in
      let rec = bytes_of (record_words TranslationKinds.formal fs) in
      node_pass TranslationKinds.formal fs r (omega arith) (omega arith) refl (λ q. rw q refl)
      (λ q. none_below (translation_by same b) rec (no_mention rec TranslationKinds.formal q refl refl refl))
      (λ q. rw (q, field_read TranslationKinds.formal fs f 0, translation_items same b accepted)
      (lt-ltb (formal_of b g i) (formals b)
      (formal_in_range b accepted g i (owner_below Sheet b (sheet_shape b accepted) k h) (parameter_below b accepted k h e))))
  by_kind (pattern_variable i) e r f =
      let fs = scrutinee_of b k ∷ suc i ∷ [] in
      node_pass TranslationKinds.select fs r (omega arith) (omega arith) refl (λ q. rw q refl)
      (λ q. select_below (nodes (translation_by same b)) fs f refl (rw (translation_nodes same b accepted) (scrutinee_below b accepted k h e)))
      (λ q. rw q refl)
  by_kind (operator o x y) e r f =
      let fs = o ∷ x ∷ y ∷ [] in
      node_pass TranslationKinds.operator fs r (omega arith) (omega arith) refl
      (λ q. rw (q, field_read TranslationKinds.operator fs f 0) (within_both 0 5 o (omega arith) (operator_code_law b accepted k h e)))
      (λ q. operator_below (nodes (translation_by same b)) fs f refl (child_there e left) (child_there e right))
      (λ q. rw q refl)
  by_kind (conditional n x y) e r f =
      let fs = n ∷ x ∷ y ∷ [] in
      node_pass TranslationKinds.conditional fs r (omega arith) (omega arith) refl (λ q. rw q refl)
      (λ q. conditional_below (nodes (translation_by same b)) fs f refl (child_there e condition) (child_there e if_nonzero) (child_there e if_zero))
      (λ q. rw q refl)
  by_kind (call g ns) e r f =
      let fs = label_of same b g k ∷ g ∷ [] in
      let rec = bytes_of (record_words TranslationKinds.call fs) in
      node_pass TranslationKinds.call fs r (omega arith) (omega arith) refl (λ q. rw q refl)
      (λ q. none_below (translation_by same b) rec (no_mention rec TranslationKinds.call q refl refl refl))
      (λ q. rw (q, field_read TranslationKinds.call fs f 1, translation_functions same b accepted) (lt-ltb g (functions b) (call_below b accepted k h e)))
  by_kind (build c ns) e r f =
      let m = build_count b accepted k h e in
      let a = arity_limit b (sheet_shape b accepted) c (build_below b accepted k h e) in
      node_pass TranslationKinds.tuple (c ∷ ns) r (omega arith) (omega arith)
      (row_allows (row_of TranslationKinds.tuple) (4 + 2 * length (c ∷ ns)) (omega arith) (omega (arith, m, a)) (omega arith))
      (λ q. rw q refl)
      (λ q. tuple_below (nodes (translation_by same b)) c ns f (λ i x p. child_there e (component i p)))
      (λ q. rw q refl)
  by_kind (case_of n cs) e r f =
      let w = clause_words_law cs in
      let l = clauses_least b accepted k h e in
      let g = clauses_limit b accepted k h e in
      node_pass TranslationKinds.case_of (n ∷ clause_words cs) r (omega arith) (omega arith)
      (row_allows (row_of TranslationKinds.case_of) (4 + 2 * length (n ∷ clause_words cs)) (omega (arith, w, l)) (omega (arith, w, g)) (omega (arith, w, l)))
      (λ q. rw q refl)
      (λ q. case_below (nodes (translation_by same b)) n cs f (child_there e scrutinee) (λ i c p. child_there e (clause i p refl)))
      (λ q. rw q refl)

  pub node_passes : Passes (translation_by same b) (first_node (translation_by same b) + k) (translated_kind (sheet_node_of b k)) (translated_fields same b k (sheet_node_of b k))
  node_passes =
      by_kind (sheet_node_of b k) refl (node_written same b accepted k h ∙ ap bytes_of (node_words_law same b k)) (node_writable same b accepted k h).fit
