-- The runs, the nodes and the actuals of an accepted sheet's translation, as a translation file is read.
use mathlib.Core.Path.{◌≡◌, refl, ap, ◌∙◌}
use Prim.Native.Nat.{ℕ, suc, pred, ◌<◌}
use mathlib.Core.List.{List, [], ◌∷◌}
use native.Mathlib.Omega.{arith}
use lib.IntN.{ℤ}
use lib.ListN.{get_elem?}
use mir.Syntax.{w32}
use Rattle.definitions.specs.Bytes.{signed, words32, bytes_of}
use Rattle.definitions.specs.TranslationKinds
use Rattle.definitions.specs.Operators.{residue}
use Rattle.definitions.specs.Layouts.{functions, nodes, node_record, node_count, parameter_count, run_end, body_of, owner_of}
use Rattle.definitions.specs.References.{parameters}
use Rattle.definitions.specs.NodeFields.{Clause}
use Rattle.definitions.specs.SheetNodes.{SheetNode, number, reading, parameter, pattern_variable, operator, conditional, call, build, case_of, sheet_node_of, scrutinee_of}
use Rattle.definitions.specs.TranslationNodes.{translation_node, translation_node_of, actual, tag_of, tuple_fields}
use Rattle.definitions.specs.TranslationNodes
use Rattle.definitions.specs.Checks.{sheet_verdict}
use Rattle.definitions.specs.Labels.{Labelling, label_of, actuals}
use Rattle.definitions.specs.Translate.{record_words, formal_of, clause_words, function_words, translation_by}
use Rattle.definitions.specs.declared.Layout.TheVariants.{Sheet, Translation}
use Rattle.definitions.specs.Verdict.{Accepted}
use Rattle.accepted.proofs.Sums.{sum_same}
use Rattle.accepted.proofs.SheetRecords.{SheetRecord, is_number, node_is}
use Rattle.accepted.proofs.Checks.{sheet_shape}
use Rattle.readback.specs.TranslatedNode.{translated_node, translated_kind, translated_fields}
use Rattle.readback.proofs.Fields.{Fit, kind_read, field_read, fields_read, fields_after, clauses_read}
use Rattle.readback.proofs.Signed.{signed_read}
use Rattle.readback.proofs.Fitting.{function_fields, function_writable, formal_writable, node_writable}
use Rattle.readback.proofs.Records.{node_words_law, function_written, formal_written, node_written}

-- a number of a sheet is a signed field
number_is : (rec : List ℕ) {z : ℤ} → SheetRecord rec (number z) → signed rec 4 ≡ z
number_is rec (is_number e c) = refl

-- a record of a node's kind and fields is the node that it becomes
module _ (same : Labelling) (b : List ℕ) (k : ℕ) where
  node_read : (nd : SheetNode) → ((z : ℤ) → nd ≡ number z → signed (node_record b k) 4 ≡ z) → Fit (translated_fields same b k nd)
      → translation_node (bytes_of (record_words (translated_kind nd) (translated_fields same b k nd))) ≡ translated_node same b k nd
  unfolding translation_node translated_kind translated_fields translated_node
  node_read (number z) n f =
      rw (kind_read TranslationKinds.number (words32 (residue w32 z)) (omega arith)) (ap TranslationNodes.number (rw (n z refl) at (signed_read TranslationKinds.number (node_record b k) 4)))
  node_read (reading i) n f = rw (kind_read TranslationKinds.reading (i ∷ []) (omega arith), field_read TranslationKinds.reading (i ∷ []) f 0) refl
  node_read (parameter i) n f =
      let fs = formal_of b (owner_of Sheet b k) i ∷ [] in
      rw (kind_read TranslationKinds.formal fs (omega arith), field_read TranslationKinds.formal fs f 0) refl
  node_read (pattern_variable i) n f =
      let fs = scrutinee_of b k ∷ suc i ∷ [] in
      rw (kind_read TranslationKinds.select fs (omega arith), field_read TranslationKinds.select fs f 0, field_read TranslationKinds.select fs f 1) refl
  node_read (operator o l r) n f =
      let fs = o ∷ l ∷ r ∷ [] in
      rw (
        kind_read TranslationKinds.operator fs (omega arith),
        field_read TranslationKinds.operator fs f 0,
        field_read TranslationKinds.operator fs f 1,
        field_read
            TranslationKinds.operator fs f 2,
      ) refl
  node_read (conditional m p q) n f =
      let fs = m ∷ p ∷ q ∷ [] in
      rw (
        kind_read TranslationKinds.conditional fs (omega arith),
        field_read TranslationKinds.conditional fs f 0,
        field_read TranslationKinds.conditional fs f 1,
        field_read
            TranslationKinds.conditional fs f 2,
      ) refl
  node_read (call g ns) n f =
      let fs = label_of same b g k ∷ g ∷ [] in
      rw (kind_read TranslationKinds.call fs (omega arith), field_read TranslationKinds.call fs f 0, field_read TranslationKinds.call fs f 1) refl
  node_read (build c ns) n f =
      rw (kind_read TranslationKinds.tuple (c ∷ ns) (omega arith), field_read TranslationKinds.tuple (c ∷ ns) f 0, fields_after TranslationKinds.tuple c ns f) refl
  node_read (case_of m cs) n f =
      rw (kind_read TranslationKinds.case_of (m ∷ clause_words cs) (omega arith), field_read TranslationKinds.case_of (m ∷ clause_words cs) f 0, clauses_read TranslationKinds.case_of m cs f) refl

module _ (same : Labelling) (b : List ℕ) (accepted : sheet_verdict b ≡ Accepted) where
  -- the functions' runs and parameters are the sheet's
  pub node_count_read : (f : ℕ) → f < functions b → node_count Translation (translation_by same b) f ≡ node_count Sheet b f
  unfolding function_words
  node_count_read f h =
      rw (function_written same b accepted f h)
      (field_read TranslationKinds.function (function_fields b f) (function_writable b accepted f h).fit 0)

  pub parameter_count_read : (f : ℕ) → f < functions b → parameter_count (translation_by same b) f ≡ parameters b f
  unfolding function_words
  parameter_count_read f h =
      rw (function_written same b accepted f h)
      (field_read TranslationKinds.function (function_fields b f) (function_writable b accepted f h).fit 1)

  pub run_end_read : (f : ℕ) → f < functions b → run_end Translation (translation_by same b) f ≡ run_end Sheet b f
  unfolding run_end
  run_end_read f h =
      sum_same (suc f) (node_count Translation (translation_by same b)) (node_count Sheet b) (λ g l. node_count_read g (omega arith))

  pub body_read : (f : ℕ) → f < functions b → body_of Translation (translation_by same b) f ≡ body_of Sheet b f
  unfolding body_of
  body_read f h = ap pred (run_end_read f h)

  -- a node is what the sheet's node becomes
  module _ (k : ℕ) (h : k < nodes b) where
    pub node_becomes : translation_node_of (translation_by same b) k ≡ translated_node same b k (sheet_node_of b k)
    unfolding translation_node_of
    node_becomes =
        rw (node_written same b accepted k h, node_words_law same b k)
        (node_read same b k (sheet_node_of b k)
        (λ z e. number_is (node_record b k) (node_is b (sheet_shape b accepted) k h e))
        (node_writable same b accepted k h).fit)

    node_as : (nd : SheetNode) → sheet_node_of b k ≡ nd → translation_node_of (translation_by same b) k ≡ translated_node same b k nd
    node_as nd e = rw e at node_becomes

    pub number_becomes : {z : ℤ} → sheet_node_of b k ≡ number z → translation_node_of (translation_by same b) k ≡ TranslationNodes.number z
    unfolding translated_node
    number_becomes {z} e = node_as (number z) e

    pub reading_becomes : {i : ℕ} → sheet_node_of b k ≡ reading i → translation_node_of (translation_by same b) k ≡ TranslationNodes.reading i
    unfolding translated_node
    reading_becomes {i} e = node_as (reading i) e

    pub parameter_becomes : {i : ℕ} → sheet_node_of b k ≡ parameter i
        → translation_node_of (translation_by same b) k ≡ TranslationNodes.formal (formal_of b (owner_of Sheet b k) i)
    unfolding translated_node
    parameter_becomes {i} e = node_as (parameter i) e

    pub pattern_becomes : {i : ℕ} → sheet_node_of b k ≡ pattern_variable i
        → translation_node_of (translation_by same b) k ≡ TranslationNodes.select (scrutinee_of b k) (suc i)
    unfolding translated_node
    pattern_becomes {i} e = node_as (pattern_variable i) e

    pub operator_becomes : {o l r : ℕ} → sheet_node_of b k ≡ operator o l r
        → translation_node_of (translation_by same b) k ≡ TranslationNodes.operator o l r
    unfolding translated_node
    operator_becomes {o} {l} {r} e = node_as (operator o l r) e

    pub conditional_becomes : {n p q : ℕ} → sheet_node_of b k ≡ conditional n p q
        → translation_node_of (translation_by same b) k ≡ TranslationNodes.conditional n p q
    unfolding translated_node
    conditional_becomes {n} {p} {q} e = node_as (conditional n p q) e

    pub call_becomes : {f : ℕ} {ns : List ℕ} → sheet_node_of b k ≡ call f ns
        → translation_node_of (translation_by same b) k ≡ TranslationNodes.call (label_of same b f k) f
    unfolding translated_node
    call_becomes {f} {ns} e = node_as (call f ns) e

    pub build_becomes : {c : ℕ} {ns : List ℕ} → sheet_node_of b k ≡ build c ns
        → translation_node_of (translation_by same b) k ≡ TranslationNodes.tuple c ns
    unfolding translated_node
    build_becomes {c} {ns} e = node_as (build c ns) e

    pub case_becomes : {n : ℕ} {cs : List Clause} → sheet_node_of b k ≡ case_of n cs
        → translation_node_of (translation_by same b) k ≡ TranslationNodes.case_of n cs
    unfolding translated_node
    case_becomes {n} {cs} e = node_as (case_of n cs) e

    -- the tag and the fields of a build's tuple
    build_record : {c : ℕ} {ns : List ℕ} → sheet_node_of b k ≡ build c ns
        → (node_record (translation_by same b) k ≡ bytes_of (record_words TranslationKinds.tuple (c ∷ ns))) × Fit (c ∷ ns)
    unfolding translated_kind translated_fields
    build_record e =
        (rw e at (node_written same b accepted k h ∙ ap bytes_of (node_words_law same b k)), rw e at (node_writable same b accepted k h).fit)

    pub tag_read : {c : ℕ} {ns : List ℕ} → sheet_node_of b k ≡ build c ns → tag_of (translation_by same b) k ≡ c
    unfolding tag_of
    tag_read {c} {ns} e = let r = build_record e in rw r.0 (field_read TranslationKinds.tuple (c ∷ ns) r.1 0)

    pub tuple_fields_read : {c : ℕ} {ns : List ℕ} → sheet_node_of b k ≡ build c ns → tuple_fields (translation_by same b) k ≡ ns
    unfolding tuple_fields
    tuple_fields_read {c} {ns} e = let r = build_record e in rw r.0 (fields_after TranslationKinds.tuple c ns r.1)

  -- the actuals of a formal are those listed
  pub actual_read : (f i l : ℕ) → f < functions b → i < parameters b f
      → actual (translation_by same b) (formal_of b f i) l ≡ get_elem? (actuals same b f i) l
  unfolding actual
  actual_read f i l h g =
      rw (formal_written same b accepted f i h g, fields_read TranslationKinds.formal_list (actuals same b f i) (formal_writable same b accepted f i g).fit) refl
