-- The length of an accepted sheet's translation: even, and at most 36,864 bytes, so that it is never oversize. A call costs at most a
-- word more than in the sheet, its arguments counted where the formals list them, and a pattern variable a word more too;
-- each formal costs two words, and the rest no more than in the sheet.
use mathlib.Core.Path.{◌≡◌, refl, ◌∙◌}
use Prim.Native.Nat.{ℕ, ◌+◌, ◌*◌, ◌-◌, ◌/◌, ◌≤◌, ◌<◌}
use mathlib.Core.List.{List, [], ◌∷◌, ◌++◌}
use mathlib.Core.Bool.{Bool, true, false, cond, ◌&&◌, ◌||◌}
use native.Mathlib.Omega.{arith}
use native.Mathlib.Nat.{mul-add}
use lib.ListN.{length, length-append}
use lib.Dec.{eqb}
use borrow.Author.Tests.{eqb-true}
use Rattle.definitions.specs.Bytes.{words32}
use Rattle.definitions.specs.Records.{record_of, kind_of, field, field_count}
use Rattle.definitions.specs.SheetKinds
use Rattle.definitions.specs.TranslationKinds
use Rattle.definitions.specs.Lists.{joined, sum_of, count_of}
use Rattle.definitions.specs.Layouts.{readings, items, functions, nodes, first_node, due, function_record, node_record}
use Rattle.definitions.specs.References.{parameters, clauses, clause_constructor}
use Rattle.definitions.specs.NodeFields.{Clause, fields_from, clause_list}
use Rattle.definitions.specs.SheetNodes.{SheetNode, sheet_node_of}
use Rattle.definitions.specs.Checks.{sheet_verdict}
use Rattle.definitions.specs.Labels.{Labelling, calls, first_call, is_first, actuals}
use Rattle.definitions.specs.Translate.{formals, head_words, function_words, formal_words, node_words, translation_words, translation_by}
use Rattle.definitions.specs.declared.Layout.TheVariants.{Sheet}
use Rattle.definitions.specs.Verdict.{Accepted}
use Rattle.laws.proofs.Lists.{listed_length}
use Rattle.accepted.proofs.Sums.{sum_term, sum_same}
use Rattle.accepted.proofs.Head.{nodes_limit}
use Rattle.accepted.proofs.Records.{within_limit, records_fill, record_fields, start_sum}
use Rattle.accepted.proofs.SectionFields.{head_fields, sheet_function_fields}
use Rattle.accepted.proofs.SheetRecords.{SheetRecord, is_number, is_reading, is_parameter, is_pattern_variable, is_operator, is_conditional, is_call, is_build, is_case_law, node_record_law}
use Rattle.accepted.proofs.Checks.{sheet_shape}
use Rattle.accepted.proofs.Names.{call_fields}
use Rattle.readback.specs.TranslatedNode.{translated_kind, translated_fields}
use Rattle.laws.proofs.Words.{bytes_length}
use Rattle.readback.proofs.Made.{words_length}
use Rattle.readback.proofs.Fields.{clause_words_law}
use Rattle.laws.proofs.Joined.{joined_length}
use Rattle.readback.proofs.Labels.{actuals_length}
use Rattle.readback.proofs.Fitting.{function_fields, formals_limit}
use Rattle.readback.proofs.Records.{node_words_law, formal_part}
use Rattle.readback.proofs.Totals.{sum_both, sum_twice, sum_constant, sum_below, sum_parts, count_weighed, sum_chosen}

-- the arguments of node k, if it is a first call, as the formals count them
abbrev listed_arguments : Labelling → List ℕ → ℕ → ℕ
listed_arguments same b k = sum_of (functions b) (λ f. cond (is_first same b f k) (parameters b f) 0)

-- the arguments that are listed are some of all
part_of : (x y : Bool) (n : ℕ) → cond (x && y) n 0 ≤ cond x n 0
part_of true true n = omega arith
part_of true false n = omega arith
part_of false y n = omega arith

pub listed_some : (same : Labelling) (b : List ℕ) (p : ℕ → ℕ) (k : ℕ)
    → sum_of (functions b) (λ f. cond (is_first same b f k) (p f) 0) ≤ sum_of (functions b) (λ f. cond (calls b f k) (p f) 0)
unfolding is_first
listed_some same b p k =
    sum_below (functions b) (λ f. cond (calls b f k && eqb (first_call same b f k) k) (p f) 0) (λ f. cond (calls b f k) (p f) 0)
    (λ f h. part_of (calls b f k) (eqb (first_call same b f k) k) (p f))

-- a node that is no call has none
pub no_arguments : (m : ℕ) (p : ℕ → ℕ) (rec : List ℕ) → eqb (kind_of rec) SheetKinds.call ≡ false
    → sum_of m (λ f. cond (eqb (kind_of rec) SheetKinds.call && eqb (field rec 0) f) (p f) 0) ≡ 0
no_arguments m p rec e = rw e (sum_constant m 0 ∙ omega arith)

-- a call has as many as its function has parameters
pub call_arguments : (m : ℕ) (p : ℕ → ℕ) (rec : List ℕ) → eqb (kind_of rec) SheetKinds.call ≡ true
    → sum_of m (λ f. cond (eqb (kind_of rec) SheetKinds.call && eqb (field rec 0) f) (p f) 0) ≤ p (field rec 0)
call_arguments m p rec e = rw e (sum_chosen m (field rec 0) p)

-- whether a node's translation has two fields, whatever the node has: a call's are label and function, a pattern variable's scrutinee and index
abbrev pub two_fields : List ℕ → Bool
two_fields rec = eqb (kind_of rec) SheetKinds.call || eqb (kind_of rec) SheetKinds.pattern_variable

module _ (same : Labelling) (b : List ℕ) (k : ℕ) where
  -- another node keeps its number of fields, and no node is without
  record Fields (rec : List ℕ) (nd : SheetNode) : Type 0 where
    pub translated : length (translated_fields same b k nd) ≡ cond (two_fields rec) 2 (field_count rec)
    pub some : 1 ≤ field_count rec

  fields_of_law : (rec : List ℕ) {nd : SheetNode} → SheetRecord rec nd → Fields rec nd
  unfolding translated_fields words32 fields_from clause_list
  fields_of_law rec (is_number e c) = record { translated = rw (e, c) refl; some = omega (arith, c) }
  fields_of_law rec (is_reading e c) = record { translated = rw (e, c) refl; some = omega (arith, c) }
  fields_of_law rec (is_parameter e c) = record { translated = rw (e, c) refl; some = omega (arith, c) }
  fields_of_law rec (is_pattern_variable e c) = record { translated = rw e refl; some = omega (arith, c) }
  fields_of_law rec (is_operator e c) = record { translated = rw (e, c) refl; some = omega (arith, c) }
  fields_of_law rec (is_conditional e c) = record { translated = rw (e, c) refl; some = omega (arith, c) }
  fields_of_law rec (is_call e l g) = record { translated = rw e refl; some = omega (arith, l) }
  fields_of_law rec (is_build e l g) =
      record { translated = rw e (omega (arith, l, listed_length (field_count rec - 1) (λ i. field rec (1 + i)))); some = omega (arith, l) }
  fields_of_law rec (is_case_law e c l g) =
      let n = listed_length {A = Clause} (clauses rec) (λ j. record { constructor = clause_constructor rec j; node = field rec (2 + 2 * j) }) in
      record { translated = rw e (omega (arith, c, clause_words_law (clause_list rec), n)); some = omega (arith, c) }

  -- with the arguments of a call a node's translation has at most one field more than the node
  module _ (rec : List ℕ) where
    abbrev arguments : ℕ
    arguments = sum_of (functions b) (λ f. cond (eqb (kind_of rec) SheetKinds.call && eqb (field rec 0) f) (parameters b f) 0)

    one_more : (x y : Bool) → eqb (kind_of rec) SheetKinds.call ≡ x → eqb (kind_of rec) SheetKinds.pattern_variable ≡ y → 1 ≤ field_count rec
        → (kind_of rec ≡ SheetKinds.call → field_count rec - 1 ≡ parameters b (field rec 0)) → cond (x || y) 2 (field_count rec) + arguments ≤ field_count rec + 1
    one_more true y e f l p = omega (arith, l, p (eqb-true (kind_of rec) SheetKinds.call e), call_arguments (functions b) (parameters b) rec e)
    one_more false true e f l p = omega (arith, l, no_arguments (functions b) (parameters b) rec e)
    one_more false false e f l p = omega (arith, no_arguments (functions b) (parameters b) rec e)

    node_fields : {nd : SheetNode} → SheetRecord rec nd → (kind_of rec ≡ SheetKinds.call → field_count rec - 1 ≡ parameters b (field rec 0))
        → length (translated_fields same b k nd) + arguments ≤ field_count rec + 1
    node_fields s p = let w = fields_of_law rec s in omega (arith, w.translated, one_more _ _ refl refl w.some p)

halved : (t : Bool) (n : ℕ) {m : ℕ} → m ≡ 4 + 2 * n → 2 + cond t 2 n ≡ cond t 4 (m / 2)
halved true n e = refl
halved false n e = omega (arith, e)

module _ (b : List ℕ) (accepted : sheet_verdict b ≡ Accepted) where
  -- the functions cost four words each
  functions_size : sum_of (functions b) (λ f. length (function_words b f)) ≡ functions b * 4
  unfolding function_words
  functions_size =
      sum_same (functions b) (λ f. length (function_words b f)) (λ f. 4) (λ f h. words_length TranslationKinds.function (function_fields b f))
      ∙ sum_constant (functions b) 4

  -- the sheet's head, functions and nodes are within its length
  function_length : (f : ℕ) → f < functions b → 8 ≤ length (function_record Sheet b f)
  function_length f h =
      let s = sheet_shape b accepted in
      omega (arith, record_fields Sheet b s (1 + items b + f) (omega arith), sheet_function_fields b s f h)

  sheet_size : 12 + functions b * 8 + sum_of (nodes b) (λ k. length (node_record b k)) ≤ length b
  sheet_size =
      let s = sheet_shape b accepted in
      let at : ℕ → ℕ = λ r. length (record_of b r) in
      let ns = sum_parts (first_node b) (nodes b) at in
      let fs = sum_parts (1 + items b) (functions b) at in
      let each = sum_below (functions b) (λ f. 8) (λ f. at (1 + items b + f)) function_length in
      let head : length (record_of b 0) ≡ 12 = omega (arith, record_fields Sheet b s 0 (omega arith), head_fields Sheet b s) in
      omega (arith, records_fill Sheet b s, start_sum Sheet b s (due b) (omega arith), ns, fs, each, sum_constant (functions b) 8, sum_term 0 (1 + items b) at (omega arith), head)

module _ (same : Labelling) (b : List ℕ) (accepted : sheet_verdict b ≡ Accepted) where
  words_of_fields : (k : ℕ) → length (node_words same b k) ≡ 2 + length (translated_fields same b k (sheet_node_of b k))
  words_of_fields k =
      let nd = sheet_node_of b k in
      rw (node_words_law same b k) (words_length (translated_kind nd) (translated_fields same b k nd))

  node_size : (k : ℕ) → k < nodes b → (length (node_words same b k) + listed_arguments same b k) * 2 ≤ length (node_record b k) + 2
  unfolding calls
  node_size k h =
      let s = sheet_shape b accepted in
      omega (
        arith,
        words_of_fields k,
        record_fields Sheet b s (first_node b + k) (omega arith),
        listed_some same b (parameters b) k,
        node_fields same b k (node_record b k) (node_record_law b s k h) (call_fields b accepted k h),
      )

  -- exactly, by its record
  pub node_length_law : (k : ℕ) → k < nodes b → length (node_words same b k) ≡ cond (two_fields (node_record b k)) 4 (length (node_record b k) / 2)
  node_length_law k h =
      let s = sheet_shape b accepted in
      words_of_fields k ∙ rw (fields_of_law same b k (node_record b k) (node_record_law b s k h)).translated (halved (two_fields (node_record b k)) _ (record_fields Sheet b s (first_node b + k) (omega arith)))

  nodes_size : 2 * (sum_of (nodes b) (λ k. length (node_words same b k)) + sum_of (nodes b) (listed_arguments same b))
      ≤ sum_of (nodes b) (λ k. length (node_record b k)) + nodes b * 2
  nodes_size =
      let n = nodes b in
      let x = sum_below n (λ k. (length (node_words same b k) + listed_arguments same b k) * 2) (λ k. length (node_record b k) + 2) node_size in
      let y = sum_twice n (λ k. length (node_words same b k) + listed_arguments same b k) in
      let z = sum_both n (λ k. length (node_words same b k)) (listed_arguments same b) in
      let u = sum_both n (λ k. length (node_record b k)) (λ k. 2) in
      omega (arith, x, y, z, u, sum_constant n 2)

  -- the formals cost two words each, and a word for each argument of a first call
  pub formal_size : (f : ℕ) → length (formal_words same b f) ≡ parameters b f * 2 + parameters b f * count_of (nodes b) (is_first same b f)
  unfolding formal_words
  formal_size f =
      let c = count_of (nodes b) (is_first same b f) in
      joined_length (formal_part same b f) (parameters b f)
      ∙ sum_same (parameters b f) (λ i. length (formal_part same b f i)) (λ i. 2 + c)
      (λ i h. words_length TranslationKinds.formal_list (actuals same b f i) ∙ rw (actuals_length same b f i) refl)
      ∙ sum_constant (parameters b f) (2 + c)
      ∙ mul-add (parameters b f) 2 c

  formals_size : sum_of (functions b) (λ f. length (formal_words same b f)) ≡ 2 * formals b + sum_of (nodes b) (listed_arguments same b)
  unfolding formals
  formals_size =
      let m = functions b in
      let p = parameters b in
      sum_same m (λ f. length (formal_words same b f)) (λ f. p f * 2 + p f * count_of (nodes b) (is_first same b f)) (λ f h. formal_size f)
      ∙ sum_both m (λ f. p f * 2) (λ f. p f * count_of (nodes b) (is_first same b f))
      ∙ rw (sum_twice m p, count_weighed m (nodes b) p (is_first same b)) refl

  pub words_size : length (translation_words same b)
      ≡ 6 + functions b * 4 + sum_of (functions b) (λ f. length (formal_words same b f)) + sum_of (nodes b) (λ k. length (node_words same b k))
  unfolding translation_words head_words
  words_size =
      let h = head_words b in
      let fs = joined (functions b) (function_words b) in
      let ps = joined (functions b) (formal_words same b) in
      let ns = joined (nodes b) (node_words same b) in
      let w = words_length TranslationKinds.head (readings b ∷ formals b ∷ functions b ∷ nodes b ∷ []) in
      let x = joined_length (function_words b) (functions b) ∙ functions_size b accepted in
      let y = joined_length (formal_words same b) (functions b) in
      let z = joined_length (node_words same b) (nodes b) in
      let u = length-append h fs in
      let v = length-append (h ++ fs) ps in
      length-append (h ++ fs ++ ps) ns ∙ rw (v, u, w, x, y, z) refl

  -- the translation costs at most four bytes for each formal and two for each node more than the sheet
  pub translation_length : length (translation_by same b) ≡ 2 * length (translation_words same b)
  unfolding translation_by
  translation_length = bytes_length (translation_words same b)

  pub translation_growth : length (translation_by same b) ≤ length b + 4 * formals b + 2 * nodes b
  translation_growth = omega (arith, translation_length, words_size, formals_size, nodes_size, sheet_size b accepted)

  -- so it is never oversize
  pub translation_limit : length (translation_by same b) ≤ 36864
  translation_limit =
      let s = sheet_shape b accepted in
      omega (arith, translation_growth, within_limit Sheet b s, formals_limit b accepted, nodes_limit Sheet b s)
