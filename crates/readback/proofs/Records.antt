-- The translation of an accepted sheet as a file: its head's counts, and its records, each of which is what was written.
use mathlib.Core.Path.{◌≡◌, refl, ◌∙◌}
use Prim.Native.Nat.{ℕ, zero, suc, ◌+◌, ◌*◌, ◌≤◌, ◌<◌}
use mathlib.Core.List.{List, [], ◌∷◌, ◌++◌, append_assoc}
use native.Mathlib.Omega.{arith}
use native.Mathlib.Nat.{add_assoc}
use lib.ListN.{length, get_or}
use Rattle.definitions.specs.Bytes.{word, bytes_of}
use Rattle.definitions.specs.Records.{start_of, record_of}
use Rattle.definitions.specs.TranslationKinds
use Rattle.definitions.specs.Lists.{joined, sum_of}
use Rattle.definitions.specs.Layouts.{readings, items, functions, nodes, due, item_record, function_record, node_record}
use Rattle.definitions.specs.References.{parameters}
use Rattle.definitions.specs.SheetNodes.{SheetNode, number, reading, parameter, pattern_variable, operator, conditional, call, build, case_of, sheet_node_of}
use Rattle.definitions.specs.Checks.{sheet_verdict}
use Rattle.definitions.specs.Labels.{Labelling, actuals}
use Rattle.definitions.specs.Translate.{record_words, formal_of, formals, translated, head_words, function_words, formal_words, node_words, translation_words, translation_by}
use Rattle.definitions.specs.declared.Layout.TheVariants.{Sheet, Translation}
use Rattle.definitions.specs.Verdict.{Accepted}
use Rattle.accepted.proofs.Head.{readings_limit, functions_limit, nodes_limit}
use Rattle.accepted.proofs.Checks.{sheet_shape}
use Rattle.readback.specs.TranslatedNode.{translated_kind, translated_fields}
use Rattle.laws.proofs.Words.{word_read}
use Rattle.readback.proofs.Made.{Made, made_nothing, made_one, made_both, made_joined, made_record, made_end}
use Rattle.laws.proofs.Joined.{joined_split}
use Rattle.readback.proofs.Fitting.{function_fields, formals_limit, function_writable, formal_writable, node_writable}

-- a node's words are a record of its kind and fields
pub translated_words : (same : Labelling) (b : List ℕ) (k : ℕ) (nd : SheetNode)
    → translated same b k nd ≡ record_words (translated_kind nd) (translated_fields same b k nd)
unfolding translated translated_kind translated_fields
translated_words same b k (number z) = refl
translated_words same b k (reading i) = refl
translated_words same b k (parameter i) = refl
translated_words same b k (pattern_variable i) = refl
translated_words same b k (operator o l r) = refl
translated_words same b k (conditional n p q) = refl
translated_words same b k (call f ns) = refl
translated_words same b k (build c ns) = refl
translated_words same b k (case_of n cs) = refl

-- one record for each of n parts
ones : (n : ℕ) → sum_of n (λ i. 1) ≡ n
unfolding sum_of
ones zero = refl
ones (suc n) = omega (arith, ones n)

made_each : (n : ℕ) (part : ℕ → List ℕ) → ((i : ℕ) → i < n → Made 1 (part i)) → Made n (joined n part)
made_each n part f = rw (ones n) at (made_joined n (λ i. 1) part f)

pub node_words_law : (same : Labelling) (b : List ℕ) (k : ℕ)
    → node_words same b k ≡ record_words (translated_kind (sheet_node_of b k)) (translated_fields same b k (sheet_node_of b k))
unfolding node_words
node_words_law same b k = translated_words same b k (sheet_node_of b k)

-- the words of the formal of function f's parameter i
abbrev pub formal_part : Labelling → List ℕ → ℕ → ℕ → List ℕ
formal_part same b f i = record_words TranslationKinds.formal_list (actuals same b f i)

-- what stands before a function's record, before a formal's and before a node's
abbrev before_function : List ℕ → ℕ → List ℕ
before_function b f = head_words b ++ joined f (function_words b)

abbrev before_formal : Labelling → List ℕ → ℕ → ℕ → List ℕ
before_formal same b f i = before_function b (functions b) ++ joined f (formal_words same b) ++ joined i (formal_part same b f)

abbrev before_node : Labelling → List ℕ → ℕ → List ℕ
before_node same b k = before_function b (functions b) ++ joined (functions b) (formal_words same b) ++ joined k (node_words same b)

module _ (b : List ℕ) (accepted : sheet_verdict b ≡ Accepted) where
  -- the sections' records
  made_head : Made 1 (head_words b)
  unfolding head_words
  made_head = made_one TranslationKinds.head (readings b ∷ formals b ∷ functions b ∷ nodes b ∷ []) (record { short = omega arith })

  made_function : (f : ℕ) → f < functions b → Made 1 (function_words b f)
  unfolding function_words
  made_function f h = made_one TranslationKinds.function (function_fields b f) (function_writable b accepted f h).short

  -- as many records stand before a function's as its number says
  made_before_function : (f : ℕ) → f ≤ functions b → Made (1 + f) (before_function b f)
  made_before_function f h = made_both made_head (made_each f (function_words b) (λ g l. made_function g (omega arith)))

module _ (same : Labelling) (b : List ℕ) (accepted : sheet_verdict b ≡ Accepted) where
  made_formal : (f i : ℕ) → i < parameters b f → Made 1 (formal_part same b f i)
  made_formal f i h = made_one TranslationKinds.formal_list (actuals same b f i) (formal_writable same b accepted f i h).short

  made_formals : (f : ℕ) → Made (parameters b f) (formal_words same b f)
  unfolding formal_words
  made_formals f = made_each (parameters b f) (formal_part same b f) (made_formal f)

  made_node : (k : ℕ) → k < nodes b → Made 1 (node_words same b k)
  made_node k h =
      rw (node_words_law same b k)
      (made_one (translated_kind (sheet_node_of b k)) (translated_fields same b k (sheet_node_of b k)) (node_writable same b accepted k h).short)

  -- and before a formal's and a node's
  made_before_formals : (f : ℕ)
      → Made (1 + functions b + sum_of f (parameters b)) (before_function b (functions b) ++ joined f (formal_words same b))
  made_before_formals f =
      made_both (made_before_function b accepted (functions b) (omega arith)) (made_joined f (parameters b) (formal_words same b) (λ g l. made_formals g))

  made_before_formal : (f i : ℕ) → i ≤ parameters b f → Made (1 + functions b + formal_of b f i) (before_formal same b f i)
  unfolding formal_of
  made_before_formal f i h =
      rw (add_assoc (1 + functions b) (sum_of f (parameters b)) i)
      at (made_both (made_before_formals f) (made_each i (formal_part same b f) (λ j l. made_formal f j (omega arith))))

  made_before_node : (k : ℕ) → k ≤ nodes b → Made (1 + functions b + formals b + k) (before_node same b k)
  unfolding formals
  made_before_node k h = made_both (made_before_formals (functions b)) (made_each k (node_words same b) (λ j l. made_node j (omega arith)))

  -- the head's counts are read back
  head_word : (j n : ℕ) → get_or (translation_words same b) j 0 ≡ n → n < 65536 → word (translation_by same b) (2 * j) ≡ n
  unfolding translation_by
  head_word j n e h = word_read (translation_words same b) j (rw e h) ∙ e

  pub translation_readings : readings (translation_by same b) ≡ readings b
  unfolding translation_words head_words record_words
  translation_readings = head_word 2 (readings b) refl (omega (arith, readings_limit Sheet b (sheet_shape b accepted)))

  pub translation_items : items (translation_by same b) ≡ formals b
  unfolding translation_words head_words record_words
  translation_items = head_word 3 (formals b) refl (omega (arith, formals_limit b accepted))

  pub translation_functions : functions (translation_by same b) ≡ functions b
  unfolding translation_words head_words record_words
  translation_functions = head_word 4 (functions b) refl (omega (arith, functions_limit Sheet b (sheet_shape b accepted)))

  pub translation_nodes : nodes (translation_by same b) ≡ nodes b
  unfolding translation_words head_words record_words
  translation_nodes = head_word 5 (nodes b) refl (omega (arith, nodes_limit Sheet b (sheet_shape b accepted)))

  -- the records, each as it was written
  pub function_written : (f : ℕ) → f < functions b → function_record Translation (translation_by same b) f ≡ bytes_of (function_words b f)
  unfolding translation_by translation_words function_words
  function_written f h =
      let s = joined_split (function_words b) (functions b) f h in
      made_record (translation_words same b) (before_function b f) (s.rest ++ joined (functions b) (formal_words same b) ++ joined (nodes b) (node_words same b))
      (1 + f) TranslationKinds.function (function_fields b f) (made_before_function b accepted f (omega arith)) (function_writable b accepted f h).short
      (rw s.is (simp append_assoc))

  pub head_written : record_of (translation_by same b) 0 ≡ bytes_of (head_words b)
  unfolding translation_by translation_words head_words
  head_written =
      made_record (translation_words same b) [] (joined (functions b) (function_words b) ++ joined (functions b) (formal_words same b) ++ joined (nodes b) (node_words same b))
      0 TranslationKinds.head (readings b ∷ formals b ∷ functions b ∷ nodes b ∷ []) made_nothing (record { short = omega arith })
      (simp append_assoc)

  formal_placed : (f i : ℕ) (r u : List ℕ)
      → joined (functions b) (formal_words same b) ≡ joined f (formal_words same b) ++ formal_words same b f ++ r
      → formal_words same b f ≡ joined i (formal_part same b f) ++ formal_part same b f i ++ u
      → translation_words same b ≡ before_formal same b f i ++ formal_part same b f i ++ (u ++ r ++ joined (nodes b) (node_words same b))
  unfolding translation_words
  formal_placed f i r u p q =
      rw (p, q) (simp append_assoc)

  formal_there : (f i : ℕ) → f < functions b → i < parameters b f
      → record_of (translation_by same b) (1 + functions b + formal_of b f i) ≡ bytes_of (formal_part same b f i)
  unfolding translation_by formal_words
  formal_there f i h g =
      let s = joined_split (formal_words same b) (functions b) f h in
      let t = joined_split (formal_part same b f) (parameters b f) i g in
      made_record (translation_words same b) (before_formal same b f i) (t.rest ++ s.rest ++ joined (nodes b) (node_words same b))
      (1 + functions b + formal_of b f i) TranslationKinds.formal_list (actuals same b f i)
      (made_before_formal f i (omega arith)) (formal_writable same b accepted f i g).short
      (formal_placed f i s.rest t.rest s.is t.is)

  pub formal_written : (f i : ℕ) → f < functions b → i < parameters b f
      → item_record Translation (translation_by same b) (formal_of b f i) ≡ bytes_of (formal_part same b f i)
  formal_written f i h g = rw translation_functions (formal_there f i h g)

  node_there : (k : ℕ) → k < nodes b → record_of (translation_by same b) (1 + functions b + formals b + k) ≡ bytes_of (node_words same b k)
  unfolding translation_by translation_words
  node_there k h =
      let nd = sheet_node_of b k in
      let s = joined_split (node_words same b) (nodes b) k h in
      rw (node_words_law same b k)
      (made_record (translation_words same b) (before_node same b k) s.rest (1 + functions b + formals b + k) (translated_kind nd) (translated_fields same b k nd)
      (made_before_node k (omega arith)) (node_writable same b accepted k h).short
      (rw (← node_words_law same b k, s.is) (simp append_assoc)))

  pub node_written : (k : ℕ) → k < nodes b → node_record (translation_by same b) k ≡ bytes_of (node_words same b k)
  node_written k h =
      let e : 1 + formals b + functions b + k ≡ 1 + functions b + formals b + k = omega arith in
      rw (translation_items, translation_functions, e) (node_there k h)

  -- the records that are due fill the file
  pub due_read : due (translation_by same b) ≡ 1 + functions b + formals b + nodes b
  due_read = rw (translation_items, translation_functions, translation_nodes) (omega arith)

  pub translation_filled : start_of (translation_by same b) (due (translation_by same b)) ≡ length (translation_by same b)
  unfolding translation_by translation_words
  translation_filled =
      rw due_read (made_end (translation_words same b) (1 + functions b + formals b + nodes b) (made_before_node (nodes b) (omega arith)))
