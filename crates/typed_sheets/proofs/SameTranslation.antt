-- Sheets that are equal up to types have the same translation.
use mathlib.Core.Path.{◌≡◌, refl, ap, ap₂, ◌∙◌, fun_ext}
use Prim.Native.Nat.{ℕ, suc, ◌+◌}
use mathlib.Core.List.{List, [], ◌∷◌, ◌++◌}
use mathlib.Core.Bool.{Bool, cond, ◌&&◌}
use lib.Dec.{eqb}
use Rattle.definitions.specs.Bytes.{bytes_of}
use Rattle.definitions.specs.Records.{kind_of, field}
use Rattle.definitions.specs.SheetKinds
use Rattle.definitions.specs.TranslationKinds
use Rattle.definitions.specs.Lists.{joined, sum_of, count_of, first_passing}
use Rattle.definitions.specs.Layouts.{owner_of}
use Rattle.definitions.specs.SheetNodes.{SheetNode, number, reading, parameter, pattern_variable, operator, conditional, call, build, case_of, sheet_node, sheet_node_of}
use Rattle.definitions.specs.Trees.{equal_trees}
use Rattle.definitions.specs.Labels.{Labelling, calls, first_call, is_first, label_of, actuals}
use Rattle.definitions.specs.Translate.{record_words, formal_of, formals, translated, head_words, function_words, formal_words, node_words, translation_words, translation_by, translation}
use Rattle.definitions.specs.declared.Layout.TheVariants.{Sheet}
use Rattle.typed_sheets.specs.UpToTypes.{EqualUpToTypes}
use Rattle.typed_sheets.proofs.SameRuns.{same_owner, same_scrutinee}
use Rattle.typed_sheets.proofs.SameTrees.{same_equal_trees}

module _ {a b : List ℕ} (e : EqualUpToTypes a b) where
  same_formal : (f i : ℕ) → formal_of a f i ≡ formal_of b f i
  unfolding formal_of
  same_formal f i = ap (λ (at : ℕ → ℕ). sum_of f at + i) (fun_ext e.parameters)

  same_formals : formals a ≡ formals b
  unfolding formals
  same_formals = ap₂ sum_of e.functions (fun_ext e.parameters)

  same_calls : (f k : ℕ) → calls a f k ≡ calls b f k
  unfolding calls
  same_calls f k = ap (λ (rec : List ℕ). eqb (kind_of rec) SheetKinds.call && eqb (field rec 0) f) (e.records k)

  same_head : head_words a ≡ head_words b
  unfolding head_words
  same_head = rw (e.readings, same_formals, e.functions, e.nodes) refl

  same_function : (f : ℕ) → function_words a f ≡ function_words b f
  unfolding function_words
  same_function f = ap₂ (λ (n p : ℕ). record_words TranslationKinds.function (n ∷ p ∷ [])) (e.counts f) (e.parameters f)

  -- by one labelling
  module _ (same : Labelling) where
    same_first_call : (f k : ℕ) → first_call same a f k ≡ first_call same b f k
    unfolding first_call
    same_first_call f k = ap (first_passing k) (fun_ext (λ m. ap (λ t. t && same m k) (same_calls f m)))

    same_first : (f k : ℕ) → is_first same a f k ≡ is_first same b f k
    unfolding is_first
    same_first f k = ap₂ (λ (t : Bool) (n : ℕ). t && eqb n k) (same_calls f k) (same_first_call f k)

    same_label : (f k : ℕ) → label_of same a f k ≡ label_of same b f k
    unfolding label_of
    same_label f k = ap₂ count_of (same_first_call f k) (fun_ext (same_first f))

    same_actuals : (f i : ℕ) → actuals same a f i ≡ actuals same b f i
    unfolding actuals
    same_actuals f i =
        ap₂ joined e.nodes
        (fun_ext (λ k. ap₂ (λ (t : Bool) (rec : List ℕ). cond t (field rec (1 + i) ∷ []) []) (same_first f k) (e.records k)))

    same_translated : (k : ℕ) (nd : SheetNode) → translated same a k nd ≡ translated same b k nd
    unfolding translated
    same_translated k (number z) = refl
    same_translated k (reading i) = refl
    same_translated k (parameter i) =
        ap (λ n. record_words TranslationKinds.formal (n ∷ [])) (ap (λ f. formal_of a f i) (same_owner e k) ∙ same_formal (owner_of Sheet b k) i)
    same_translated k (pattern_variable i) = ap (λ n. record_words TranslationKinds.select (n ∷ suc i ∷ [])) (same_scrutinee e k)
    same_translated k (operator o l r) = refl
    same_translated k (conditional n p q) = refl
    same_translated k (call f ns) = ap (λ n. record_words TranslationKinds.call (n ∷ f ∷ [])) (same_label f k)
    same_translated k (build c ns) = refl
    same_translated k (case_of n cs) = refl

    same_node : (k : ℕ) → node_words same a k ≡ node_words same b k
    unfolding node_words sheet_node_of
    same_node k = ap (λ (rec : List ℕ). translated same a k (sheet_node rec)) (e.records k) ∙ same_translated k (sheet_node_of b k)

    same_list : (f : ℕ) → formal_words same a f ≡ formal_words same b f
    unfolding formal_words
    same_list f = ap₂ joined (e.parameters f) (fun_ext (λ i. ap (record_words TranslationKinds.formal_list) (same_actuals f i)))

    same_translation_by : translation_by same a ≡ translation_by same b
    unfolding translation_by translation_words
    same_translation_by =
        ap bytes_of
        (ap₂ ◌++◌ (ap₂ ◌++◌ (ap₂ ◌++◌ same_head (ap₂ joined e.functions (fun_ext same_function)))
        (ap₂ joined e.functions (fun_ext same_list)))
        (ap₂ joined e.nodes (fun_ext same_node)))

  pub same_translation : translation a ≡ translation b
  unfolding translation
  same_translation = same_translation_by (equal_trees a) ∙ ap (λ (same : Labelling). translation_by same b) (same_equal_trees e)
