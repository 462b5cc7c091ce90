-- Laws of the check of references: what a record names besides nodes, by kind, and the verdict on a record.
use mathlib.Core.Path.{◌≡◌, refl}
use Prim.Native.Nat.{ℕ, ◌-◌, ◌≤◌}
use mathlib.Core.List.{List}
use mathlib.Core.Bool.{Bool, true, false, cond, ◌&&◌, and-eq-true_iff}
use native.Mathlib.Omega.{arith}
use lib.Dec.{leb, ltb, eqb}
use borrow.Author.Tests.{ne_eqb, eqb-true, leb-true}
use Rattle.definitions.specs.SheetKinds
use Rattle.definitions.specs.TranslationKinds
use Rattle.definitions.specs.Numbers.{out_of_range}
use Rattle.definitions.specs.Records.{record_of, kind_of, field}
use Rattle.definitions.specs.Lists.{all_of}
use Rattle.definitions.specs.Verdicts.{require}
use Rattle.definitions.specs.Layouts.{is_typed, readings, items, functions, nodes, first_node, constructor_kind, function_kind, section_kind, is_due, owner_of}
use Rattle.definitions.specs.References.{parameters, children, child, clauses, clause_constructor, names_in_range, in_range, references}
use Rattle.definitions.specs.declared.Layout.TheVariants.{Sheet, Translation}
use Rattle.definitions.specs.Verdict.{Accepted, Refused}

-- the kinds of the two files lie apart
module _ (b : List ℕ) (r k : ℕ) where
  sheet_section : (t u : Bool) → eqb k (cond t (cond u 6 2) (cond u 7 3)) ≡ true → k ≤ SheetKinds.case_of
  sheet_section true true e = omega (arith, eqb-true k 6 e)
  sheet_section true false e = omega (arith, eqb-true k 2 e)
  sheet_section false true e = omega (arith, eqb-true k 7 e)
  sheet_section false false e = omega (arith, eqb-true k 3 e)

  sheet_due : (t u : Bool)
      → cond t (eqb k 1) (cond u (eqb k (cond (leb r (items b)) (constructor_kind b) (function_kind b))) (leb SheetKinds.number k && leb k SheetKinds.case_of)) ≡ true
      → k ≤ SheetKinds.case_of
  unfolding constructor_kind function_kind
  sheet_due true u e = omega (arith, eqb-true k 1 e)
  sheet_due false true e = sheet_section (leb r (items b)) (is_typed b) e
  sheet_due false false e = leb-true k SheetKinds.case_of ((and-eq-true_iff (leb SheetKinds.number k) (leb k SheetKinds.case_of)).0 e).1

  pub sheet_kind : is_due Sheet b r k ≡ true → k ≤ SheetKinds.case_of
  unfolding is_due section_kind
  sheet_kind e = sheet_due (eqb r 0) (ltb r (first_node b)) e

  translation_section : (t : Bool) → eqb k (cond t TranslationKinds.function TranslationKinds.formal_list) ≡ true → TranslationKinds.head ≤ k
  translation_section true e = omega (arith, eqb-true k TranslationKinds.function e)
  translation_section false e = omega (arith, eqb-true k TranslationKinds.formal_list e)

  translation_due : (t u : Bool) → cond t (eqb k TranslationKinds.head) (cond u (eqb k (cond (leb r (functions b)) TranslationKinds.function TranslationKinds.formal_list))
      (leb TranslationKinds.number k && leb k TranslationKinds.case_of)) ≡ true → TranslationKinds.head ≤ k
  translation_due true u e = omega (arith, eqb-true k TranslationKinds.head e)
  translation_due false true e = translation_section (leb r (functions b)) e
  translation_due false false e = omega (arith, leb-true TranslationKinds.number k ((and-eq-true_iff (leb TranslationKinds.number k) (leb k TranslationKinds.case_of)).0 e).0)

  pub translation_kind : is_due Translation b r k ≡ true → TranslationKinds.head ≤ k
  unfolding is_due section_kind
  translation_kind e = translation_due (eqb r 0) (ltb r (first_node b)) e

-- what a record names besides nodes
module _ (b rec : List ℕ) (r k : ℕ) (ek : k ≡ kind_of rec) where
  pub names_reading : (x n : ℕ) → k ≡ TranslationKinds.reading → x ≡ field rec 0 → n ≡ readings b → ltb x n ≡ names_in_range b r rec
  unfolding names_in_range
  names_reading x n e f g = rw (← ek, e, f, g) refl

  pub names_function : (x n : ℕ) → k ≡ TranslationKinds.call → x ≡ field rec 1 → n ≡ functions b → ltb x n ≡ names_in_range b r rec
  unfolding names_in_range
  names_function x n e f g = rw (← ek, e, f, g) refl

  pub names_formal : (x n : ℕ) → k ≡ TranslationKinds.formal → x ≡ field rec 0 → n ≡ items b → ltb x n ≡ names_in_range b r rec
  unfolding names_in_range
  names_formal x n e f g = rw (← ek, e, f, g) refl

  pub names_none : TranslationKinds.head ≤ kind_of rec → (k ≡ TranslationKinds.reading → ⊥) → (k ≡ TranslationKinds.call → ⊥) → (k ≡
      TranslationKinds.formal → ⊥) → true ≡ names_in_range b r rec
  unfolding names_in_range
  names_none h e f g =
      rw (
        ← ek,
        ne_eqb k SheetKinds.reading (λ q. omega (arith, q, ek, h)),
        ne_eqb k TranslationKinds.reading e,
        ne_eqb k SheetKinds.parameter (λ q. omega (
          arith,
          q,
          ek,
          h,
        )),
        ne_eqb k SheetKinds.call (λ q. omega (arith, q, ek, h)),
        ne_eqb k TranslationKinds.call f,
        ne_eqb k SheetKinds.build (λ q. omega (arith, q, ek, h)),
        ne_eqb k
            TranslationKinds.formal g,
        ne_eqb k SheetKinds.case_of (λ q. omega (arith, q, ek, h)),
      )
      refl

  pub names_sheet_reading : (x n : ℕ) → k ≡ SheetKinds.reading → x ≡ field rec 0 → n ≡ readings b → ltb x n ≡ names_in_range b r rec
  unfolding names_in_range
  names_sheet_reading x n e f g = rw (← ek, e, f, g) refl

  pub names_parameter : (x n : ℕ) → k ≡ SheetKinds.parameter → x ≡ field rec 0 → n ≡ parameters b (owner_of Sheet b (r - first_node b)) → ltb x n ≡ names_in_range b r rec
  unfolding names_in_range
  names_parameter x n e f g = rw (← ek, e, f, g) refl

  pub names_callee : (x n : ℕ) → k ≡ SheetKinds.call → x ≡ field rec 0 → n ≡ functions b → ltb x n ≡ names_in_range b r rec
  unfolding names_in_range
  names_callee x n e f g = rw (← ek, e, f, g) refl

  pub names_constructor : (x n : ℕ) → k ≡ SheetKinds.build → x ≡ field rec 0 → n ≡ items b → ltb x n ≡ names_in_range b r rec
  unfolding names_in_range
  names_constructor x n e f g = rw (← ek, e, f, g) refl

  pub names_clauses : (t : Bool) (n : ℕ) → k ≡ SheetKinds.case_of → n ≡ items b → t ≡ all_of (clauses rec) (λ j. ltb (clause_constructor rec j) n) → t ≡ names_in_range b r rec
  unfolding names_in_range
  names_clauses t n e f g = rw (← ek, e, ← f) g

  pub names_sheet_none : kind_of rec ≤ SheetKinds.case_of → (k ≡ SheetKinds.reading → ⊥) → (k ≡ SheetKinds.parameter → ⊥) → (k ≡ SheetKinds.call → ⊥)
      → (k ≡ SheetKinds.build → ⊥) → (k ≡ SheetKinds.case_of → ⊥) → true ≡ names_in_range b r rec
  unfolding names_in_range
  names_sheet_none h e f g i j =
      rw (
        ← ek,
        ne_eqb k SheetKinds.reading e,
        ne_eqb k TranslationKinds.reading (λ q. omega (arith, q, ek, h)),
        ne_eqb k SheetKinds.parameter f,
        ne_eqb k SheetKinds.call
            g,
        ne_eqb k TranslationKinds.call (λ q. omega (arith, q, ek, h)),
        ne_eqb k SheetKinds.build i,
        ne_eqb k TranslationKinds.formal (λ q. omega (arith, q, ek, h)),
        ne_eqb k SheetKinds.case_of j,
      )
      refl

-- the verdict on record r, by the two tests
module _ (b : List ℕ) {rec : List ℕ} (r : ℕ) {n : ℕ} (er : rec ≡ record_of b r) (en : n ≡ nodes b) {t : Bool} (et : t ≡ all_of (children rec) (λ j. ltb (child rec j) n)) where
  pub children_out : t ≡ false → Refused out_of_range r ≡ references b r
  unfolding references in_range require
  children_out e = rw (← er, ← en, ← et, e) refl

  pub names_out : t ≡ true → {u : Bool} → u ≡ names_in_range b r rec → u ≡ false → Refused out_of_range r ≡ references b r
  unfolding references in_range require
  names_out e f g = rw (← er, ← en, ← et, e, ← f, g) refl

  pub all_in : t ≡ true → {u : Bool} → u ≡ names_in_range b r rec → u ≡ true → Accepted ≡ references b r
  unfolding references in_range require
  all_in e f g = rw (← er, ← en, ← et, e, ← f, g) refl
