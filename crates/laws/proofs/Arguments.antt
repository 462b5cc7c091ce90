-- Laws of the check of argument counts, and of the checks 5 and 7 of a record together.
use mathlib.Core.Path.{◌≡◌, refl, sym, ◌∙◌}
use Prim.Native.Nat.{ℕ, ◌-◌, ◌<◌}
use mathlib.Core.List.{List}
use mathlib.Core.Bool.{Bool, true, false}
use lib.Dec.{eqb}
use borrow.Author.Tests.{eq-eqb, ne_eqb, ltb-true}
use Rattle.definitions.specs.SheetKinds
use Rattle.definitions.specs.Numbers.{bad_arguments, out_of_range}
use Rattle.definitions.specs.Records.{record_of, kind_of, field, field_count}
use Rattle.definitions.specs.Verdicts.{◌and_then◌}
use Rattle.definitions.specs.Layouts.{functions, items, first_function}
use Rattle.definitions.specs.References.{parameters, arity, names_in_range, references}
use Rattle.definitions.specs.SheetRules.{arguments_match, arguments}
use Rattle.definitions.specs.declared.Layout.TheVariants.{Sheet}
use Rattle.definitions.specs.Verdict.{Accepted, Refused}
use Rattle.laws.proofs.Verdicts.{then_accepted, then_refused, require_true, require_false}

-- what names in range say of a call and of a build
module _ (b rec : List ℕ) (r k x : ℕ) (ek : k ≡ kind_of rec) (ex : x ≡ field rec 0) (h : names_in_range b r rec ≡ true) where
  pub callee_below : k ≡ SheetKinds.call → x < functions b
  unfolding names_in_range
  callee_below e = ltb-true x (functions b) (rw (← ek, e, ← ex) at h)

  pub constructor_below : k ≡ SheetKinds.build → x < items b
  unfolding names_in_range
  constructor_below e = ltb-true x (items b) (rw (← ek, e, ← ex) at h)

-- the test of argument counts
module _ (b rec : List ℕ) (r f : ℕ) (ef : f ≡ first_function Sheet b) where
  pub match_result : (x : ℕ) → r ≡ f → x ≡ field rec 0 → eqb x 0 ≡ arguments_match b r rec
  unfolding arguments_match
  match_result x e g = rw (eq-eqb r (first_function Sheet b) (e ∙ ef), g) refl

  module _ (er : r ≡ f → ⊥) (k : ℕ) (ek : k ≡ kind_of rec) where
    pub match_call : {n x p : ℕ} → k ≡ SheetKinds.call → n ≡ field_count rec - 1 → x ≡ field rec 0 → p ≡ parameters b x → eqb n p ≡ arguments_match b r rec
    unfolding arguments_match
    match_call e g h i = rw (ne_eqb r (first_function Sheet b) (λ q. er (q ∙ sym ef)), ← ek, e, ← g, ← h, i) refl

    pub match_build : {n x p : ℕ} → k ≡ SheetKinds.build → n ≡ field_count rec - 1 → x ≡ field rec 0 → p ≡ arity b x → eqb n p ≡ arguments_match b r rec
    unfolding arguments_match
    match_build e g h i = rw (ne_eqb r (first_function Sheet b) (λ q. er (q ∙ sym ef)), ← ek, e, ← g, ← h, i) refl

    pub match_other : (k ≡ SheetKinds.call → ⊥) → (k ≡ SheetKinds.build → ⊥) → true ≡ arguments_match b r rec
    unfolding arguments_match
    match_other e g = rw (ne_eqb r (first_function Sheet b) (λ q. er (q ∙ sym ef)), ← ek, ne_eqb k SheetKinds.call e, ne_eqb k SheetKinds.build g) refl

-- the checks 5 and 7 of record r
pub out_of_range_law : (b : List ℕ) (r : ℕ) → Refused out_of_range r ≡ references b r → Refused out_of_range r ≡ (references b r and_then arguments b r)
out_of_range_law b r e = sym (then_refused (references b r) (arguments b r) 5 r (sym e))

module _ (b rec : List ℕ) (r : ℕ) (er : rec ≡ record_of b r) (e : Accepted ≡ references b r) (t : Bool) (et : t ≡ arguments_match b r rec) where
  pub mismatched : t ≡ false → Refused bad_arguments r ≡ (references b r and_then arguments b r)
  unfolding arguments
  mismatched f =
      sym (then_accepted (references b r) (arguments b r) (sym e) ∙ require_false (arguments_match b r (record_of b r)) 7 r (rw (← er) (sym et ∙ f)))

  pub matched : t ≡ true → Accepted ≡ (references b r and_then arguments b r)
  unfolding arguments
  matched f =
      sym (then_accepted (references b r) (arguments b r) (sym e) ∙ require_true (arguments_match b r (record_of b r)) 7 r (rw (← er) (sym et ∙ f)))
