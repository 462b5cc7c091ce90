-- How the readers' answers come about: a refused shape, or the verdict of the checks after it.
use mathlib.Core.Path.{◌≡◌, refl, sym, ap, ◌∙◌}
use Prim.Native.Nat.{ℕ}
use mathlib.Core.List.{List}
use mathlib.Core.Bool.{Bool, true, false}
use native.Mathlib.Omega.{arith}
use Rattle.definitions.specs.Layouts.{is_typed, nodes, due}
use Rattle.definitions.specs.Shape.{file_shape}
use Rattle.definitions.specs.References.{references}
use Rattle.definitions.specs.Verdicts.{first_of, ◌and_then◌}
use Rattle.definitions.specs.SheetRules.{arguments, times_child, tree, parent_of, pattern}
use Rattle.definitions.specs.Types.{typing, types}
use Rattle.definitions.specs.Checks.{checks_to_six, sheet_verdict, translation_verdict}
use Rattle.definitions.specs.declared.Layout.{Layout}
use Rattle.definitions.specs.declared.Layout.TheVariants.{Sheet, Translation}
use Rattle.definitions.specs.Verdict.{Verdict, Accepted, Refused}
use Rattle.laws.proofs.Verdicts.{then_accepted, then_refused}
use Rattle.accepted.proofs.Head.{nodes_limit}
use Rattle.sheet_rules.specs.Seen.{times_in, Seen, TimesOf, ParentsOf, TreesAccepted}
use Rattle.file_records.specs.Index.{Opened}
use Rattle.file_shape.specs.Walks.{Walked}
use Rattle.file_runs.specs.Runs.{RunEndTable, Owners}
use Rattle.format.specs.Readers.{ReadTranslation, ReadSheet}

-- nothing is both accepted and refused
pub not_both : {P : Type 0} (v : Verdict) (n p : ℕ) → v ≡ Refused n p → v ≡ Accepted → P
not_both v n p e f = absurd (let z : ◌≡◌ {A = ℕ} 0 1 = cc in omega arith)

-- an accepted walk opens the file
pub opened : {y : Layout} {b starts : List ℕ} {v : Verdict} → Walked y b v starts → v ≡ Accepted → Opened y b starts
opened w e = record { accepted = sym w.verdict ∙ e; index = w.index e }

pub translation_refused : {b starts ends : List ℕ} {v : Verdict} {n p : ℕ} → Walked Translation b v starts → v ≡ Refused n p → ReadTranslation b v starts ends
unfolding translation_verdict
translation_refused {v} {n} {p} w e =
    record {
      verdict = e ∙ sym (then_refused _ _ n p (sym w.verdict ∙ e));
      index = not_both v n p e;
      runs = not_both v n p e;
    }

pub translation_read : {b starts ends : List ℕ} {v : Verdict} → Opened Translation b starts → RunEndTable Translation b ends → v ≡ first_of (due b) (references b)
    → ReadTranslation b v starts ends
unfolding translation_verdict
translation_read o r e =
    record {
      verdict = e ∙ sym (then_accepted _ _ o.accepted);
      index = λ f. o.index;
      runs = λ f. r;
    }

pub sheet_refused : {b starts ends owners : List ℕ} {v : Verdict} {n p : ℕ} → Walked Sheet b v starts → v ≡ Refused n p → ReadSheet b v starts ends owners
unfolding sheet_verdict checks_to_six
sheet_refused {v} {n} {p} w e =
    record {
      verdict = e ∙ sym (then_refused _ _ n p (then_refused _ _ n p (then_refused _ _ n p (then_refused _ _ n p (sym w.verdict ∙ e)))));
      index = not_both v n p e;
      runs = not_both v n p e;
      owned = not_both v n p e;
    }

pub sheet_read : {b starts ends owners : List ℕ} {v : Verdict} → Opened Sheet b starts → RunEndTable Sheet b ends → Owners b owners → v ≡ sheet_verdict b
    → ReadSheet b v starts ends owners
sheet_read o r w e = record { verdict = e; index = λ f. o.index; runs = λ f. r; owned = λ f. w }

-- the checks of a sheet whose shape is accepted
module _ {b starts : List ℕ} (o : Opened Sheet b starts) {v : Verdict} (ev : v ≡ first_of (due b) (λ r. references b r and_then arguments b r)) where
  pub names_refused : {n p : ℕ} → v ≡ Refused n p → v ≡ sheet_verdict b
  unfolding sheet_verdict checks_to_six
  names_refused {n} {p} e =
      e ∙ sym (then_refused _ _ n p (then_refused _ _ n p (then_refused _ _ n p (then_accepted _ _ o.accepted ∙ sym ev ∙ e))))

  module _ (hv : v ≡ Accepted) {u : Verdict} (eu : u ≡ first_of (nodes b) (tree b)) where
    names_passed : (file_shape Sheet b and_then first_of (due b) (λ r. references b r and_then arguments b r)) ≡ Accepted
    names_passed = then_accepted _ _ o.accepted ∙ sym ev ∙ hv

    pub trees_refused : {n p : ℕ} → u ≡ Refused n p → u ≡ sheet_verdict b
    unfolding sheet_verdict checks_to_six
    trees_refused {n} {p} e = e ∙ sym (then_refused _ _ n p (then_refused _ _ n p (then_accepted _ _ names_passed ∙ sym eu ∙ e)))

    pub trees_accepted : u ≡ Accepted → TreesAccepted b
    trees_accepted e = record { names = sym ev ∙ hv; trees = sym eu ∙ e }

    pub checks_last : {x : Verdict} → u ≡ Accepted → x ≡ (first_of (nodes b) (pattern b) and_then types b) → x ≡ sheet_verdict b
    unfolding sheet_verdict checks_to_six
    checks_last e f = f ∙ ap (λ (y : Verdict). y and_then types b) (sym (then_accepted _ _ (then_accepted _ _ names_passed ∙ sym eu ∙ e)))

-- the pattern rules, and the types of a sheet that is typed
module _ (b : List ℕ) {v : Verdict} (ev : v ≡ first_of (nodes b) (pattern b)) where
  pub patterns_refused : {n p : ℕ} → v ≡ Refused n p → v ≡ (first_of (nodes b) (pattern b) and_then types b)
  patterns_refused {n} {p} e = e ∙ sym (then_refused _ _ n p (sym ev ∙ e))

  module _ (hv : v ≡ Accepted) {t : Bool} (et : t ≡ is_typed b) where
    pub types_none : t ≡ false → Accepted ≡ (first_of (nodes b) (pattern b) and_then types b)
    unfolding types
    types_none e = sym (then_accepted _ _ (sym ev ∙ hv) ∙ rw (← et, e) refl)

    pub types_last : t ≡ true → {x : Verdict} → x ≡ first_of (nodes b) (typing b) → x ≡ (first_of (nodes b) (pattern b) and_then types b)
    unfolding types
    types_last e f = f ∙ sym (then_accepted _ _ (sym ev ∙ hv) ∙ rw (← et, e) refl)

-- the tables of children, for the nodes of the sheet
pub times_seen : {b starts times parents : List ℕ} → Opened Sheet b starts → Seen b (nodes b) times parents → TimesOf b times
unfolding times_child times_in
times_seen {b} o w = record { entry = λ k h. w.counted k (omega (arith, h, nodes_limit Sheet b o.accepted)) }

pub parents_seen : {b starts times parents : List ℕ} → Opened Sheet b starts → Seen b (nodes b) times parents → ParentsOf b parents
unfolding parent_of times_in
parents_seen {b} o w = record { entry = λ k h. w.last k (omega (arith, h, nodes_limit Sheet b o.accepted)) }
