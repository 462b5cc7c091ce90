-- A trial holds where what the definitions compute for it, observed, is what it expects: one equation between two records.
use mathlib.Core.Path.{◌≡◌, refl, ap}
use Prim.Native.Nat.{ℕ}
use mathlib.Core.List.{List, [], ◌∷◌, ◌++◌, map, Memᴰ}
use mathlib.Core.Option.{Option, none, some}
use lib.IntN.{ℤ}
use lib.ListN.{length, drop}
use Rattle.definitions.specs.Layouts.{body_of}
use Rattle.definitions.specs.Checks.{sheet_verdict, translation_verdict}
use Rattle.definitions.specs.Outcomes.{Outcome}
use Rattle.definitions.specs.SheetNodes.{call, sheet_node_of}
use Rattle.agreement.specs.Meaning.{empty, OwnAnswer}
use Rattle.definitions.specs.Translate.{translation}
use Rattle.definitions.specs.Run.{Answer, run_answer, run_cells}
use Rattle.definitions.specs.declared.Layout.TheVariants.{Sheet}
use Rattle.definitions.specs.Verdict.{Verdict, Accepted}
use Rattle.evaluator.specs.Evaluator.{own_within}
use Rattle.evaluator.proofs.Own.{own_sound, no_own}
use Rattle.evaluator.proofs.SelfCall.{self_call_endless}
use Rattle.sheets.specs.Sheets.{loop}
use Rattle.sheets.specs.Trial.{Trial, Own, Holds}
use Rattle.sheets.proofs.Opened.{opened}

-- what is observed of a trial
pub record Observation : Type 0 where
  pub sheet_verdict : Verdict
  pub translation_verdict : Verdict
  pub answer : Answer
  pub cells : List ℕ
  pub own : Option Outcome
  pub endless : List ℕ

-- deep enough for each sheet that has an answer of its own
abbrev fuel : ℕ
fuel = 20

-- the sheet, where it has no answer of its own
unfoldable pub endless : Option Outcome → List ℕ → List ℕ
endless (some a) b = []
endless none b = b

-- what the definitions compute
unfoldable pub observed : Trial → Observation
observed t =
    let b = translation t.sheet in
    record {
      sheet_verdict = sheet_verdict t.sheet;
      translation_verdict = translation_verdict b;
      answer = run_answer b t.readings t.steps t.nesting t.cells (length t.before);
      cells = run_cells b t.readings t.steps t.nesting t.cells t.before;
      own = own_within t.sheet t.readings fuel;
      endless = endless t.own t.sheet;
    }

-- what a trial expects; the only sheet that may have no answer of its own is `loop`
unfoldable pub expected : Trial → Observation
expected t =
    record {
      sheet_verdict = Accepted;
      translation_verdict = Accepted;
      answer = t.answer;
      cells = t.made ++ drop (length t.made) t.before;
      own = t.own;
      endless = endless t.own loop;
    }

-- `loop`'s two functions have one body, a call of the second
loop_result : sheet_node_of loop (body_of Sheet loop 0) ≡ call 1 []
unfolding opened
loop_result = refl

loop_body : sheet_node_of loop (body_of Sheet loop 1) ≡ call 1 []
unfolding opened
loop_body = refl

-- `loop` has no answer of its own
loop_endless : (rs : List ℤ) (a : Outcome) → ¬ OwnAnswer loop rs a
loop_endless rs a = no_own loop rs a (λ d. rw loop_result (self_call_endless loop rs 1 [] loop_body d [] empty))

-- the own answer that is computed is the sheet's own, and where none is expected the sheet has none
own_holds : (b : List ℕ) (rs : List ℤ) (own : Option Outcome)
    → own_within b rs fuel ≡ own → endless own b ≡ endless own loop → Own b rs own
unfolding endless
own_holds b rs (some a) p q = own_sound b rs fuel p
own_holds b rs none p q = λ a. rw q (loop_endless rs a)

-- a trial holds where the two agree
pub holds : (t : Trial) → observed t ≡ expected t → Holds t
unfolding observed expected
holds t p =
    record {
      sheet_accepted = ap (λ o. o.sheet_verdict) p;
      translation_accepted = ap (λ o. o.translation_verdict) p;
      run_answers = ap (λ o. o.answer) p;
      cells_made = ap (λ o. o.cells) p;
      own_answer = own_holds t.sheet t.readings t.own (ap (λ o. o.own) p) (ap (λ o. o.endless) p);
    }

-- where the two agree over a list, each trial of the list holds
pub all_hold : (ts : List Trial) → map observed ts ≡ map expected ts → (t : Trial) → Memᴰ t ts → Holds t
all_hold [] p t m = elim m [ ]
all_hold (x ∷ xs) p t (Memᴰ.head e) = holds t (cc)
all_hold (x ∷ xs) p t (Memᴰ.tail m) = all_hold xs (cc) t m
