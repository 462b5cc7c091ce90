-- A sheet's own answer: it is what the evaluator ends with, it is unique, and where the evaluator never ends there is none.
use mathlib.Core.Path.{◌≡◌}
use Prim.Native.Nat.{ℕ}
use mathlib.Core.List.{List}
use mathlib.Core.Option.{none, some, map-eq-some_iff, none-ne-some}
use lib.IntN.{ℤ}
use Rattle.definitions.specs.Layouts.{body_of}
use Rattle.definitions.specs.Outcomes.{Outcome}
use Rattle.definitions.specs.SheetNodes.{sheet_node_of}
use Rattle.agreement.specs.Meaning.{empty, outcome_of, OwnAnswer}
use Rattle.definitions.specs.declared.Layout.TheVariants.{Sheet}
use Rattle.evaluator.specs.Evaluator.{end_within, own_within}
use Rattle.evaluator.proofs.Sound.{sound}
use Rattle.evaluator.proofs.Complete.{complete}
use Rattle.evaluator.proofs.Unique.{unique}

-- the answer that the evaluator gives is the sheet's own
pub own_sound : (b : List ℕ) (rs : List ℤ) (fuel : ℕ) {a : Outcome} → own_within b rs fuel ≡ some a → OwnAnswer b rs a
unfolding own_within
own_sound b rs fuel h =
    let found = (map-eq-some_iff outcome_of (end_within b rs fuel (sheet_node_of b (body_of Sheet b 0)) empty)).0 h in
    record {
      end = found.0;
      means = sound fuel (sheet_node_of b (body_of Sheet b 0)) empty found.1;
      agrees = found.2;
    }

-- a sheet has at most one answer of its own
pub own_unique : {b : List ℕ} {rs : List ℤ} {a a' : Outcome} → OwnAnswer b rs a → OwnAnswer b rs a' → a ≡ a'
own_unique o o' = cc (unique o.means o'.means, o.agrees, o'.agrees)

-- "If it never ends, the sheet has none"
pub no_own : (b : List ℕ) (rs : List ℤ) (a : Outcome)
    → ((fuel : ℕ) → end_within b rs fuel (sheet_node_of b (body_of Sheet b 0)) empty ≡ none)
    → ¬ OwnAnswer b rs a
no_own b rs a never o =
    let i = complete o.means in
    none-ne-some o.end (rw (never i.fuel) at i.ends)
