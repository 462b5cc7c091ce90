-- The rule that a run follows, with the visits to actuals listed or without, ends as the rule over serial numbers does: of any translation
-- file, at all allowances.
use mathlib.Core.Path.{◌≡◌, refl}
use Prim.Native.Nat.{ℕ, ◌≤◌}
use mathlib.Core.List.{List, [], ◌∷◌}
use native.Mathlib.Omega.{arith}
use lib.IntN.{ℤ}
use lib.ListN.{length}
use Rattle.definitions.specs.Layouts.{body_of}
use Rattle.definitions.specs.Rule.{Ending, Reached}
use Rattle.definitions.specs.Run.{ending_outcome, rule_end}
use Rattle.definitions.specs.declared.Layout.TheVariants.{Translation}
use Rattle.rule_laws.specs.SideBySide.{AlikeEnds, integers, constructors, ends, Both, cut, arrive}
use Rattle.rule_laws.proofs.Lockstep.{evaluations_in_step}
use Rattle.given_back.specs.SerialCells.{SerialCells, no_serial_cells, serial_evaluation}
use Rattle.given_back.specs.ListedVisits.{Listed, none_listed, forgetting, listed_evaluation, listed_end, cells_made}
use Rattle.given_back.specs.SameEnds.{SameRun, SameEnd}
use Rattle.given_back.proofs.Forgetting.{list_forgotten}
use Rattle.given_back.proofs.Names.{named_below, grows_all}
use Rattle.given_back.proofs.Worlds.{Joined, World, same_node, sides}
use Rattle.given_back.proofs.Lockstep.{in_step}

module _ (b : List ℕ) where
  ends_same : {v : World} {e d : Ending ℕ} → AlikeEnds sides v e d → ending_outcome b e ≡ ending_outcome b d
  unfolding ending_outcome
  ends_same integers = refl
  ends_same (constructors (same_node n)) = refl
  ends_same ends = refl

  same_from : {w : World} {r : Reached ℕ Listed} {q : Reached ℕ SerialCells} → Both sides w r q → SameRun b r q
  same_from (cut h) = absurd h
  same_from (arrive v l e) =
      record { outcome = ends_same e; left = refl; most = v.joined.most; made = v.joined.made; few = v.joined.few; visits = v.joined.visits }

-- no cells are alive
pub start_joined : Joined (0 ∷ []) none_listed no_serial_cells
start_joined =
    record {
      alive = record {
        count = refl;
        fits = omega arith;
        empty = record { is = refl };
        rising = record { rises = λ c e d g n m h. absurd (omega (arith, named_below m)) };
        pairs = λ c d n h. absurd (omega (arith, named_below n));
      };
      live = refl;
      most = refl;
      oldest = record { is = refl };
      made = refl;
      few = omega arith;
      visits = refl;
      numbered = omega arith;
      serials = grows_all (0 ∷ []);
    }

abbrev pub start : ℕ → World
start steps = record { left = steps; here = none_listed; there = no_serial_cells; names = 0 ∷ []; joined = start_joined }

-- the whole evaluations
pub evaluations_both : (b : List ℕ) (rs : List ℤ) (steps nesting cells_allowed : ℕ)
    → Both sides (start steps) (listed_end b rs steps nesting cells_allowed) (serial_evaluation b rs steps nesting cells_allowed)
unfolding listed_end listed_evaluation serial_evaluation
evaluations_both b rs steps nesting cells_allowed =
    (evaluations_in_step sides (in_step b rs cells_allowed) nesting nesting refl).both (start steps) (body_of Translation b 0) (body_of Translation b 0) 0 0
    (same_node (record { is = refl }))

pub listed_serial : (b : List ℕ) (rs : List ℤ) (steps nesting cells_allowed : ℕ)
    → SameRun b (listed_end b rs steps nesting cells_allowed) (serial_evaluation b rs steps nesting cells_allowed)
listed_serial b rs steps nesting cells_allowed = same_from b (evaluations_both b rs steps nesting cells_allowed)

-- with the list forgotten
run_forgotten : {b : List ℕ} {r : Reached ℕ Listed} {q : Reached ℕ SerialCells} → SameRun b r q → SameEnd b (forgetting r) q
run_forgotten s = record { outcome = s.outcome; left = s.left; most = s.most; few = omega (arith, s.few, s.made) }

pub rule_serial : (b : List ℕ) (rs : List ℤ) (steps nesting cells_allowed : ℕ)
    → SameEnd b (rule_end b rs steps nesting cells_allowed) (serial_evaluation b rs steps nesting cells_allowed)
rule_serial b rs steps nesting cells_allowed =
    rw (← list_forgotten b rs steps nesting cells_allowed) (run_forgotten (listed_serial b rs steps nesting cells_allowed))

-- no more cells are alive together than are made
pub most_made : (b : List ℕ) (rs : List ℤ) (steps nesting cells_allowed : ℕ)
    → length (rule_end b rs steps nesting cells_allowed).state.store.cells ≤ cells_made b rs steps nesting cells_allowed
most_made b rs steps nesting cells_allowed =
    rw (← list_forgotten b rs steps nesting cells_allowed) (listed_serial b rs steps nesting cells_allowed).few
