-- Cells without remembering read as lists of labels: each trace takes as many steps and cells as it has.
use mathlib.Core.Path.{◌≡◌, refl, ap}
use Prim.Native.Nat.{ℕ, suc}
use mathlib.Core.List.{List, [], ◌∷◌, ◌++◌}
use native.Mathlib.Omega.{arith}
use lib.ListN.{length, length-append}
use Rattle.definitions.specs.Rule.{Ending, value, constructor, State}
use Rattle.definitions.specs.PlainCells.{PlainCell}
use Rattle.rule_laws.specs.Derivations.{Trace, alone, after, after_both, after_call}
use Rattle.rule_laws.specs.Reads.{state_of, Reads, Shows, an_integer, a_constructor, an_end}
use Rattle.cell_rules.specs.Contexts.{plain_heads, Stands, outermost}
use Rattle.cell_rules.specs.PlainContexts.{StandsWithin, Takes}
use Rattle.cell_rules.proofs.Contexts.{kept_all_law, kept_then, kept_added, stands_kept, stands_added, stands_one}

module _ {cells_allowed n left : ℕ} {m : List PlainCell} where
  pub takes_alone : {w : ℕ} {ws : List ℕ} → StandsWithin cells_allowed m w ws → Takes cells_allowed (suc n) alone (state_of (suc left) m) (state_of left m)
  takes_alone s = record { depth = omega arith; steps = omega arith; cells = omega arith; room = s.room; kept = kept_all_law m }

  pub takes_after : {a : Trace} {q : State (List PlainCell)} → Takes cells_allowed n a (state_of left m) q → Takes cells_allowed (suc n) (after a) (state_of (suc left) m) q
  takes_after f = record { depth = omega (arith, f.depth); steps = omega (arith, f.steps); cells = f.cells; room = f.room; kept = f.kept }

  pub takes_both : {a d : Trace} {q p : State (List PlainCell)} → Takes cells_allowed n a (state_of left m) q → Takes cells_allowed n d q p
      → Takes cells_allowed (suc n) (after_both a d) (state_of (suc left) m) p
  takes_both f g =
      record {
        depth = omega (arith, f.depth, g.depth);
        steps = omega (arith, f.steps, g.steps);
        cells = omega (arith, f.cells, g.cells);
        room = g.room;
        kept = kept_then f.kept g.kept;
      }

  -- a visit of a body under a new cell
  pub takes_call : {a : Trace} {q : State (List PlainCell)} (c : PlainCell) → Takes cells_allowed n a (state_of left (m ++ (c ∷ []))) q
      → Takes cells_allowed (suc n) (after_call a) (state_of (suc left) m) q
  takes_call c f =
      record {
        depth = omega (arith, f.depth);
        steps = omega (arith, f.steps);
        cells = omega (arith, f.cells, length-append m (c ∷ []));
        room = f.room;
        kept = kept_then (kept_added m c) f.kept;
      }

module _ (t : List ℕ) (cells_allowed : ℕ) where
  abbrev pub plain_reads : Reads t ℕ (List PlainCell)
  plain_reads =
      record {
        At = λ m k w ws. StandsWithin cells_allowed m w ws;
        at_mentioned = λ e g s. s;
        Built = λ m k w ws. StandsWithin cells_allowed m w ws;
        built_tuple = λ e s. s;
        built_field_law = λ i e s. s;
        Went = λ n a x s q. Takes cells_allowed n a s q;
        at_went = λ g s. record { stands = stands_kept g.kept s.stands; room = g.room };
        went_alone = λ s. takes_alone s;
        went_after = λ g. takes_after g;
        went_both = λ g h. takes_both g h;
        went_fault = λ g. g;
        size = length;
        went_steps = λ g. omega (arith, g.steps);
        went_cells = λ g. omega (arith, g.cells);
      }

-- an ending over cells is one over labels
pub shows_one : {cells_allowed : ℕ} {m : List PlainCell} {d : Ending ℕ} {e e' : Ending (List ℕ)}
    → Shows (λ k w ws. StandsWithin cells_allowed m w ws) d e → Shows (λ k w ws. StandsWithin cells_allowed m w ws) d e' → e ≡ e'
shows_one an_integer an_integer = refl
shows_one (a_constructor {k} s) (a_constructor s') = ap (λ (ws : List ℕ). value (constructor k ws)) (stands_one s.stands s'.stands)
shows_one an_end an_end = refl

-- every list of labels is some cell's
pub record Standing (ws : List ℕ) : Type 0 where
  pub store : List PlainCell
  pub cell : ℕ
  pub stands : Stands plain_heads store cell ws

pub standing : (ws : List ℕ) → Standing ws
standing [] = record { store = []; cell = 0; stands = outermost }
standing (l ∷ ws) =
    let s = standing ws in
    let c : PlainCell = record { label = l; previous = s.cell } in
    record { store = s.store ++ (c ∷ []); cell = suc (length s.store); stands = stands_added c s.stands }
