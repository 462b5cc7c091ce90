-- Cells that remember read as lists of labels: a visit takes no more steps and cells than its trace has, and leaves the cells in order.
use mathlib.Core.Path.{◌≡◌, refl}
use Prim.Native.Nat.{ℕ, suc}
use mathlib.Core.List.{List, [], ◌∷◌, ◌++◌}
use mathlib.Core.Option.{some}
use native.Mathlib.Omega.{arith}
use lib.IntN.{ℤ}
use lib.ListN.{length, get_elem?, length-append}
use Rattle.definitions.specs.FormalPlaces.{function_of, position_of}
use Rattle.definitions.specs.TranslationNodes.{translation_node_of, actual}
use Rattle.definitions.specs.Rule.{Value, Ending, value, ended, State, Reached, reach}
use Rattle.definitions.specs.Cells.{Cell, new_cell, with_value, keeping, remembered}
use Rattle.laws.proofs.Cells.{value_length}
use Rattle.rule_laws.specs.Derivations.{Trace, alone, after, after_both, after_call, Derivation}
use Rattle.rule_laws.specs.Reads.{state_of, Reads, Shows, Arrives}
use Rattle.cell_rules.specs.Contexts.{head_of, cell_heads, Stands, Kept}
use Rattle.cell_rules.specs.InOrder.{InOrder, StandsInOrder, Spends}
use Rattle.cell_rules.proofs.Contexts.{kept_all_law, kept_then, kept_added, stands_kept, stands_added}
use Rattle.cell_rules.proofs.Changes.{value_kept}
use Rattle.cell_rules.proofs.InOrder.{shows_map, order_added, order_value}

module _ {t : List ℕ} {rs : List ℤ} where
  module _ {left : ℕ} {m : List Cell} where
    pub spends_alone : {w : ℕ} {ws : List ℕ} → StandsInOrder t rs m w ws → Spends t rs alone (state_of (suc left) m) (state_of left m)
    spends_alone s = record { steps = omega arith; cells = omega arith; kept = kept_all_law m; order = s.order }

    pub spends_after : {a : Trace} {q : State (List Cell)} → Spends t rs a (state_of left m) q → Spends t rs (after a) (state_of (suc left) m) q
    spends_after f = record { steps = omega (arith, f.steps); cells = f.cells; kept = f.kept; order = f.order }

    pub spends_both : {a d : Trace} {q p : State (List Cell)} → Spends t rs a (state_of left m) q → Spends t rs d q p
        → Spends t rs (after_both a d) (state_of (suc left) m) p
    spends_both f g =
        record {
          steps = omega (arith, f.steps, g.steps);
          cells = omega (arith, f.cells, g.cells);
          kept = kept_then f.kept g.kept;
          order = g.order;
        }

    -- a visit of a body under a new cell
    pub spends_call : {a : Trace} {q : State (List Cell)} (c : Cell) → Spends t rs a (state_of left (m ++ (c ∷ []))) q
        → Spends t rs (after_call a) (state_of (suc left) m) q
    spends_call c f =
        record {
          steps = omega (arith, f.steps);
          cells = omega (arith, f.cells, length-append m (c ∷ []));
          kept = kept_then (kept_added m c) f.kept;
          order = f.order;
        }

module _ (t : List ℕ) (rs : List ℤ) where
  abbrev pub cell_reads : Reads t ℕ (List Cell)
  cell_reads =
      record {
        At = λ m k w ws. StandsInOrder t rs m w ws;
        at_mentioned = λ e g s. s;
        Built = λ m k w ws. StandsInOrder t rs m w ws;
        built_tuple = λ e s. s;
        built_field_law = λ i e s. s;
        Went = λ n a x s q. Spends t rs a s q;
        at_went = λ g s. record { stands = stands_kept g.kept s.stands; order = g.order };
        went_alone = λ s. spends_alone s;
        went_after = λ g. spends_after g;
        went_both = λ g h. spends_both g h;
        went_fault = λ g. g;
        size = length;
        went_steps = λ g. g.steps;
        went_cells = λ g. g.cells;
      }

  -- the cell that a call adds
  pub added_stands : {m : List Cell} {w : ℕ} {ws : List ℕ} (l f : ℕ) → StandsInOrder t rs m w ws
      → StandsInOrder t rs (m ++ (new_cell l w f ∷ [])) (suc (length m)) (l ∷ ws)
  unfolding new_cell
  added_stands {m} {w} l f s = record { stands = stands_added (new_cell l w f) s.stands; order = order_added t rs l w f s.order }

  -- a value that a cell remembers, in place of a visit of any trace
  pub arrives_recalled : {n left : ℕ} {m : List Cell} (a : Trace) {v : Value ℕ} {e : Ending (List ℕ)} → InOrder t rs m
      → Shows (λ k w ws. Stands cell_heads m w ws) (value v) e
      → Arrives cell_reads (suc n) (state_of (suc left) m) (after a) e (reach (value v) (state_of left m))
  unfolding reach
  arrives_recalled {m} a r g =
      record {
        went = record { steps = omega arith; cells = omega arith; kept = kept_all_law m; order = r };
        shows = shows_map (λ k w ws s. record { stands = s; order = r }) g;
      }

  -- the visit of formal p's actual under cell c, whose value is remembered there
  module _ {n left j : ℕ} {m : List Cell} {ws : List ℕ} {a : Trace} {e : Ending (List ℕ)} (p c : ℕ) (x : Cell) (found : get_elem? m c ≡ some x)
      (own : function_of t p ≡ x.callee) (named : actual t p x.label ≡ some j) (stands : Stands cell_heads m x.previous ws)
      (v : Derivation t rs (translation_node_of t j) j ws a e) where
    kept_arrives : (d : Ending ℕ) (q : State (List Cell)) → Spends t rs a (state_of left m) q → Shows (λ k w ws. StandsInOrder t rs q.store w ws) d e
        → Arrives cell_reads n (state_of left m) a e (reach d (keeping (suc c) (position_of t p) d q))
    unfolding keeping reach
    kept_arrives (ended y) q g s = record { went = g; shows = s }
    kept_arrives (value u) q g s =
        let i = position_of t p in
        let k : Kept cell_heads q.store (with_value (suc c) i u q.store) = value_kept (suc c) i u q.store in
        let o : InOrder t rs (with_value (suc c) i u q.store) =
        order_value t rs c i u {h = head_of x} g.order (g.kept.same c x found)
        (record {
          formal = p;
          function = own;
          position = refl;
          node = j;
          named = named;
          labels = ws;
          stands = stands_kept g.kept stands;
          trace = a;
          ending = e;
          visits = v;
          shows = shows_map (λ k w ws s. s.stands) s;
        }) in
        record {
          went = record { steps = g.steps; cells = omega (arith, g.cells, value_length (suc c) i u q.store); kept = kept_then g.kept k; order = o };
          shows = shows_map (λ z w ws s. record { stands = stands_kept k s.stands; order = o }) s;
        }

    pub arrives_remembered : {r : Reached ℕ (List Cell)} → Arrives cell_reads n (state_of left m) a e r
        → Arrives cell_reads n (state_of left m) a e (remembered keeping (suc c) (position_of t p) r)
    unfolding remembered
    arrives_remembered {r} f = kept_arrives r.ending r.state f.went f.shows
