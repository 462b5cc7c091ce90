-- In a run of a translated sheet each formal of each cell has its actual visited at most once, however the run ends: the actual is
-- visited under a context that does not lead to the cell, so not again before it has a value, and after that the value is used. This is
-- shown of the rule over cells by serial number, which visits the actuals that a run does.
use mathlib.Core.Path.{◌≡◌, refl, sym, ◌∙◌}
use Prim.Native.Nat.{ℕ, suc, ◌*◌, ◌≤◌, ◌<◌}
use mathlib.Core.List.{List, append-nil}
use mathlib.Core.Option.{none, some}
use mathlib.Core.Bool.{true, true≢false}
use native.Mathlib.Omega.{arith}
use lib.IntN.{ℤ}
use lib.ListN.{length, get_elem?}
use Rattle.definitions.specs.Sizes.{most_fields}
use Rattle.definitions.specs.Layouts.{body_of}
use Rattle.definitions.specs.Trees.{equal_trees}
use Rattle.definitions.specs.Labels.{Labelling}
use Rattle.definitions.specs.Translate.{translation}
use Rattle.definitions.specs.FormalPlaces.{position_of}
use Rattle.definitions.specs.Checks.{sheet_verdict}
use Rattle.definitions.specs.Rule.{Value, Ending, value, integer, constructor, State, Reached, reach, visited}
use Rattle.definitions.specs.Cells.{Cell, new_cell, entry_at, with_value, remembered}
use Rattle.definitions.specs.declared.Layout.TheVariants.{Translation}
use Rattle.definitions.specs.Verdict.{Accepted}
use Rattle.laws.proofs.Cells.{added_length}
use Rattle.accepted.proofs.Elements.{element_below}
use Rattle.rule_laws.specs.Reads.{is_value}
use Rattle.rule_laws.specs.Keeps.{Keeps, Proper, an_integer, a_constructor, an_end, Kept, Keeping}
use Rattle.given_back.specs.SerialCells.{SerialCells, no_serial_cells, listing_serial, keeping_serial, with_serial_cell, by_serials, serial_evaluation}
use Rattle.given_back.specs.ListedVisits.{actual_visits, cells_made}
use Rattle.given_back.proofs.Evaluations.{listed_serial}
use Rattle.shared_runs.specs.Reads.{Reads}
use Rattle.shared_runs.proofs.Shared.{equal_shares, translation_reads}
use Rattle.actual_visits.specs.Distinct.{Distinct}
use Rattle.actual_visits.proofs.SerialsKept.{valued, Asks, SerialsKept, serials_keep}
use Rattle.actual_visits.proofs.Noted.{noted_went}
use Rattle.actual_visits.proofs.Avoiding.{avoiding, value_apart, visit_avoids}
use Rattle.actual_visits.proofs.Placed.{placed_mentioned, placed_tuple, placed_field, formal_own, formal_position_below, actual_placed, body_placed, start_placed, BuiltPlaced}
use Rattle.actual_visits.proofs.Filled.{filled_there}
use Rattle.actual_visits.proofs.DistinctLists.{eightfold}
use Rattle.actual_visits.proofs.Once.{Good, good_none, Goes, goes_here, called_goes, value_goes, Went, went_unlisted, went_onward, went_with, AtNode, BuiltAt, at_onward, built_onward}

module _ {same : Labelling} {b t : List ℕ} (accepted : sheet_verdict b ≡ Accepted) (reads : Reads same b t) (rs : List ℤ) where
  abbrev once : Keeps t rs ℕ SerialCells
  once =
      record {
        Becomes = Went same b;
        stays = λ m. went_unlisted same b (goes_here same b m.cells) refl;
        onward = λ f g. went_onward same b f g;
        At = λ m. AtNode same b m.cells;
        at_onward = λ f a. at_onward same b f.goes a;
        at_mentioned = λ e g a. record { good = a.good; cell = a.cell; placed = placed_mentioned accepted reads e g a.placed };
        Built = λ m. BuiltAt same b m.cells;
        built_tuple = λ e a. record { good = a.good; cell = a.cell; built = placed_tuple accepted reads e a.placed };
        built_field_law = λ i e a. record { good = a.good; cell = a.cell; placed = placed_field accepted reads i e a.built };
        Number = λ z. Unit {0};
        number_literal = λ e a. tt;
        number_reading = λ i. tt;
        number_tag = λ a. tt;
        number_computed = λ o p q e. tt;
        MayEnd = λ n. Unit {0};
        stop_ends = λ n e. tt;
        fault_ends = λ n e. tt;
      }

  -- a value that comes out may be remembered
  value_built : {m : SerialCells} {v : Value ℕ} → Proper once m (value v) → (k u : ℕ) → v ≡ constructor k u → BuiltPlaced same b m.cells k u × (u ≤ length m.cells)
  value_built (an_integer n) k u e = absurd (let z : ◌≡◌ {A = ℕ} 0 1 = cc in omega arith)
  value_built (a_constructor {k} {c} a) j u e = let p : k ≡ j = cc in let q : c ≡ u = cc in rw (← p, ← q) (a.built, a.cell)

  recalled_built : {m : SerialCells} {k d : ℕ} {x : Cell} (i : ℕ) (v : Value ℕ) → AtNode same b m.cells k (suc d) → get_elem? m.cells d ≡ some x → entry_at x i ≡ some v
      → Proper once m (value v)
  recalled_built i (integer z) a e q = an_integer tt
  recalled_built {d} {x} i (constructor k u) a e q =
      a_constructor (record { good = a.good; cell = a.good.contained.remembered d x e i k u q; built = a.good.built d x e i k u q })

  module _ (cells_allowed : ℕ) where
    -- a formal whose own cell does not remember it: the context that its actual is visited under does not lead to that cell
    own_once : (n : ℕ) → Keeping once (visited (by_serials t cells_allowed) t rs n) → {k p d j : ℕ} {x : Cell} (s : State SerialCells)
        → Asks once cells_allowed s.store k p d j x → entry_at x (position_of t p) ≡ none
        → Kept once s (remembered keeping_serial (suc d) (position_of t p) (visited (by_serials t cells_allowed) t rs n j x.previous (listing_serial (suc d) (position_of t p) s)))
    unfolding remembered keeping_serial reach listing_serial
    own_once n ih {k} {p} {d} {j} {x} s a empty = by g.proper g.becomes h.proper
      where
        i : ℕ
        i = position_of t p

        good : Good same b s.store.cells
        good = a.at.good

        previous : x.previous ≤ length s.store.cells
        previous = good.contained.previous d x a.there

        r : Reached ℕ SerialCells
        r = visited (by_serials t cells_allowed) t rs n j x.previous (listing_serial (suc d) i s)

        g : Kept once (listing_serial (suc d) i s) r
        g = ih.keeps j x.previous (listing_serial (suc d) i s) (record { good = good; cell = previous; placed = actual_placed accepted reads a.is a.at.placed a.there a.named })

        h : Kept (avoiding (suc d) t rs) (listing_serial (suc d) i s) r
        h =
            (visit_avoids (suc d) t rs cells_allowed n).keeps j x.previous (listing_serial (suc d) i s)
            (record { contained = good.contained; cell = previous; made = element_below s.store.cells d a.there; apart = good.acyclic.apart d x a.there })

        small : i < most_fields
        small = formal_position_below accepted reads a.is a.at.placed

        valued_goes : (v : Value ℕ) → Proper once r.state.store (value v) → Went same b true (listing_serial (suc d) i s).store r.state.store
            → Proper (avoiding (suc d) t rs) r.state.store (value v)
            → Goes same b r.state.store.cells (with_value (suc d) i v r.state.store.cells)
        valued_goes v o w u = value_goes same b d i v small (w.goes.good good).full (value_apart (suc d) t rs u) (value_built o)

        valued_went : (v : Value ℕ) → Proper once r.state.store (value v) → Went same b true (listing_serial (suc d) i s).store r.state.store
            → Proper (avoiding (suc d) t rs) r.state.store (value v)
            → Went same b true s.store (valued d i v r.state.store)
        valued_went v o w u =
            let c = w.goes.kept.same d x a.there in
            noted_went accepted reads k p d x s a.is a.at a.there empty (valued d i v r.state.store) w h.becomes (valued_goes v o w u) refl
            (λ y. filled_there (w.goes.good good).full d i v small c.cell c.there)

        by : {e : Ending ℕ} → Proper once r.state.store e → Went same b (is_value e) (listing_serial (suc d) i s).store r.state.store
            → Proper (avoiding (suc d) t rs) r.state.store e
            → Kept once s (remembered keeping_serial (suc d) i (reach e r.state))
        by (an_integer {z} o) w u = record { falls = g.falls; becomes = valued_went (integer z) (an_integer o) w u; proper = an_integer tt }
        by (a_constructor {k = m} {c} o) w u =
            record {
              falls = g.falls;
              becomes = valued_went (constructor m c) (a_constructor o) w u;
              proper = a_constructor (built_onward same b (valued_goes (constructor m c) (a_constructor o) w u) o);
            }
        by (an_end o) w u =
            record {
              falls = g.falls;
              becomes = noted_went accepted reads k p d x s a.is a.at a.there empty r.state.store w h.becomes
                  (goes_here same b r.state.store.cells) refl (λ e. absurd (true≢false (sym e)));
              proper = an_end tt;
            }

    once_kept : SerialsKept once cells_allowed
    unfolding with_serial_cell
    once_kept =
        record {
          recalled_proper = λ {v = v} i a e q. recalled_built i v a e q;
          own_kept = λ n ih s a own q. own_once n ih s a q;
          foreign_kept = λ n ih s a other. absurd (other (formal_own accepted reads a.is a.at.placed a.there));
          grows = λ {l = l} {f = f} {w = w} s e a. went_unlisted same b (called_goes same b l w f s.store.cells a.cell) refl;
          body_at = λ {k} {l} {f} {w} s e a.
              let g = called_goes same b l w f s.store.cells a.cell in
              record { good = g.good a.good; cell = omega (arith, added_length s.store.cells (new_cell l w f)); placed = body_placed accepted reads e a.placed };
          becomes_with = λ x f. went_with same b x f;
          built_with = λ x a. a;
        }

    -- the whole evaluation
    evaluation_went : (steps nesting : ℕ)
        → Kept once (record { left = steps; store = no_serial_cells }) (serial_evaluation t rs steps nesting cells_allowed)
    unfolding serial_evaluation
    evaluation_went steps nesting =
        (serials_keep once cells_allowed once_kept nesting).keeps (body_of Translation t 0) 0 (record { left = steps; store = no_serial_cells })
        (record { good = good_none same b; cell = omega arith; placed = start_placed accepted reads })

-- the bytes that the translator writes for an accepted sheet, at any allowances
module _ (b : List ℕ) (accepted : sheet_verdict b ≡ Accepted) (rs : List ℤ) (steps nesting cells_allowed : ℕ) where
  abbrev end : Reached ℕ SerialCells
  end = serial_evaluation (translation b) rs steps nesting cells_allowed

  went : Went (equal_trees b) b (is_value end.ending) no_serial_cells end.state.store
  unfolding translation
  went = (evaluation_went accepted (translation_reads (equal_trees b) b accepted (equal_shares b)) rs cells_allowed steps nesting).becomes

  -- the visits of a run are those of the rule over cells by serial number
  visits_are : actual_visits (translation b) rs steps nesting cells_allowed ≡ went.new
  visits_are = (listed_serial (translation b) rs steps nesting cells_allowed).visits ∙ went.listed ∙ append-nil went.new

  pub visits_distinct : Distinct (actual_visits (translation b) rs steps nesting cells_allowed)
  visits_distinct = rw visits_are went.distinct

  pub visits_eightfold : length (actual_visits (translation b) rs steps nesting cells_allowed) ≤ cells_made (translation b) rs steps nesting cells_allowed * most_fields
  visits_eightfold =
      rw (visits_are, (listed_serial (translation b) rs steps nesting cells_allowed).made)
      (eightfold (length end.state.store.cells) went.new went.distinct went.inside)
