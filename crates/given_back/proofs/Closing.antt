-- A call closes in the run that gives cells back and in the rule over serial numbers: both test alike whether its cells are given back, and
-- where they are, nothing that stays alive refers to them.
use mathlib.Core.Path.{◌≡◌, refl, sym, ap, ◌∙◌}
use Prim.Native.Nat.{ℕ, suc, ◌≤◌, ◌<◌, min}
use mathlib.Core.Option.{Option, some}
use mathlib.Core.Bool.{Bool, true, false, cond}
use native.Mathlib.Omega.{arith}
use lib.IntN.{ℤ}
use lib.ListN.{length}
use lib.Dec.{leb}
use borrow.Author.Tests.{leb-true}
use Rattle.definitions.specs.Rule.{integer, constructor, Ending, value, Reached, reach}
use Rattle.definitions.specs.Cells.{Cell, new_cell, cell_of}
use Rattle.definitions.specs.LiveCells.{live_after, closing}
use Rattle.rule_laws.specs.SideBySide.{AlikeEnds, integers, constructors, ends, Both, cut, arrive}
use Rattle.rule_laws.proofs.Lockstep.{both_back, both_here}
use Rattle.given_back.specs.SerialCells.{SerialCells, closing_account, closed_serial}
use Rattle.given_back.specs.ListedVisits.{Listed, closed_listed}
use Rattle.given_back.proofs.Names.{Named, named_below, Grows, grows_all, grows_then, grows_added, named_back, names_compare, named_least}
use Rattle.given_back.proofs.CellsAt.{written_older, entry_of}
use Rattle.given_back.proofs.Twins.{alive_given}
use Rattle.given_back.proofs.Worlds.{Joined, World, here_of, there_of, Leads, sides}
use Rattle.given_back.proofs.Transitions.{own_named, opened_world}

-- v comes after the visit of the body of a call that was made in w
module _ (w : World) (l f : ℕ) {c d : ℕ} (n : Named w.names c d) (v : World) (u : Leads (opened_world w l f n) v) where
  abbrev before : ℕ
  before = w.here.store.live

  names_stay : Grows w.names v.names
  names_stay = grows_then (grows_added w.names (suc (length w.there.cells))) u.names

  -- a constructor that a cell made before the call remembers was there before the call, where that cell is older than the oldest
  constructor_kept : (e i k x : ℕ) → e < v.here.store.oldest → e ≤ before
      → entry_of (cell_of v.here.store.cells e) i ≡ some (constructor k x) → entry_of (cell_of w.here.store.cells e) i ≡ some (constructor k x)
  constructor_kept e i k x h g q =
      ap (λ (o : Option Cell). entry_of o i) (sym (written_older w.here.store.cells before e (new_cell l c f) w.joined.alive.fits g))
      ∙ u.held e i k x h (omega arith) q

  -- what is kept then, with so many alive
  abbrev here_closed : ℕ → Listed
  here_closed live =
      let m = v.here in
      record {
        store = record { cells = m.store.cells; live = live; oldest = min w.here.store.oldest m.store.oldest };
        serials = m.serials;
        made = m.made;
        visits = m.visits;
      }

  abbrev there_closed : ℕ → SerialCells
  there_closed live =
      let q = v.there in
      record {
        cells = q.cells;
        account = record { live = live; most = q.account.most; oldest = min w.there.account.oldest q.account.oldest };
        visits = q.visits;
      }

  oldest_named : Named v.names (min w.here.store.oldest v.here.store.oldest) (min w.there.account.oldest v.there.account.oldest)
  oldest_named = named_least v.joined.alive.rising (names_stay.on _ _ w.joined.oldest) v.joined.oldest

  -- all stay alive
  kept_joined : Joined v.names (here_closed v.here.store.live) (there_closed v.there.account.live)
  kept_joined =
      let j = v.joined in
      record {
        alive = j.alive;
        live = j.live;
        most = j.most;
        oldest = oldest_named;
        made = j.made;
        few = j.few;
        visits = j.visits;
        numbered = j.numbered;
        serials = j.serials;
      }

  abbrev kept_world : World
  kept_world =
      record { left = v.left; here = here_closed v.here.store.live; there = there_closed v.there.account.live; names = v.names; joined = kept_joined }

  kept_leads : Leads w kept_world
  kept_leads =
      record { names = names_stay; more = omega (arith, u.more); older = omega arith; held = λ e i k x h g q. constructor_kept e i k x (omega arith) g q }

  -- the call's cells are given back
  module _ (h : before < v.here.store.oldest) where
    given_joined : Joined w.names (here_closed before) (there_closed w.there.account.live)
    given_joined =
        let j = v.joined in
        record {
          alive = alive_given w.joined.alive j.alive names_stay (omega (arith, u.more)) (λ e i k x g q. constructor_kept e i k x (omega arith) g q);
          live = w.joined.live;
          most = j.most;
          oldest = named_back names_stay (omega (arith, named_below w.joined.oldest)) oldest_named;
          made = j.made;
          few = j.few;
          visits = j.visits;
          numbered = omega (arith, j.numbered, u.more);
          serials = grows_then names_stay j.serials;
        }

    abbrev given_world : World
    given_world =
        record { left = v.left; here = here_closed before; there = there_closed w.there.account.live; names = w.names; joined = given_joined }

    given_leads : Leads w given_world
    given_leads =
        record {
          names = grows_all w.names;
          more = omega arith;
          older = omega arith;
          held = λ e i k x p g q. constructor_kept e i k x (omega arith) g q;
        }

  number_closed : (z : ℤ) (b : Bool) → leb (suc before) v.here.store.oldest ≡ b
      → Both sides w (reach (value (integer z)) (record { left = v.left; store = here_closed (cond b before v.here.store.live) }))
      (reach (value (integer z)) (record { left = v.left; store = there_closed (cond b w.there.account.live v.there.account.live) }))
  number_closed z true e = let h = leb-true (suc before) v.here.store.oldest e in both_back sides (given_leads h) (both_here sides (given_world h) integers)
  number_closed z false e = both_back sides kept_leads (both_here sides kept_world integers)

  -- the own cell of the call and the oldest compare as their serial numbers do
  tests_alike : leb (suc before) v.here.store.oldest ≡ leb (suc (length w.there.cells)) v.there.account.oldest
  tests_alike = names_compare v.joined.alive.rising (u.names.on _ _ (own_named w l f n)) v.joined.oldest

  ends_closed : {x y : Ending ℕ} → AlikeEnds sides v x y
      → Both sides w (closed_listed w.here.store (record { ending = x; state = here_of v })) (closed_serial w.there (record { ending = y; state = there_of v }))
  unfolding closed_listed closing closed_serial closing_account live_after
  ends_closed (integers {z}) = rw (← tests_alike) (number_closed z (leb (suc before) v.here.store.oldest) refl)
  ends_closed (constructors s) = both_back sides kept_leads (both_here sides kept_world (constructors s))
  ends_closed ends = both_back sides kept_leads (both_here sides kept_world ends)

pub closed_both : (w : World) (l f : ℕ) {c d : ℕ} (n : Named w.names c d) {r : Reached ℕ Listed} {q : Reached ℕ SerialCells}
    → Both sides (opened_world w l f n) r q → Both sides w (closed_listed w.here.store r) (closed_serial w.there q)
closed_both w l f n (cut h) = absurd h
closed_both w l f n (arrive v u e) = ends_closed w l f n v u e
