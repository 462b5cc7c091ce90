-- What the two rules do to states that are joined leaves them joined: a visit to an actual is listed, a value is remembered, and a call
-- opens.
use mathlib.Core.Path.{◌≡◌, refl, sym, ap, ◌∙◌}
use Prim.Native.Nat.{ℕ, suc, ◌<◌, max}
use mathlib.Core.List.{[], ◌∷◌, ◌++◌}
use mathlib.Core.Option.{Option, some}
use native.Mathlib.Omega.{arith}
use lib.IntN.{ℤ}
use lib.ListN.{length}
use Rattle.definitions.specs.Rule.{Value, integer, constructor}
use Rattle.definitions.specs.Cells.{Cell, new_cell, with_value}
use Rattle.definitions.specs.LiveCells.{older, written}
use Rattle.laws.proofs.Cells.{added_length, value_length}
use Rattle.laws.proofs.Written.{written_length}
use Rattle.given_back.specs.SerialCells.{SerialCells}
use Rattle.given_back.specs.ListedVisits.{Listed, serial_of}
use Rattle.given_back.proofs.Names.{Named, Grows, grows_all, named_last, named_least}
use Rattle.given_back.proofs.CellsAt.{entry_of, value_other, number_kept}
use Rattle.given_back.proofs.Twins.{Recalls, a_number, a_constructor, alive_made, alive_valued}
use Rattle.given_back.proofs.Worlds.{Joined, grows_written, serial_named, World, Leads}

-- a visit to an actual is listed
module _ (w : World) (i : ℕ) {c d : ℕ} (n : Named w.names c d) where
  abbrev pub here_listed : Listed
  here_listed =
      let m = w.here in
      record { store = m.store; serials = m.serials; made = m.made; visits = record { serial = serial_of m.serials c; position = i } ∷ m.visits }

  abbrev pub there_listed : SerialCells
  there_listed = let q = w.there in record { cells = q.cells; account = q.account; visits = record { serial = d; position = i } ∷ q.visits }

  pub listed_joined : Joined w.names here_listed there_listed
  listed_joined =
      let j = w.joined in
      let e : serial_of w.here.serials c ≡ d = serial_named w.here.serials c d (j.serials.on c d n) in
      record {
        alive = j.alive;
        live = j.live;
        most = j.most;
        oldest = j.oldest;
        made = j.made;
        few = j.few;
        visits = rw (e, j.visits) refl;
        numbered = j.numbered;
        serials = j.serials;
      }

  abbrev pub listed_world : World
  listed_world = record { left = w.left; here = here_listed; there = there_listed; names = w.names; joined = listed_joined }

  pub listed_leads : Leads w listed_world
  listed_leads = record { names = grows_all w.names; more = omega arith; older = omega arith; held = λ c i k x h g e. e }

-- a value is remembered
module _ (w : World) (i : ℕ) {c d : ℕ} (n : Named w.names c d) (inside : 0 < c) where
  module _ (x y : Value ℕ) (r : Recalls w.names (some x) (some y))
      (oldest : Named w.names (older x c w.here.store.oldest) (older y d w.there.account.oldest)) where
    abbrev pub here_valued : Listed
    here_valued =
        let m = w.here in
        let s = m.store in
        record { store = record { cells = with_value c i x s.cells; live = s.live; oldest = older x c s.oldest }; serials = m.serials; made = m.made; visits = m.visits }

    abbrev pub there_valued : SerialCells
    there_valued =
        let q = w.there in
        let a = q.account in
        record { cells = with_value d i y q.cells; account = record { live = a.live; most = a.most; oldest = older y d a.oldest }; visits = q.visits }

    pub valued_joined : Joined w.names here_valued there_valued
    valued_joined =
        let j = w.joined in
        record {
          alive = alive_valued j.alive c d i x y inside n r;
          live = j.live;
          most = value_length c i x w.here.store.cells ∙ j.most;
          oldest = oldest;
          made = j.made ∙ sym (value_length d i y w.there.cells);
          few = omega (arith, j.few, value_length c i x w.here.store.cells);
          visits = j.visits;
          numbered = j.numbered;
          serials = j.serials;
        }

    abbrev pub valued : World
    valued = record { left = w.left; here = here_valued; there = there_valued; names = w.names; joined = valued_joined }

  pub number_oldest : (z : ℤ) → Named w.names (older (integer z) c w.here.store.oldest) (older (integer z) d w.there.account.oldest)
  unfolding older
  number_oldest z = w.joined.oldest

  pub constructor_oldest : (k a b : ℕ) → Named w.names (older (constructor k a) c w.here.store.oldest) (older (constructor k b) d w.there.account.oldest)
  unfolding older
  constructor_oldest k a b = named_least w.joined.alive.rising w.joined.oldest n

  abbrev pub with_number : ℤ → World
  with_number z = valued (integer z) (integer z) a_number (number_oldest z)

  abbrev pub with_constructor : (k a b : ℕ) → Named w.names a b → World
  with_constructor k a b m = valued (constructor k a) (constructor k b) (a_constructor m) (constructor_oldest k a b)

  pub number_leads : (z : ℤ) → Leads w (with_number z)
  unfolding older
  number_leads z =
      record {
        names = grows_all w.names;
        more = omega arith;
        older = omega arith;
        held = λ e j k x h g q. number_kept w.here.store.cells c i e j k x z q;
      }

  pub constructor_leads : (k a b : ℕ) (m : Named w.names a b) → Leads w (with_constructor k a b m)
  unfolding older
  constructor_leads k a b m =
      record {
        names = grows_all w.names;
        more = omega arith;
        older = omega arith;
        held = λ e j h x p q r. ap (λ (o : Option Cell). entry_of o j) (sym (value_other w.here.store.cells c i e (constructor k a) (λ z. omega arith))) ∙ r;
      }

-- a call opens
module _ (w : World) (l f : ℕ) {c d : ℕ} (n : Named w.names c d) where
  abbrev pub here_opened : Listed
  here_opened =
      let m = w.here in
      let s = m.store in
      record {
        store = record { cells = written s.cells s.live (new_cell l c f); live = suc s.live; oldest = suc s.live };
        serials = written m.serials s.live (suc m.made);
        made = suc m.made;
        visits = m.visits;
      }

  abbrev pub there_opened : SerialCells
  there_opened =
      let q = w.there in
      let a = q.account in
      record {
        cells = q.cells ++ (new_cell l d f ∷ []);
        account = record { live = suc a.live; most = max a.most (suc a.live); oldest = suc (length q.cells) };
        visits = q.visits;
      }

  -- the new cell's context has the next serial number
  pub own_named : Named (w.names ++ (suc (length w.there.cells) ∷ [])) (suc w.here.store.live) (suc (length w.there.cells))
  own_named = rw (← w.joined.alive.count) (named_last w.names (suc (length w.there.cells)))

  serials_written : Grows (w.names ++ (suc (length w.there.cells) ∷ [])) (0 ∷ written w.here.serials w.here.store.live (suc w.here.made))
  unfolding written
  serials_written =
      let j = w.joined in
      rw (← j.made) (rw j.alive.count at (grows_written (suc w.here.made) j.serials (omega (arith, j.alive.count, j.numbered))))

  pub opened_joined : Joined (w.names ++ (suc (length w.there.cells) ∷ [])) here_opened there_opened
  opened_joined =
      let j = w.joined in
      record {
        alive = alive_made j.alive l f n;
        live = ap suc j.live;
        most = omega (arith, written_length w.here.store.cells w.here.store.live (new_cell l c f) j.alive.fits, j.most, j.live);
        oldest = own_named;
        made = omega (arith, j.made, added_length w.there.cells (new_cell l d f));
        few = omega (arith, j.few, j.alive.fits, written_length w.here.store.cells w.here.store.live (new_cell l c f) j.alive.fits);
        visits = j.visits;
        numbered = omega (arith, written_length w.here.serials w.here.store.live (suc w.here.made) j.numbered);
        serials = serials_written;
      }

  abbrev pub opened_world : World
  opened_world =
      record { left = w.left; here = here_opened; there = there_opened; names = w.names ++ (suc (length w.there.cells) ∷ []); joined = opened_joined }
