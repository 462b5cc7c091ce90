-- A visit under a context that does not lead to a cell lists no visit for that cell, and what comes out does not lead to it either: of
-- any translation file, stopped or not.
use mathlib.Core.Path.{◌≡◌, refl, sym, ap, ◌∙◌}
use mathlib.Core.Logic.{⊎_elim}
use Prim.Native.Nat.{ℕ, suc, ◌≤◌}
use mathlib.Core.List.Memᴰ
use mathlib.Core.List.{List, [], ◌∷◌, ◌++◌, append_assoc, Memᴰ}
use mathlib.Core.Option.{some}
use native.Mathlib.Omega.{arith}
use native.Mathlib.Nat.{le_refl, le_trans}
use lib.IntN.{ℤ}
use lib.ListN.{length, get_elem?}
use Rattle.definitions.specs.FormalPlaces.{position_of}
use Rattle.definitions.specs.Rule.{Value, Ending, value, integer, constructor, State, Reached, reach, visited}
use Rattle.definitions.specs.Cells.{Cell, new_cell, entry_at, remembered}
use Rattle.laws.proofs.Cells.{added_length, value_length}
use Rattle.rule_laws.specs.Keeps.{Keeps, Proper, an_integer, a_constructor, an_end, Kept, Keeping}
use Rattle.rule_laws.proofs.Keeps.{kept_ended, kept_onward}
use Rattle.given_back.specs.SerialCells.{ActualVisit, Account, SerialCells, listing_serial, keeping_serial, with_serial_cell, by_serials}
use Rattle.actual_visits.proofs.Leads.{Leads, here, back, through, ValueLeads, from, Contained, leads_added, leads_new, leads_value, contained_added, contained_value}
use Rattle.actual_visits.proofs.SerialsKept.{valued, with_account, SerialsKept, serials_keep}
use Rattle.actual_visits.proofs.DistinctLists.{each_append, each_one}

module _ (c : ℕ) where
  -- context w does not lead to cell c
  pub record Apart (cs : List Cell) (w : ℕ) : Type 0 where
    pub contained : Contained cs
    pub cell : w ≤ length cs
    pub made : c ≤ length cs
    pub apart : ¬ (Leads cs c w)

  -- what did not lead to cell c does not, and no visit is listed for it
  pub record Avoids (m n : SerialCells) : Type 0 where
    pub grown : length m.cells ≤ length n.cells
    pub contained : Contained m.cells → Contained n.cells
    pub apart : (w : ℕ) → w ≤ length m.cells → ¬ (Leads m.cells c w) → ¬ (Leads n.cells c w)
    pub new : List ActualVisit
    pub listed : n.visits ≡ new ++ m.visits
    pub others : (z : ActualVisit) → Memᴰ z new → ¬ (z.serial ≡ c)

  pub stays : (m : SerialCells) → Avoids m m
  stays m =
      record { grown = le_refl (length m.cells); contained = λ o. o; apart = λ w h n. n; new = []; listed = refl; others = λ z i. absurd (Memᴰ.not-nil i) }

  pub onward : {m n q : SerialCells} → Avoids m n → Avoids n q → Avoids m q
  onward {m} f g =
      record {
        grown = le_trans f.grown g.grown;
        contained = λ o. g.contained (f.contained o);
        apart = λ w h n. g.apart w (le_trans h f.grown) (f.apart w h n);
        new = g.new ++ f.new;
        listed = g.listed ∙ ap (λ zs. g.new ++ zs) f.listed ∙ sym (append_assoc g.new f.new m.visits);
        others = each_append (λ (z : ActualVisit). ¬ (z.serial ≡ c)) g.new g.others f.others;
      }

  pub apart_onward : {m n : SerialCells} {w : ℕ} → Avoids m n → Apart m.cells w → Apart n.cells w
  apart_onward {w} f a =
      record { contained = f.contained a.contained; cell = le_trans a.cell f.grown; made = le_trans a.made f.grown; apart = f.apart w a.cell a.apart }

  -- whatever the account
  avoids_with : {m n : SerialCells} (a : Account) → Avoids m n → Avoids m (with_account a n)
  avoids_with a f = record { grown = f.grown; contained = f.contained; apart = f.apart; new = f.new; listed = f.listed; others = f.others }

  module _ (b : List ℕ) (rs : List ℤ) where
    abbrev pub avoiding : Keeps b rs ℕ SerialCells
    avoiding =
        record {
          Becomes = λ x. Avoids;
          stays = stays;
          onward = onward;
          At = λ m k w. Apart m.cells w;
          at_onward = λ f a. apart_onward f a;
          at_mentioned = λ e g a. a;
          Built = λ m k w. Apart m.cells w;
          built_tuple = λ e a. a;
          built_field_law = λ i e a. a;
          Number = λ z. Unit {0};
          number_literal = λ e a. tt;
          number_reading = λ i. tt;
          number_tag = λ a. tt;
          number_computed = λ o p q e. tt;
          MayEnd = λ n. Unit {0};
          stop_ends = λ n e. tt;
          fault_ends = λ n e. tt;
        }

    -- a value that comes out
    pub value_apart : {m : SerialCells} {v : Value ℕ} → Proper avoiding m (value v) → ¬ (ValueLeads m.cells c v)
    value_apart (a_constructor a) (from l) = a.apart l
    value_apart {m = m} (an_integer {z = z} _) x6 = elim x6 [ ]

    value_within : {m : SerialCells} {v : Value ℕ} → Proper avoiding m (value v) → (k u : ℕ) → v ≡ constructor k u → u ≤ length m.cells
    value_within (an_integer n) k u e = absurd (let z : ◌≡◌ {A = ℕ} 0 1 = cc in omega arith)
    value_within {m} (a_constructor {c = w} a) k u e = let z : w ≡ u = cc in rw z at a.cell

    -- and is remembered in some cell
    valued_avoids : (d i : ℕ) {m : SerialCells} {v : Value ℕ} → Proper avoiding m (value v) → Avoids m (valued d i v m)
    valued_avoids d i {m} {v} p =
        record {
          grown = omega (arith, value_length (suc d) i v m.cells);
          contained = λ o. contained_value o d i v (value_within p);
          apart = λ w h n l. ⊎_elim n (λ g. value_apart p g.1) (leads_value m.cells d i v l);
          new = [];
          listed = refl;
          others = λ z i. absurd (Memᴰ.not-nil i);
        }

    remembered_avoids : (d i : ℕ) {s : State SerialCells} {r : Reached ℕ SerialCells} → Kept avoiding s r → Kept avoiding s (remembered keeping_serial (suc d) i r)
    unfolding remembered keeping_serial reach
    remembered_avoids d i {s} {r} g = by g.proper g.becomes
      where
        by : {e : Ending ℕ} → Proper avoiding r.state.store e → Avoids s.store r.state.store → Kept avoiding s (remembered keeping_serial (suc d) i (reach e r.state))
        by (an_integer n) f = record { falls = g.falls; becomes = onward f (valued_avoids d i (an_integer n)); proper = an_integer tt }
        by (a_constructor a) f =
            let o = valued_avoids d i (a_constructor a) in
            record { falls = g.falls; becomes = onward f o; proper = a_constructor (apart_onward o a) }
        by (an_end n) f = kept_ended avoiding g.falls f n

    -- a visit to an actual is listed for another cell
    listing_avoids : (d i : ℕ) (s : State SerialCells) → Apart s.store.cells (suc d) → Avoids s.store (listing_serial (suc d) i s).store
    unfolding listing_serial
    listing_avoids d i s a =
        record {
          grown = le_refl (length s.store.cells);
          contained = λ o. o;
          apart = λ w h n. n;
          new = record { serial = suc d; position = i } ∷ [];
          listed = refl;
          others = each_one (λ (z : ActualVisit). ¬ (z.serial ≡ c)) (λ e. a.apart (rw e here));
        }

    previous_apart : {cs : List Cell} {d : ℕ} {x : Cell} → Apart cs (suc d) → get_elem? cs d ≡ some x → Apart cs x.previous
    previous_apart {d} {x} a e =
        record { contained = a.contained; cell = a.contained.previous d x e; made = a.made; apart = λ l. a.apart (back e refl l) }

    recalled_apart : {m : SerialCells} {d : ℕ} {x : Cell} (i : ℕ) (v : Value ℕ) → Apart m.cells (suc d) → get_elem? m.cells d ≡ some x → entry_at x i ≡ some v
        → Proper avoiding m (value v)
    recalled_apart i (integer z) a e q = an_integer tt
    recalled_apart {d} {x} i (constructor k u) a e q =
        a_constructor (record { contained = a.contained; cell = a.contained.remembered d x e i k u q; made = a.made; apart = λ l. a.apart (through i e q l) })

    -- a cell more
    called_avoids : (label w f : ℕ) (s : State SerialCells) → Apart s.store.cells w → Avoids s.store (with_serial_cell label w f s).store
    unfolding with_serial_cell
    called_avoids label w f s a =
        record {
          grown = omega (arith, added_length s.store.cells (new_cell label w f));
          contained = λ o. contained_added o label w f a.cell;
          apart = λ v h n l. n (leads_added a.contained (new_cell label w f) l h);
          new = [];
          listed = refl;
          others = λ z i. absurd (Memᴰ.not-nil i);
        }

    body_apart : (label w f : ℕ) (s : State SerialCells) → Apart s.store.cells w → Apart (with_serial_cell label w f s).store.cells (suc (length s.store.cells))
    unfolding with_serial_cell
    body_apart label w f s a =
        let more = added_length s.store.cells (new_cell label w f) in
        record {
          contained = contained_added a.contained label w f a.cell;
          cell = omega (arith, more);
          made = omega (arith, more, a.made);
          apart = λ l. ⊎_elim (λ e. omega (arith, e, a.made)) a.apart (leads_new a.contained label w f a.cell l refl);
        }

    module _ (cells_allowed : ℕ) where
      -- a formal's actual
      actual_avoids : (n : ℕ) → Keeping avoiding (visited (by_serials b cells_allowed) b rs n) → {d : ℕ} {x : Cell} (i j : ℕ) (s : State SerialCells)
          → Apart s.store.cells (suc d) → get_elem? s.store.cells d ≡ some x
          → Kept avoiding s (visited (by_serials b cells_allowed) b rs n j x.previous (listing_serial (suc d) i s))
      unfolding listing_serial
      actual_avoids n ih {d} {x} i j s a e =
          let o = listing_avoids d i s a in
          kept_onward avoiding (le_refl s.left) o (ih.keeps j x.previous (listing_serial (suc d) i s) (apart_onward o (previous_apart a e)))

      avoiding_kept : SerialsKept avoiding cells_allowed
      avoiding_kept =
          record {
            recalled_proper = λ {v = v} i a e q. recalled_apart i v a e q;
            own_kept = λ n ih {p = p} {c = d} {j = j} s a own q. remembered_avoids d (position_of b p) (actual_avoids n ih (position_of b p) j s a.at a.there);
            foreign_kept = λ n ih {p = p} {j = j} s a other. actual_avoids n ih (position_of b p) j s a.at a.there;
            grows = λ {l = l} {f = f} {w = w} s e a. called_avoids l w f s a;
            body_at = λ {l = l} {f = f} {w = w} s e a. body_apart l w f s a;
            becomes_with = λ x f. avoids_with x f;
            built_with = λ x a. a;
          }

      pub visit_avoids : (n : ℕ) → Keeping avoiding (visited (by_serials b cells_allowed) b rs n)
      visit_avoids = serials_keep avoiding cells_allowed avoiding_kept
