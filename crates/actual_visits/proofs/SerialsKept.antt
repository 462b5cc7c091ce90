-- What the rule over cells by serial number keeps: a visit to an actual, a new cell and the end of a call are the places where its store
-- changes.
use mathlib.Core.Path.{◌≡◌, refl}
use Prim.Native.Nat.{ℕ, zero, suc}
use mathlib.Core.List.{List}
use mathlib.Core.Option.{Option, none, some, none-ne-some}
use mathlib.Core.Bool.{Bool, true, false}
use native.Mathlib.Nat.{le_refl}
use lib.IntN.{ℤ}
use lib.ListN.{length, get_elem?}
use lib.Dec.{ltb, eqb}
use borrow.Author.Tests.{eqb-true, eqb-false}
use Rattle.definitions.specs.Numbers.{no_cell, no_actual, is_stop, is_fault}
use Rattle.definitions.specs.Ranges.{within}
use Rattle.definitions.specs.Layouts.{body_of}
use Rattle.definitions.specs.FormalPlaces.{function_of, position_of}
use Rattle.definitions.specs.TranslationNodes.{formal, call, translation_node_of, actual}
use Rattle.definitions.specs.Rule.{Value, Ending, value, State, Reached, Visit, reach, node_due, where_cell, visited}
use Rattle.definitions.specs.Cells.{Entry, Cell, cell_of, entry_at, with_value, remembered, recalled, where_own, under_cell}
use Rattle.definitions.specs.LiveCells.{older}
use Rattle.definitions.specs.declared.Layout.TheVariants.{Translation}
use Rattle.rule_laws.specs.Keeps.{Keeps, Proper, an_integer, a_constructor, an_end, Kept, Keeping, KeepingHooks}
use Rattle.rule_laws.proofs.Keeps.{kept_here, kept_stop, kept_fault, kept_onward, visit_keeps}
use Rattle.given_back.specs.SerialCells.{Account, SerialCells, listing_serial, keeping_serial, formal_by_serials, with_serial_cell, closed_serial, call_by_serials, by_serials}

-- the store in which cell d remembers a value, and the one with another account
abbrev pub valued : ℕ → ℕ → Value ℕ → SerialCells → SerialCells
valued d i v m =
    let a = m.account in
    record {
      cells = with_value (suc d) i v m.cells;
      account = record { live = a.live; most = a.most; oldest = older v (suc d) a.oldest };
      visits = m.visits;
    }

abbrev pub with_account : Account → SerialCells → SerialCells
with_account a m = record { cells = m.cells; account = a; visits = m.visits }

module _ {b : List ℕ} {rs : List ℤ} (K : Keeps b rs ℕ SerialCells) (cells_allowed : ℕ) where
  open K use {Becomes, At, Built}

  abbrev visiting : ℕ → Visit ℕ SerialCells
  visiting n = visited (by_serials b cells_allowed) b rs n

  -- formal p, at node k, under cell c, whose label names node j
  pub record Asks (m : SerialCells) (k p c j : ℕ) (x : Cell) : Type 0 where
    pub is : translation_node_of b k ≡ formal p
    pub at : At m k (suc c)
    pub there : get_elem? m.cells c ≡ some x
    pub named : actual b p x.label ≡ some j

  -- what is owed: of what a cell remembers, of the visit to an actual, under a cell of the formal's own function or a foreign one, of
  -- a new cell, and of another account
  pub record SerialsKept : Type 0 where
    pub recalled_proper : {m : SerialCells} {k c : ℕ} {x : Cell} {v : Value ℕ} (i : ℕ) → At m k (suc c) → get_elem? m.cells c ≡ some x → entry_at x i ≡ some v
        → Proper K m (value v)
    pub own_kept : (n : ℕ) → Keeping K (visiting n) → {k p c j : ℕ} {x : Cell} (s : State SerialCells) → Asks s.store k p c j x
        → function_of b p ≡ x.callee → entry_at x (position_of b p) ≡ none
        → Kept K s (remembered keeping_serial (suc c) (position_of b p) (visiting n j x.previous (listing_serial (suc c) (position_of b p) s)))
    pub foreign_kept : (n : ℕ) → Keeping K (visiting n) → {k p c j : ℕ} {x : Cell} (s : State SerialCells) → Asks s.store k p c j x
        → ¬ (function_of b p ≡ x.callee)
        → Kept K s (visiting n j x.previous (listing_serial (suc c) (position_of b p) s))
    pub grows : {k l f w : ℕ} (s : State SerialCells) → translation_node_of b k ≡ call l f → At s.store k w
        → Becomes true s.store (with_serial_cell l w f s).store
    pub body_at : {k l f w : ℕ} (s : State SerialCells) → translation_node_of b k ≡ call l f → At s.store k w
        → At (with_serial_cell l w f s).store (body_of Translation b f) (suc (length s.store.cells))
    pub becomes_with : {x : Bool} {m n : SerialCells} (a : Account) → Becomes x m n → Becomes x m (with_account a n)
    pub built_with : {m : SerialCells} {k w : ℕ} (a : Account) → Built m k w → Built (with_account a m) k w

  module _ (H : SerialsKept) (n : ℕ) (ih : Keeping K (visiting n)) where
    module _ (k p c : ℕ) (x : Cell) (s : State SerialCells) (is : translation_node_of b k ≡ formal p) (a : At s.store k (suc c))
        (there : get_elem? s.store.cells c ≡ some x) where
      own_kept : (y : Entry) (o : Option ℕ) → function_of b p ≡ x.callee → entry_at x (position_of b p) ≡ y → actual b p x.label ≡ o
          → Kept K s (recalled y s (remembered keeping_serial (suc c) (position_of b p) (node_due o no_actual s (λ j. visiting n j x.previous (listing_serial (suc c) (position_of b p) s)))))
      unfolding recalled remembered keeping_serial node_due reach is_fault within
      own_kept (some v) o own y e = kept_here K s (H.recalled_proper (position_of b p) a there y)
      own_kept none none own y e = kept_fault K s no_actual refl
      own_kept none (some j) own y e = H.own_kept n ih s (record { is = is; at = a; there = there; named = e }) own y

      foreign_kept : (o : Option ℕ) → ¬ (function_of b p ≡ x.callee) → actual b p x.label ≡ o
          → Kept K s (node_due o no_actual s (λ j. visiting n j x.previous (listing_serial (suc c) (position_of b p) s)))
      unfolding node_due is_fault within
      foreign_kept none other e = kept_fault K s no_actual refl
      foreign_kept (some j) other e = H.foreign_kept n ih s (record { is = is; at = a; there = there; named = e }) other

      where_kept : (t : Bool) → eqb (function_of b p) x.callee ≡ t
          → Kept K s (where_own keeping_serial t (suc c) (position_of b p) (entry_at x (position_of b p)) s
          (node_due (actual b p x.label) no_actual s (λ j. visiting n j x.previous (listing_serial (suc c) (position_of b p) s))))
      unfolding where_own
      where_kept true e = own_kept (entry_at x (position_of b p)) (actual b p x.label) (eqb-true _ _ e) refl refl
      where_kept false e = foreign_kept (actual b p x.label) (eqb-false _ _ e) refl

    cell_kept : (k p w : ℕ) (s : State SerialCells) (o : Option Cell) → cell_of s.store.cells w ≡ o → translation_node_of b k ≡ formal p → At s.store k w
        → Kept K s (under_cell keeping_serial b (λ j v t. visiting n j v (listing_serial w (position_of b p) t)) p w o s)
    unfolding under_cell cell_of is_fault within
    cell_kept k p w s none q e a = kept_fault K s no_actual refl
    cell_kept k p zero s (some x) q e a = absurd (none-ne-some _ q)
    cell_kept k p (suc c) s (some x) q e a = where_kept k p c x s e a q (eqb (function_of b p) x.callee) refl

    proper_with : {m : SerialCells} {e : Ending ℕ} (a : Account) → Proper K m e → Proper K (with_account a m) e
    proper_with a (an_integer h) = an_integer h
    proper_with a (a_constructor h) = a_constructor (H.built_with a h)
    proper_with a (an_end h) = an_end h

    closed_kept : (before : SerialCells) {s : State SerialCells} {r : Reached ℕ SerialCells} → Kept K s r → Kept K s (closed_serial before r)
    unfolding closed_serial reach
    closed_kept before g = record { falls = g.falls; becomes = H.becomes_with _ g.becomes; proper = proper_with _ g.proper }

    call_kept : (k l f w : ℕ) (s : State SerialCells) (t : Bool) → translation_node_of b k ≡ call l f → At s.store k w
        → Kept K s (where_cell t s (λ u. closed_serial u.store (visiting n (body_of Translation b f) (suc (length u.store.cells)) (with_serial_cell l w f u))))
    unfolding where_cell is_stop within with_serial_cell
    call_kept k l f w s false e a = kept_stop K s no_cell refl
    call_kept k l f w s true e a =
        closed_kept s.store (kept_onward K (le_refl s.left) (H.grows s e a)
        (ih.keeps (body_of Translation b f) (suc (length s.store.cells)) (with_serial_cell l w f s) (H.body_at s e a)))

  module _ (H : SerialsKept) where
    hooks : KeepingHooks K (by_serials b cells_allowed)
    unfolding by_serials formal_by_serials call_by_serials
    hooks =
        record {
          formal_keeps = λ n ih k p w s e a. cell_kept H n ih k p w s (cell_of s.store.cells w) refl e a;
          call_keeps = λ n ih k l f w s e a. call_kept H n ih k l f w s (ltb s.store.account.live cells_allowed) e a;
        }

    pub serials_keep : (n : ℕ) → Keeping K (visiting n)
    serials_keep n = visit_keeps K (by_serials b cells_allowed) hooks n
