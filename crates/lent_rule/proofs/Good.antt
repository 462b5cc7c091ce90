-- Every visit over lent bytes that hold cells in order ends with such bytes, no more steps left, no fewer cells written, and a constructor
-- that is a tuple under the empty context or one of the cells.
use mathlib.Core.Path.{◌≡◌, refl, subst}
use Prim.Native.Nat.{ℕ, ◌≤◌, ◌<◌}
use mathlib.Core.List.{List}
use lib.IntN.{ℤ}
use Rattle.definitions.specs.Layouts.{nodes}
use Rattle.definitions.specs.Checks.{translation_verdict}
use Rattle.definitions.specs.Rule.{Ending, State, Reached, visited}
use Rattle.definitions.specs.LiveCells.{LiveCells}
use Rattle.definitions.specs.Verdict.{Accepted}
use Rattle.laws.proofs.ByteFiles.{Bytes}
use Rattle.rule_laws.specs.SideBySide.{AlikeEnds, integers, constructors, ends, Both, cut, arrive}
use Rattle.lent_rule.specs.Lent.{Lent, by_lent}
use Rattle.lent_rule.specs.Standing.{NarrowReadings, Standing, Inside, Good}
use Rattle.lent_rule.proofs.InOrder.{order_kept}
use Rattle.lent_rule.proofs.Lockstep.{lent_of, World, count, one, sides, visits_in_step}

module _ {b : List ℕ} {cells_allowed : ℕ} where
  alike_inside : (before : List ℕ) {w : World b cells_allowed} {e d : Ending ℕ} → AlikeEnds (sides b cells_allowed before) w e d → Inside b (count w) e
  alike_inside before integers = tt
  alike_inside before (constructors (one t h)) = (t, h)
  alike_inside before ends = tt

  -- the cells that lent bytes hold
  abbrev held_by : {l : Lent} → Standing b cells_allowed l → LiveCells
  held_by {l} s = record { cells = s.cells; live = l.live; oldest = l.oldest }

  lent_is : {l : Lent} (s : Standing b cells_allowed l) → lent_of s.before (held_by s) ≡ l
  lent_is {l} s = rw (← s.bytes, ← s.most) refl

  good_by : {l : Lent} (s : Standing b cells_allowed l) {left : ℕ} {w : World b cells_allowed} {r : Reached ℕ Lent} {q : Reached ℕ LiveCells}
      → Both (sides b cells_allowed s.before) w r q → q.state.left ≤ left → Good b cells_allowed left (count w) r
  good_by s (cut x) h = absurd x
  good_by s (arrive v l e) h =
      record {
        falls = h;
        grows = l;
        standing = record {
          before = s.before;
          room = s.room;
          ceiling = s.ceiling;
          cells = v.store.cells;
          order = v.order.cells;
          bytes = refl;
          most = refl;
          alive = v.order.alive;
        };
        inside = alike_inside s.before e;
      }

module _ (b : List ℕ) (accepted : translation_verdict b ≡ Accepted) (bytes : Bytes b) (rs : List ℤ) (narrow : NarrowReadings rs) where
  pub visit_good : (cells_allowed n k w : ℕ) (s : State Lent) → Standing b cells_allowed s.store → k < nodes b → w ≤ s.store.most
      → Good b cells_allowed s.left s.store.most (visited (by_lent b cells_allowed) b rs n k w s)
  visit_good cells_allowed n k w s h below inside =
      let v : World b cells_allowed = record { left = s.left; store = held_by h; order = record { cells = h.order; alive = h.alive } } in
      let cell : w ≤ count v = rw h.most at inside in
      subst (λ (l : Lent). Good b cells_allowed s.left l.most (visited (by_lent b cells_allowed) b rs n k w (record { left = s.left; store = l })))
      (lent_is h)
      (good_by h (visits_in_step b accepted bytes rs narrow cells_allowed h.ceiling h.before h.room n k w v below cell)
      ((order_kept b accepted bytes rs narrow cells_allowed n).keeps k w (record { left = s.left; store = held_by h })
      (record { order = v.order; node = below; cell = cell })).falls)
