-- Lent bytes that hold cells in order: at the start, with a cell more alive, and the previous cell that is read of them.
use mathlib.Core.Path.{refl, ap, ◌∙◌}
use Prim.Native.Nat.{ℕ, zero, suc, ◌*◌, ◌≤◌, ◌<◌, max}
use mathlib.Core.List.{List, []}
use mathlib.Core.Option.{none-ne-some}
use native.Mathlib.Omega.{arith}
use lib.ListN.{length}
use Rattle.definitions.specs.Sizes.{most_cells, cell_size}
use Rattle.definitions.specs.Listing.{previous_at}
use Rattle.definitions.specs.Cells.{new_cell}
use Rattle.definitions.specs.LiveCells.{no_live_cells, written}
use Rattle.definitions.specs.CellBytes.{cell_bytes}
use Rattle.definitions.specs.Run.{cells_over}
use Rattle.laws.proofs.Written.{written_length}
use Rattle.accepted.proofs.Elements.{element_there}
use Rattle.cells.specs.LentCells.{cell_added}
use Rattle.lent_rule.specs.Lent.{Lent, none_alive}
use Rattle.lent_rule.specs.Standing.{CellsInOrder, Standing}
use Rattle.lent_rule.proofs.CellReads.{previous_read}
use Rattle.lent_rule.proofs.CellWrites.{cell_over}
use Rattle.lent_rule.proofs.InOrder.{order_full, order_written, LiveInOrder}

module _ {b : List ℕ} {cells_allowed : ℕ} where
  no_cells : CellsInOrder b cells_allowed []
  no_cells = record { few = omega arith; cell = λ c x e. absurd (none-ne-some _ e) }

  pub none_alive_law : LiveInOrder b cells_allowed no_live_cells
  none_alive_law = record { cells = no_cells; alive = omega arith }

  pub start_stands : (before : List ℕ) → cells_allowed ≤ most_cells → cell_size * cells_allowed ≤ length before → Standing b cells_allowed (none_alive before)
  unfolding cells_over cell_bytes
  start_stands before ceiling room =
      record { before = before; room = room; ceiling = ceiling; cells = []; order = no_cells; bytes = refl; most = refl; alive = omega arith }

  module _ {l : Lent} (s : Standing b cells_allowed l) where
    pub added_stands : (label w callee : ℕ) → l.live < cells_allowed → label < 65536 → callee < 65536 → w ≤ l.most
        → Standing b cells_allowed
        (record { bytes = cell_added l.bytes l.live label w callee; live = suc l.live; most = max l.most (suc l.live); oldest = suc l.live })
    added_stands label w callee less p q h =
        let cs = s.cells in
        let n = l.live in
        let x = new_cell label w callee in
        let most = s.most in
        let room = s.room in
        let few = s.order.few in
        let long = written_length cs n x s.alive in
        record {
          before = s.before;
          room = s.room;
          ceiling = s.ceiling;
          cells = written cs n x;
          order = order_written s.order n label w callee s.alive less (omega arith) p q;
          bytes = ap (λ (m : List ℕ). cell_added m n label w callee) s.bytes
              ∙ cell_over s.before cs n label w callee s.alive (order_full s.order) (omega arith) (omega arith);
          most = omega arith;
          alive = omega arith;
        }

    previous_from : (c : ℕ) → suc c ≤ l.most → previous_at l.bytes (suc c) ≤ l.most
    previous_from c h =
        let most = s.most in
        let few = s.order.few in
        let ceiling = s.ceiling in
        let x = element_there s.cells c (omega arith) in
        let below = (s.order.cell c x.element x.there).previous in
        let read = previous_read s.before s.cells (order_full s.order) c x.element x.there (omega arith) in
        rw (s.bytes, read) (omega arith)

    -- the previous cell of one of the cells is none or one of them
    pub previous_made : (w : ℕ) → 0 < w → w ≤ l.most → previous_at l.bytes w ≤ l.most
    previous_made zero p h = absurd (omega arith)
    previous_made (suc c) p h = previous_from c h
