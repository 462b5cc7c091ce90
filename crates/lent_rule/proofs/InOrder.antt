-- The rule that gives cells back keeps them in order: where a visit begins with cells in order, of an accepted translation and narrow
-- readings, it ends so, and what comes out is a narrow number, or a tuple under the empty context or one of the cells.
use mathlib.Core.Path.{◌≡◌, refl, ◌∙◌}
use Prim.Native.Nat.{ℕ, zero, suc, ◌≤◌, ◌<◌}
use mathlib.Core.List.{List}
use mathlib.Core.Option.{some}
use native.Mathlib.Omega.{arith}
use native.Mathlib.Nat.{le_refl, le_trans}
use lib.IntN.{ℤ}
use lib.ListN.{length, length-set}
use Rattle.definitions.specs.Layouts.{nodes, body_of}
use Rattle.definitions.specs.TranslationNodes.{call, translation_node_of}
use Rattle.definitions.specs.Checks.{translation_verdict}
use Rattle.definitions.specs.Rule.{Value, integer, constructor, Ending, value, State, visited}
use Rattle.definitions.specs.Cells.{Entry, Cell, new_cell, with_entry, with_value}
use Rattle.definitions.specs.LiveCells.{LiveCells, keeping_live, written, with_live_cell, closing, by_live_cells}
use Rattle.definitions.specs.declared.Layout.TheVariants.{Translation}
use Rattle.definitions.specs.Verdict.{Accepted}
use Rattle.laws.proofs.ByteFiles.{Bytes}
use Rattle.laws.proofs.Cells.{each_changed, each_entry, value_length, new_empty}
use Rattle.laws.proofs.CellBytes.{FullCells}
use Rattle.laws.proofs.LiveAfter.{live_after_law}
use Rattle.laws.proofs.Written.{written_length, each_written}
use Rattle.accepted.proofs.Owners.{body_below}
use Rattle.accepted.proofs.Checks.{translation_shape}
use Rattle.accepted.proofs.TranslationNames.{formal_below, translation_call_below, mention_below, actual_below}
use Rattle.rule_laws.specs.Keeps.{Keeps, Proper, an_integer, a_constructor, Keeping}
use Rattle.cell_rules.proofs.LiveKept.{LiveKept, live_keep}
use Rattle.lent_rule.specs.Standing.{TupleAt, NarrowReadings, EntryInOrder, nothing, a_number, CellInOrder, CellsInOrder}
use Rattle.lent_rule.specs.Standing as Standing
use Rattle.lent_rule.proofs.Tuples.{tuple_at, member_below}
use Rattle.lent_rule.proofs.Narrow.{narrow_held, computed_fits}
use Rattle.lent_rule.proofs.NodeNumbers.{call_label, call_function, literal_fits, tag_fits}

module _ {b : List ℕ} where
  entry_onward : {m n : ℕ} {o : Entry} → m ≤ n → EntryInOrder b m o → EntryInOrder b n o
  entry_onward h nothing = nothing
  entry_onward h (a_number z) = a_number z
  entry_onward h (Standing.a_constructor t w) = Standing.a_constructor t (le_trans w h)

  cell_onward : {m n : ℕ} {x : Cell} → m ≤ n → CellInOrder b m x → CellInOrder b n x
  cell_onward h x =
      record { label = x.label; callee = x.callee; previous = le_trans x.previous h; size = x.size; entries = λ i. entry_onward h (x.entries i) }

  new_in_order : {most : ℕ} (l w f : ℕ) → w ≤ most → l < 65536 → f < 65536 → CellInOrder b most (new_cell l w f)
  unfolding new_cell
  new_in_order l w f h p q =
      record { label = p; callee = q; previous = h; size = refl; entries = λ i. rw (new_empty l w f i) nothing }

  with_in_order : {most : ℕ} {x : Cell} (i : ℕ) {v : Value ℕ} → EntryInOrder b most (some v) → CellInOrder b most x → CellInOrder b most (with_entry i v x)
  unfolding with_entry
  with_in_order {most} {x} i {v} h y =
      record {
        label = y.label;
        callee = y.callee;
        previous = y.previous;
        size = length-set x.entries i (some v) ∙ y.size;
        entries = each_entry (λ j. EntryInOrder b most) x i v y.entries h;
      }

  module _ {cells_allowed : ℕ} {cs : List Cell} (order : CellsInOrder b cells_allowed cs) where
    pub order_full : FullCells cs
    order_full = record { each = λ c x e. (order.cell c x e).size }

    -- one cell more alive, where n are
    pub order_written : (n l w f : ℕ) → n ≤ length cs → n < cells_allowed → w ≤ length cs → l < 65536 → f < 65536
        → CellsInOrder b cells_allowed (written cs n (new_cell l w f))
    order_written n l w f alive room h p q =
        let x = new_cell l w f in
        let long = written_length cs n x alive in
        let few = order.few in
        let grown : length cs ≤ length (written cs n x) = omega arith in
        record {
          few = omega arith;
          cell = each_written (λ c. CellInOrder b (length (written cs n x))) cs n x alive (λ c y e. cell_onward grown (order.cell c y e))
              (new_in_order l w f (le_trans h grown) p q);
        }

    -- one value more
    pub order_value : (w i : ℕ) {v : Value ℕ} → EntryInOrder b (length cs) (some v) → CellsInOrder b cells_allowed (with_value w i v cs)
    unfolding with_value
    order_value zero i h = order
    order_value (suc d) i {v} h =
        let same = value_length (suc d) i v cs in
        record {
          few = rw same order.few;
          cell = rw same (each_changed (λ c. CellInOrder b (length cs)) (with_entry i v) cs d order.cell (λ x e. with_in_order i h (order.cell d x e)));
        }

module _ (b : List ℕ) (cells_allowed : ℕ) where
  -- cells in order, of which no more are alive
  pub record LiveInOrder (m : LiveCells) : Type 0 where
    pub cells : CellsInOrder b cells_allowed m.cells
    pub alive : m.live ≤ length m.cells

  -- node k may be visited under context w; a tuple that may come out
  pub record NodeUnder (m : LiveCells) (k w : ℕ) : Type 0 where
    pub order : LiveInOrder m
    pub node : k < nodes b
    pub cell : w ≤ length m.cells

  pub record TupleUnder (m : LiveCells) (k w : ℕ) : Type 0 where
    pub order : LiveInOrder m
    pub tuple : TupleAt b k
    pub cell : w ≤ length m.cells

  -- cells become others, no fewer, and in order where they were
  pub record Onward (m n : LiveCells) : Type 0 where
    pub grown : length m.cells ≤ length n.cells
    pub order : LiveInOrder m → LiveInOrder n

module _ {b : List ℕ} {cells_allowed : ℕ} where
  -- with a cell more alive, with a value more remembered, and after a call
  pub live_added : (s : State LiveCells) (l w f : ℕ) → LiveInOrder b cells_allowed s.store → s.store.live < cells_allowed
      → w ≤ length s.store.cells → l < 65536 → f < 65536 → LiveInOrder b cells_allowed (with_live_cell l w f s).store
  unfolding with_live_cell
  live_added s l w f o room h p q =
      record {
        cells = order_written o.cells s.store.live l w f o.alive room h p q;
        alive = omega (arith, written_length s.store.cells s.store.live (new_cell l w f) o.alive);
      }

  pub live_value : (s : State LiveCells) (w i : ℕ) {v : Value ℕ} → EntryInOrder b (length s.store.cells) (some v) → LiveInOrder b cells_allowed s.store
      → LiveInOrder b cells_allowed (keeping_live w i (value v) s).store
  unfolding keeping_live
  live_value s w i {v} h o =
      record { cells = order_value o.cells w i h; alive = omega (arith, o.alive, value_length w i v s.store.cells) }

  pub live_closed : {m n : LiveCells} (e : Ending ℕ) → length m.cells ≤ length n.cells → LiveInOrder b cells_allowed m → LiveInOrder b cells_allowed n
      → LiveInOrder b cells_allowed (closing m e n)
  unfolding closing
  live_closed {m} {n} e h o q = record { cells = q.cells; alive = live_after_law e _ _ _ _ _ (le_trans o.alive h) q.alive }

module _ (b : List ℕ) (accepted : translation_verdict b ≡ Accepted) (bytes : Bytes b) (rs : List ℤ) (narrow : NarrowReadings rs) (cells_allowed : ℕ) where
  abbrev pub orderly : Keeps b rs ℕ LiveCells
  orderly =
      record {
        Becomes = λ x. Onward b cells_allowed;
        stays = λ m. record { grown = le_refl (length m.cells); order = λ o. o };
        onward = λ p q. record { grown = le_trans p.grown q.grown; order = λ o. q.order (p.order o) };
        At = NodeUnder b cells_allowed;
        at_onward = λ g a. record { order = g.order a.order; node = a.node; cell = le_trans a.cell g.grown };
        at_mentioned = λ e g a. record { order = a.order; node = mention_below b accepted _ a.node e g; cell = a.cell };
        Built = TupleUnder b cells_allowed;
        built_tuple = λ e a. record { order = a.order; tuple = tuple_at b accepted _ _ _ a.node e; cell = a.cell };
        built_field_law = λ i e t. record { order = t.order; node = member_below b accepted _ i _ t.tuple e; cell = t.cell };
        Number = Standing.Narrow;
        number_literal = λ e a. narrow_held (literal_fits b bytes _ e);
        number_reading = narrow.reading;
        number_tag = λ t. narrow_held (tag_fits b bytes _);
        number_computed = λ o p q e. narrow_held (computed_fits o _ _ e);
        MayEnd = λ n. Unit {0};
        stop_ends = λ n e. tt;
        fault_ends = λ n e. tt;
      }

  -- what comes out may be remembered, and what is remembered may come out
  pub proper_entry : {m : LiveCells} {v : Value ℕ} → Proper orderly m (value v) → EntryInOrder b (length m.cells) (some v)
  proper_entry (an_integer n) = a_number n
  proper_entry (a_constructor t) = Standing.a_constructor t.tuple t.cell

  entry_proper : {m : LiveCells} {o : Entry} {v : Value ℕ} → LiveInOrder b cells_allowed m → o ≡ some v → EntryInOrder b (length m.cells) o
      → Proper orderly m (value v)
  entry_proper order e nothing = absurd (let z : ◌≡◌ {A = ℕ} 0 1 = cc in omega arith)
  entry_proper {v = v} order e (a_number {z} n) = let q : integer z ≡ v = cc in rw (← q) (an_integer n)
  entry_proper {v = v} order e (Standing.a_constructor {k} {w} t h) =
      let q : constructor k w ≡ v = cc in
      rw (← q) (a_constructor (record { order = order; tuple = t; cell = h }))

  value_onward : {v : Value ℕ} (s : State LiveCells) (w i : ℕ) → Proper orderly s.store (value v)
      → Onward b cells_allowed s.store (keeping_live w i (value v) s).store
  unfolding keeping_live
  value_onward {v} s w i p =
      record { grown = omega (arith, value_length w i v s.store.cells); order = live_value s w i (proper_entry p) }

  new_cell_onward : {k l f w : ℕ} (s : State LiveCells) → translation_node_of b k ≡ call l f → NodeUnder b cells_allowed s.store k w → s.store.live < cells_allowed
      → Onward b cells_allowed s.store (with_live_cell l w f s).store
  unfolding with_live_cell
  new_cell_onward {k} {l} {f} {w} s e a h =
      record {
        grown = omega (arith, written_length s.store.cells s.store.live (new_cell l w f) a.order.alive);
        order = λ o. live_added s l w f o h a.cell (call_label b bytes k l f e) (call_function b bytes k l f e);
      }

  body_under : {k l f w : ℕ} (s : State LiveCells) → translation_node_of b k ≡ call l f → NodeUnder b cells_allowed s.store k w → s.store.live < cells_allowed
      → NodeUnder b cells_allowed (with_live_cell l w f s).store (body_of Translation b f) (suc s.store.live)
  unfolding with_live_cell
  body_under {k} {l} {f} {w} s e a h =
      let o = live_added s l w f a.order h a.cell (call_label b bytes k l f e) (call_function b bytes k l f e) in
      record {
        order = o;
        node = body_below Translation b (translation_shape b accepted) f (translation_call_below b accepted k a.node e);
        cell = o.alive;
      }

  closed_onward : {m n : LiveCells} {k w : ℕ} (e : Ending ℕ) → NodeUnder b cells_allowed m k w → Onward b cells_allowed m n → Onward b cells_allowed m (closing m e n)
  unfolding closing
  closed_onward {m} {n} e a g = record { grown = g.grown; order = λ o. live_closed {m = m} {n = n} e g.grown o (g.order o) }

  closed_built : {m n : LiveCells} {k w j c : ℕ} → NodeUnder b cells_allowed m k w → Onward b cells_allowed m n → TupleUnder b cells_allowed n j c
      → TupleUnder b cells_allowed (closing m (value (constructor j c)) n) j c
  unfolding closing
  closed_built {m} {n} a g t =
      record { order = live_closed {m = m} {n = n} _ g.grown a.order t.order; tuple = t.tuple; cell = t.cell }

  orderly_cells : LiveKept orderly cells_allowed
  orderly_cells =
      record {
        built_onward = λ g t. record { order = g.order t.order; tuple = t.tuple; cell = le_trans t.cell g.grown };
        actual_at = λ {k = k} {p} {c} {x = x} e a q f.
            record {
              order = a.order;
              node = actual_below b accepted p x.label (formal_below b accepted k a.node e) f;
              cell = (a.order.cells.cell c x q).previous;
            };
        recalled_proper = λ {c = c} {x} i a q f. entry_proper a.order f ((a.order.cells.cell c x q).entries i);
        remembers = value_onward;
        grows = new_cell_onward;
        body_at = body_under;
        closes = closed_onward;
        built_closed = closed_built;
      }

  pub order_kept : (n : ℕ) → Keeping orderly (visited (by_live_cells b cells_allowed) b rs n)
  order_kept n = live_keep orderly cells_allowed orderly_cells n
