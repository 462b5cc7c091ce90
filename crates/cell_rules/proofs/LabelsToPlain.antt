-- The rule without remembering follows the relation over labels: where a visit of labels ends, the visit of a cell that stands for them
-- ends alike and at the same cost, at all allowances that have room for it.
use mathlib.Core.Path.{◌≡◌}
use Prim.Native.Nat.{ℕ, suc, ◌≤◌}
use mathlib.Core.List.{List, [], ◌∷◌, ◌++◌}
use mathlib.Core.Option.{none, some}
use native.Mathlib.Omega.{arith}
use lib.IntN.{ℤ}
use lib.ListN.{length, length-append}
use borrow.Author.Tests.{lt-ltb}
use Rattle.definitions.specs.Numbers.{no_actual}
use Rattle.definitions.specs.Layouts.{body_of}
use Rattle.definitions.specs.TranslationNodes.{translation_node_of, actual}
use Rattle.definitions.specs.Rule.{Ending, ended, Visit, node_due, visited}
use Rattle.definitions.specs.Rule.{where_cell}
use Rattle.definitions.specs.PlainCells.{PlainCell, plain_cell_of, under_tail, formal_by_plain_cells, with_cell, call_by_plain_cells, by_plain_cells}
use Rattle.definitions.specs.declared.Layout.TheVariants.{Translation}
use Rattle.rule_laws.specs.Derivations.{Trace, alone, after, after_call, Derivation}
use Rattle.rule_laws.specs.Reads.{state_of, an_end, Arrives}
use Rattle.rule_laws.specs.Reached.{Allowed, Reaching, ReachingHooks}
use Rattle.rule_laws.proofs.Arrivals.{arrives_alone, arrives_after}
use Rattle.rule_laws.proofs.Reached.{visits_reached}
use Rattle.cell_rules.specs.Contexts.{plain_heads, Stands, outermost, within}
use Rattle.cell_rules.proofs.Contexts.{stands_added}
use Rattle.cell_rules.proofs.PlainReads.{takes_call, plain_reads}

module _ (t : List ℕ) (rs : List ℤ) (cells_allowed : ℕ) where
  module _ (n : ℕ) (visit : Visit ℕ (List PlainCell)) (k left : ℕ) (m : List PlainCell) (room : length m ≤ cells_allowed) where
    actual_reached : (p : ℕ) {l j w : ℕ} {ws : List ℕ} {a : Trace} {e : Ending (List ℕ)} → Stands plain_heads m w (l ∷ ws) → actual t p l ≡ some j
        → Reaching (plain_reads t cells_allowed) rs cells_allowed n visit j ws a e → Allowed (plain_reads t cells_allowed) cells_allowed a n (state_of left m)
        → Arrives (plain_reads t cells_allowed) (suc n) (state_of (suc left) m) (after a) e (formal_by_plain_cells t visit p w (state_of left m))
    unfolding formal_by_plain_cells under_tail plain_cell_of node_due
    actual_reached p (within c x y s) h g q = rw (c, x, y, h) (arrives_after _ (g.reaches _ (state_of left m) (record { stands = s; room = room }) q))

    beyond_reached : (p : ℕ) {l w : ℕ} {ws : List ℕ} → Stands plain_heads m w (l ∷ ws) → actual t p l ≡ none
        → Arrives (plain_reads t cells_allowed) (suc n) (state_of (suc left) m) alone (ended no_actual) (formal_by_plain_cells t visit p w (state_of left m))
    unfolding formal_by_plain_cells under_tail plain_cell_of node_due
    beyond_reached p (within c x y s) h = rw (c, x, h) (arrives_alone _ k (record { stands = s; room = room }) an_end)

    outside_reached : (p : ℕ) {w : ℕ} → Stands plain_heads m w []
        → Arrives (plain_reads t cells_allowed) (suc n) (state_of (suc left) m) alone (ended no_actual) (formal_by_plain_cells t visit p w (state_of left m))
    unfolding formal_by_plain_cells under_tail plain_cell_of
    outside_reached p outermost = arrives_alone _ k (record { stands = outermost; room = room }) an_end

    call_reached : (l f w : ℕ) {ws : List ℕ} {a : Trace} {e : Ending (List ℕ)} → Stands plain_heads m w ws
        → Reaching (plain_reads t cells_allowed) rs cells_allowed n visit (body_of Translation t f) (l ∷ ws) a e
        → Allowed (plain_reads t cells_allowed) cells_allowed (after_call a) (suc n) (state_of (suc left) m)
        → Arrives (plain_reads t cells_allowed) (suc n) (state_of (suc left) m) (after_call a) e (call_by_plain_cells t cells_allowed visit l f w (state_of left m))
    unfolding call_by_plain_cells where_cell with_cell
    call_reached l f w s g q =
        let c : PlainCell = record { label = l; previous = w } in
        let size = length-append m (c ∷ []) in
        let more : length (m ++ (c ∷ [])) ≤ cells_allowed = omega (arith, size, q.cells) in
        let r = g.reaches (suc (length m)) (state_of left (m ++ (c ∷ []))) (record { stands = stands_added c s; room = more })
        (record { depth = omega (arith, q.depth); steps = omega (arith, q.steps); cells = omega (arith, size, q.cells) }) in
        rw (lt-ltb (length m) cells_allowed (omega (arith, q.cells))) (record { went = takes_call c r.went; shows = r.shows })

  hooks : ReachingHooks (plain_reads t cells_allowed) rs cells_allowed (by_plain_cells t cells_allowed)
  unfolding by_plain_cells
  hooks =
      record {
        formal_actual = λ n {k = k} {p = p} left w m e s h v g q. actual_reached n (visited (by_plain_cells t cells_allowed) t rs n) k left m s.room p s.stands h g q;
        formal_beyond = λ n {k = k} {p = p} left w m e s h. beyond_reached n (visited (by_plain_cells t cells_allowed) t rs n) k left m s.room p s.stands h;
        formal_outside = λ n {k = k} {p = p} left w m e s. outside_reached n (visited (by_plain_cells t cells_allowed) t rs n) k left m s.room p s.stands;
        call_body = λ n {k = k} {l = l} {f = f} left w m e s g q. call_reached n (visited (by_plain_cells t cells_allowed) t rs n) k left m s.room l f w s.stands g q;
      }

  -- a visit, at allowances that have room for its trace
  pub follows : (nesting left k w : ℕ) {ws : List ℕ} {store : List PlainCell} {a : Trace} {e : Ending (List ℕ)}
      → Derivation t rs (translation_node_of t k) k ws a e → Stands plain_heads store w ws → Allowed (plain_reads t cells_allowed) cells_allowed a nesting (state_of left store)
      → Arrives (plain_reads t cells_allowed) nesting (state_of left store) a e (visited (by_plain_cells t cells_allowed) t rs nesting k w (state_of left store))
  follows nesting left k w {store} v s q =
      (visits_reached (plain_reads t cells_allowed) rs cells_allowed (by_plain_cells t cells_allowed) hooks nesting v).reaches w (state_of left store)
      (record { stands = s; room = omega (arith, q.cells) }) q
