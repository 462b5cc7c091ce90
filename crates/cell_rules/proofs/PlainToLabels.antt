-- The relation over labels follows the rule without remembering: a visit of a cell that is not stopped is a visit of the labels that the
-- cell stands for, with the same end, and the allowances had room for its trace.
use mathlib.Core.Path.{◌≡◌, refl}
use Prim.Native.Nat.{ℕ, suc, ◌≤◌}
use mathlib.Core.List.{List, [], ◌∷◌, ◌++◌}
use mathlib.Core.Option.{Option, none, some}
use mathlib.Core.Bool.{Bool, true, false, true≢false}
use native.Mathlib.Omega.{arith}
use lib.IntN.{ℤ}
use lib.ListN.{length, length-append}
use lib.Dec.{ltb}
use borrow.Author.Tests.{ltb-true}
use Rattle.definitions.specs.Numbers.{no_actual, is_stop}
use Rattle.definitions.specs.Ranges as Ranges
use Rattle.definitions.specs.Layouts.{body_of}
use Rattle.definitions.specs.TranslationNodes.{formal, call, actual}
use Rattle.definitions.specs.Rule.{Visit, reach, node_due, visited}
use Rattle.definitions.specs.Rule.{where_cell}
use Rattle.definitions.specs.PlainCells.{PlainCell, plain_cell_of, under_tail, formal_by_plain_cells, with_cell, call_by_plain_cells, by_plain_cells}
use Rattle.definitions.specs.declared.Layout.TheVariants.{Translation}
use Rattle.rule_laws.specs.Derivations.{formal_actual, formal_beyond, formal_outside, call_body}
use Rattle.rule_laws.specs.Reads.{state_of, an_end}
use Rattle.rule_laws.specs.Found.{stopped, Found, Finding, FindingHooks}
use Rattle.rule_laws.proofs.Arrivals.{arrives_alone, arrives_after}
use Rattle.rule_laws.proofs.Found.{found, visits_found}
use Rattle.cell_rules.specs.Contexts.{plain_heads, Stands, outermost, within}
use Rattle.cell_rules.proofs.Contexts.{stands_added}
use Rattle.cell_rules.proofs.PlainReads.{takes_call, plain_reads}

module _ (t : List ℕ) (rs : List ℤ) (cells_allowed : ℕ) where
  module _ (n : ℕ) {visit : Visit ℕ (List PlainCell)} (ih : Finding (plain_reads t cells_allowed) rs n visit) (k left : ℕ) (m : List PlainCell) (room : length m ≤ cells_allowed) where
    -- a formal under a label
    actual_found : (p l w : ℕ) {ws : List ℕ} (o : Option ℕ) → actual t p l ≡ o → Stands plain_heads m w ws
        → stopped (node_due o no_actual (state_of left m) (λ j. visit j w (state_of left m))).ending ≡ false
        → Found (plain_reads t cells_allowed) rs (formal p) k (l ∷ ws) (suc n) (state_of (suc left) m)
        (node_due o no_actual (state_of left m) (λ j. visit j w (state_of left m)))
    unfolding node_due
    actual_found p l w none e s h = found _ rs (formal_beyond e) (arrives_alone _ k (record { stands = s; room = room }) an_end)
    actual_found p l w (some j) e s h =
        let c = (ih.finds j w (state_of left m) (record { stands = s; room = room }) h).comes in
        found _ rs (formal_actual e c.visits) (arrives_after _ c.arrives)

    formal_found : (p : ℕ) {w : ℕ} {ws : List ℕ} → Stands plain_heads m w ws
        → stopped (under_tail t visit p (plain_cell_of m w) (state_of left m)).ending ≡ false
        → Found (plain_reads t cells_allowed) rs (formal p) k ws (suc n) (state_of (suc left) m) (under_tail t visit p (plain_cell_of m w) (state_of left m))
    unfolding under_tail plain_cell_of
    formal_found p outermost h = found _ rs formal_outside (arrives_alone _ k (record { stands = outermost; room = room }) an_end)
    formal_found p (within {l} {p = w} c e q s) h = rw (c, e, q) (actual_found p l w (actual t p l) refl s (rw (c, e, q) at h))

    -- a call, where there may be a cell left
    call_found : (l f w : ℕ) {ws : List ℕ} (x : Bool) → ltb (length m) cells_allowed ≡ x → Stands plain_heads m w ws
        → stopped (where_cell x (state_of left m) (λ s. visit (body_of Translation t f) (suc (length s.store)) (with_cell l w s))).ending ≡ false
        → Found (plain_reads t cells_allowed) rs (call l f) k ws (suc n) (state_of (suc left) m)
        (where_cell x (state_of left m) (λ s. visit (body_of Translation t f) (suc (length s.store)) (with_cell l w s)))
    unfolding where_cell with_cell is_stop Ranges.within reach
    call_found l f w false e s h = absurd (true≢false h)
    call_found l f w true e s h =
        let c : PlainCell = record { label = l; previous = w } in
        let more : length (m ++ (c ∷ [])) ≤ cells_allowed = omega (arith, length-append m (c ∷ []), ltb-true (length m) cells_allowed e) in
        let g = (ih.finds (body_of Translation t f) (suc (length m)) (state_of left (m ++ (c ∷ []))) (record { stands = stands_added c s; room = more }) h).comes in
        found _ rs (call_body g.visits) (record { went = takes_call c g.arrives.went; shows = g.arrives.shows })

  hooks : FindingHooks (plain_reads t cells_allowed) rs (by_plain_cells t cells_allowed)
  unfolding by_plain_cells formal_by_plain_cells call_by_plain_cells
  hooks =
      record {
        formal_found = λ n ih k p left w m e s h. formal_found n ih k left m s.room p s.stands h;
        call_found = λ n ih k l f left w m e s h. call_found n ih k left m s.room l f w (ltb (length m) cells_allowed) refl s.stands h;
      }

  -- a visit of cells that is not stopped is one of labels
  pub finds_all : (nesting : ℕ) → Finding (plain_reads t cells_allowed) rs nesting (visited (by_plain_cells t cells_allowed) t rs nesting)
  finds_all nesting = visits_found (plain_reads t cells_allowed) rs (by_plain_cells t cells_allowed) hooks nesting
