-- Request 7 of document 02, in its words. What a run does is the rule of `definitions/specs/LiveCells.antt`, answer and every cell byte; this
-- page says what that rule does with a formal and with a cell, for every translation file, also one that no translator writes, and what the
-- bytes are; what it does with a call is on the page `GivenBack`. "What a sheet answers by call by name remains the yardstick for its run": that is demand 3, whose sentences on the page
-- `Demands` are about this rule.
use mathlib.Core.Path.{◌≡◌, refl, sym}
use mathlib.Core.Logic.{◌↔◌}
use Prim.Native.Nat.{ℕ, suc, ◌+◌, ◌*◌, ◌≤◌, ◌<◌}
use mathlib.Core.List.{List, ◌++◌}
use mathlib.Core.Option.{none, some}
use mathlib.Core.Bool.{false}
use lib.IntN.{ℤ}
use lib.ListN.{length, replicate, drop, take}
use lib.Seq.{sets}
use borrow.Author.Tests.{eq-eqb, ne_eqb}
use Rattle.definitions.specs.Sizes.{most_fields, cell_size}
use Rattle.definitions.specs.Numbers.{no_actual, bad_allowance, is_stop}
use Rattle.definitions.specs.Bytes.{word_bytes, bytes_of}
use Rattle.definitions.specs.Lists.{sum_of}
use Rattle.definitions.specs.Layouts.{items, functions, node_count, parameter_count}
use Rattle.definitions.specs.References.{parameters}
use Rattle.definitions.specs.FormalPlaces.{function_of, position_of}
use Rattle.definitions.specs.Checks.{translation_verdict}
use Rattle.definitions.specs.Outcomes.{Outcome}
use Rattle.definitions.specs.Trees.{equal_trees}
use Rattle.definitions.specs.Translate.{translation}
use Rattle.definitions.specs.TranslationNodes.{formal, translation_node_of, actual}
use Rattle.definitions.specs.Rule.{Value, value, ended, State, Reached, Visit, reach, node_due, with_step, evaluated, visited}
use Rattle.definitions.specs.Cells.{Cell, new_cell, cell_of, entry_at, with_entry, with_value, remembered, recalled, where_own, under_cell}
use Rattle.definitions.specs.LiveCells.{LiveCells, keeping_live, formal_by_live_cells, by_live_cells}
use Rattle.definitions.specs.CellBytes.{entry_words, cell_words, cell_bytes}
use Rattle.definitions.specs.Run.{rule_end, rule_answer, rule_cells, cells_over, run_verdict}
use Rattle.definitions.specs.declared.Layout.TheVariants.{Sheet, Translation}
use Rattle.definitions.specs.Verdict.{Accepted}
use Rattle.definitions.specs.Written.{Length}
use Rattle.laws.proofs.Verdicts.{both_accepted, required}
use Rattle.laws.proofs.CellBytes.{cell_size_law}
use Rattle.allowances.proofs.Limits.{fitting}
use Rattle.accepted.proofs.ParameterCounts.{parameter_count_most, parameter_total}
use Rattle.readback.proofs.Nodes.{node_count_read, parameter_count_read}
use Rattle.agreement.specs.Answers.{RuleGives, PlainGives}
use Rattle.agreement.proofs.Allowances.{plain_gives_same}
use Rattle.translator.specs.Promise.{Translates}
use Rattle.cells.proofs.Entries.{new_bytes}
use Rattle.lent_rule.proofs.CellWrites.{cell_written}
use Rattle.answer.specs.declared.Answer.{Answer}
use Rattle.answer.specs.Answers.{answer_of}
use Rattle.run.specs.Promise.{Runs}
use Rattle.demands.proofs.Meeting.{run_exact}
use Rattle.demands.proofs.Handing.{handed}

-- The answer is the rule's, and the lent bytes are its cells, 68 bytes each, and past them what was there
module _ (b : List ℕ) (rs : List ℤ) (steps nesting cells_allowed : ℕ) (before : List ℕ) (r : Answer) (after : List ℕ)
    (run : Runs b rs steps nesting cells_allowed before r after) (accepted : run_verdict b rs nesting cells_allowed (length before) ≡ Accepted) where
  abbrev cells : List Cell
  cells = (rule_end b rs steps nesting cells_allowed).state.store.cells

  pub request_7_run : (answer_of r ≡ rule_answer b rs steps nesting cells_allowed) × (after ≡ cell_bytes cells ++ drop (cell_size * length cells) before)
  unfolding rule_cells cells_over
  request_7_run = let e = run_exact b rs steps nesting cells_allowed before r after run accepted in (e.answer, e.cells)

  -- "The cell ceiling becomes 960", with 68 bytes lent for each cell
  pub request_7_ceiling : (cells_allowed ≤ 960) × (68 * cells_allowed ≤ length before)
  unfolding run_verdict
  request_7_ceiling =
      let fit = fitting nesting cells_allowed (length before) _ refl (required _ bad_allowance 0 (both_accepted _ _ accepted).1) in
      (fit.made, fit.lends)

-- "A cell becomes 68 bytes: label, previous, then eight entries ..". "New cells have empty entries, all zero bytes", and "the last two bytes
-- of a cell's eighth entry hold its callee in place of zeros, from the cell's making on"
pub request_7_new : (label w callee : ℕ) → bytes_of (cell_words (new_cell label w callee)) ≡ word_bytes label ++ (word_bytes w ++ (replicate 62 0 ++ word_bytes callee))
request_7_new label w callee = sym (new_bytes label w callee)

module _ (x : Cell) (full : length x.entries ≡ most_fields) where
  pub request_7_size : length (bytes_of (cell_words x)) ≡ 68
  request_7_size = cell_size_law x full

  -- a value remembered at a position changes the first six bytes of that entry and no other byte, so the callee stays
  pub request_7_written : (i : ℕ) (v : Value ℕ) → i < most_fields
      → bytes_of (cell_words (with_entry i v x)) ≡ sets (bytes_of (cell_words x)) (4 + 8 * i) (bytes_of (entry_words (some v)))
  request_7_written i v h = sym (cell_written v x i (rw full h))

-- "Visiting a formal counts its step": formal p, at node k, in any file
module _ (b : List ℕ) (rs : List ℤ) (cells_allowed nesting k p w : ℕ) (is : translation_node_of b k ≡ formal p) where
  abbrev visit : Visit ℕ LiveCells
  visit = visited (by_live_cells b cells_allowed) b rs nesting

  pub request_7_step : (left : ℕ) (m : LiveCells)
      → visited (by_live_cells b cells_allowed) b rs (suc nesting) k w (record { left = suc left; store = m })
      ≡ formal_by_live_cells b visit p w (record { left = left; store = m })
  unfolding visited with_step evaluated by_live_cells
  request_7_step left m = rw is refl

-- what it does then, with any visit of its actual
module _ (b : List ℕ) (visit : Visit ℕ LiveCells) (p w : ℕ) (s : State LiveCells) where
  -- no cell: 18, as before
  pub request_7_outside : cell_of s.store.cells w ≡ none → formal_by_live_cells b visit p w s ≡ reach (ended no_actual) s
  unfolding formal_by_live_cells under_cell
  request_7_outside e = rw e refl

  module _ (x : Cell) (head : cell_of s.store.cells w ≡ some x) where
    -- the actual that the head label names, visited under the tail; a label beyond the list is 18, as before
    abbrev actual_visit : Reached ℕ LiveCells
    actual_visit = node_due (actual b p x.label) no_actual s (λ n. visit n x.previous s)

    module _ (own : function_of b p ≡ x.callee) where
      -- "if the head cell remembers it, that value is used"
      pub request_7_used : (v : Value ℕ) → entry_at x (position_of b p) ≡ some v → formal_by_live_cells b visit p w s ≡ reach (value v) s
      unfolding formal_by_live_cells under_cell where_own recalled
      request_7_used v e = rw (head, eq-eqb (function_of b p) x.callee own, e) refl

      -- "else the actual is visited and a value is remembered"
      pub request_7_visited : entry_at x (position_of b p) ≡ none → formal_by_live_cells b visit p w s ≡ remembered keeping_live w (position_of b p) actual_visit
      unfolding formal_by_live_cells under_cell where_own recalled
      request_7_visited e = rw (head, eq-eqb (function_of b p) x.callee own, e) refl

    -- "A formal visited under a cell that another function's call made remembers nothing", and uses nothing
    pub request_7_foreign : (function_of b p ≡ x.callee → ⊥) → formal_by_live_cells b visit p w s ≡ actual_visit
    unfolding formal_by_live_cells under_cell where_own
    request_7_foreign other = rw (head, ne_eqb (function_of b p) x.callee other) refl

-- a value is remembered in the formal's cell, at its position; a stop or a fault never is
pub request_7_value : (w i : ℕ) (v : Value ℕ) (s : State LiveCells)
    → (remembered keeping_live w i (reach (value v) s)).state.store.cells ≡ with_value w i v s.store.cells
unfolding remembered keeping_live reach
request_7_value w i v s = refl

pub request_7_end : (w i n : ℕ) (s : State LiveCells) → remembered keeping_live w i (reach (ended n) s) ≡ reach (ended n) s
unfolding remembered keeping_live reach
request_7_end w i n s = refl

-- "a function record in a translation gains its parameter count after the node count (.. 0 to 8, else 4 at that function; a sum that isn't P
-- is 4 at the last function ..)": of an accepted file
pub request_7_counts : (b : List ℕ) → translation_verdict b ≡ Accepted
    → ((f : ℕ) → f < functions b → parameter_count b f ≤ most_fields) × (sum_of (functions b) (parameter_count b) ≡ items b)
request_7_counts b accepted = (parameter_count_most b accepted, parameter_total b accepted)

-- and of the bytes that the translator wrote: each function's counts are the sheet's
pub request_7_translated : (sheet out : List ℕ) (n : ℕ) (out' : List ℕ) → Translates sheet out (Length n) out' → (f : ℕ) → f < functions sheet
    → (node_count Translation (take n out') f ≡ node_count Sheet sheet f) × (parameter_count (take n out') f ≡ parameters sheet f)
unfolding translation
request_7_translated sheet out n out' t f h =
    let g = handed sheet out n out' t in
    rw g.is (node_count_read (equal_trees sheet) sheet g.accepted f h, parameter_count_read (equal_trees sheet) sheet g.accepted f h)

-- remembering changes no outcome and no value, of any file: what is no stop is given at some allowances with it exactly if without it
pub request_7_same : (b : List ℕ) (rs : List ℤ) (a : Outcome) → is_stop a.outcome ≡ false → RuleGives b rs a ↔ PlainGives b rs a
request_7_same b rs a = plain_gives_same b rs
