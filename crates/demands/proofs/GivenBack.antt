-- Request 9 of document 02, in its words: what the rule of `definitions/specs/LiveCells.antt`, which a run follows, does with a call, for every
-- translation file and from every state; then what `Runs` of `run::run` promises of cells, beside the rule of request 7, which keeps them
-- all. "The sheet's own answer stays the test of every run": that is demand 3, whose sentences on the page `Demands` are about this
-- rule. "The eightfold bound of the ticket before counts cells made, given back or not" is on the page `VisitedOnce`, and what S counts is in
-- `sheets/specs/Starred.antt`.
use mathlib.Core.Path.{◌≡◌, refl, sym, ap, ◌∙◌}
use Prim.Native.Nat.{ℕ, suc, ◌*◌, ◌≤◌, ◌<◌, min}
use mathlib.Core.List.{List}
use mathlib.Core.Bool.{true, true≢false}
use lib.IntN.{ℤ}
use lib.ListN.{length, drop}
use lib.Seq.{drop_at}
use borrow.Author.Tests.{lt-ltb, le-ltb, le-leb, lt-leb}
use Rattle.definitions.specs.Sizes.{cell_size}
use Rattle.definitions.specs.Numbers.{no_cell, is_fault, is_answer}
use Rattle.definitions.specs.Ranges.{within}
use Rattle.definitions.specs.Layouts.{body_of}
use Rattle.definitions.specs.TranslationNodes.{call, translation_node_of}
use Rattle.definitions.specs.Rule.{integer, constructor, value, ended, State, Reached, reach, with_step, where_cell, evaluated, visited}
use Rattle.definitions.specs.Cells.{new_cell}
use Rattle.definitions.specs.LiveCells.{LiveCells, older, keeping_live, written, with_live_cell, live_after, closing, closed, call_by_live_cells, by_live_cells}
use Rattle.definitions.specs.CellBytes.{cell_bytes}
use Rattle.definitions.specs.Run as Run
use Rattle.definitions.specs.Run.{answer_at, reached_answer, cells_over, rule_end, rule_answer, rule_cells, kept_answer, run_verdict}
use Rattle.definitions.specs.declared.Layout.TheVariants.{Translation}
use Rattle.definitions.specs.Verdict.{Accepted}
use Rattle.laws.proofs.CellBytes.{bytes_size}
use Rattle.given_back.specs.SerialCells.{serial_evaluation}
use Rattle.given_back.specs.KeptEnds.{SameButCells}
use Rattle.given_back.specs.OnlyAlive.{OnlyAlive}
use Rattle.given_back.proofs.Evaluations.{rule_serial}
use Rattle.given_back.proofs.OnlyAlive.{rule_alive}
use Rattle.given_back.proofs.KeptAnswers.{kept_answers}
use Rattle.agreement.proofs.KnownEnds.{rule_cells_full}
use Rattle.run.specs.Promise.{Runs}
use Rattle.answer.specs.declared.Answer.{Answer}
use Rattle.answer.specs.Answers.{answer_of}
use Rattle.demands.proofs.Meeting.{run_exact}

-- A call of function f with label l, at node k, in any file
module _ (b : List ℕ) (rs : List ℤ) (cells_allowed nesting k l f w : ℕ) (is : translation_node_of b k ≡ call l f) (left : ℕ) (m : LiveCells) where
  abbrev call_visit : Reached ℕ LiveCells
  call_visit = visited (by_live_cells b cells_allowed) b rs (suc nesting) k w (record { left = suc left; store = m })

  -- the state in which the body is visited, and what that visit comes to
  abbrev opened : State LiveCells
  opened = with_live_cell l w f (record { left = left; store = m })

  abbrev body_visit : Reached ℕ LiveCells
  body_visit = visited (by_live_cells b cells_allowed) b rs nesting (body_of Translation b f) (suc m.live) opened

  -- "The cell allowance now limits live cells"
  pub request_9_full : cells_allowed ≤ m.live → call_visit ≡ reach (ended no_cell) (record { left = left; store = m })
  unfolding visited with_step evaluated by_live_cells call_by_live_cells where_cell
  request_9_full h = rw (is, le-ltb m.live cells_allowed h) refl

  -- else the call is that visit, closed
  pub request_9_call : m.live < cells_allowed → call_visit ≡ closed m body_visit
  unfolding visited with_step evaluated by_live_cells call_by_live_cells where_cell
  request_9_call h = rw (is, lt-ltb m.live cells_allowed h) refl

  -- "used again, lowest number first": the new cell has the number after those alive, and is written there; no constructor was remembered
  -- yet in an older one
  pub request_9_opened : opened.store ≡ record { cells = written m.cells m.live (new_cell l w f); live = suc m.live; oldest = suc m.live }
  unfolding with_live_cell
  request_9_opened = refl

-- "When the visit of a call ends ..", r being what the visit of its body came to, where `before` was kept before it: the call's own cell
-- is the one after those that were alive
module _ (before : LiveCells) (r : Reached ℕ LiveCells) where
  abbrev after : LiveCells
  after = (closed before r).state.store

  abbrev oldest : ℕ
  oldest = r.state.store.oldest

  module _ (z : ℤ) (number : r.ending ≡ value (integer z)) where
    -- ".. with a number, the cells made since that call, its own included, are given back ..
    pub request_9_number : suc before.live ≤ oldest → after.live ≡ before.live
    unfolding closed closing live_after reach
    request_9_number h = rw (number, le-leb (suc before.live) oldest h) refl

    -- .., unless during that visit a constructor was remembered in a cell older than the call."
    pub request_9_unless : oldest < suc before.live → after.live ≡ r.state.store.live
    unfolding closed closing live_after reach
    request_9_unless h = rw (number, lt-leb (suc before.live) oldest h) refl

  -- a constructor, a stop and a fault give nothing back
  pub request_9_constructor : (k c : ℕ) → r.ending ≡ value (constructor k c) → after.live ≡ r.state.store.live
  unfolding closed closing live_after reach
  request_9_constructor k c e = rw e refl

  pub request_9_ended : (n : ℕ) → r.ending ≡ ended n → after.live ≡ r.state.store.live
  unfolding closed closing live_after reach
  request_9_ended n e = rw e refl

  -- "Giving back writes no byte.", and changes neither what comes out nor the steps left
  pub request_9_same : (after.cells ≡ r.state.store.cells) × ((closed before r).ending ≡ r.ending) × ((closed before r).state.left ≡ r.state.left)
  unfolding closed closing reach
  request_9_same = (refl, refl, refl)

  -- what was remembered during an inner call was remembered during the outer one
  pub request_9_outer : after.oldest ≡ min before.oldest oldest
  unfolding closed closing reach
  request_9_outer = refl

-- a constructor that is remembered in the cell of context w counts, a number does not
pub request_9_remembered : (w i k c : ℕ) (s : State LiveCells) → (keeping_live w i (value (constructor k c)) s).store.oldest ≡ min s.store.oldest w
unfolding keeping_live older
request_9_remembered w i k c s = refl

pub request_9_numbers : (w i : ℕ) (z : ℤ) (s : State LiveCells) → (keeping_live w i (value (integer z)) s).store.oldest ≡ s.store.oldest
unfolding keeping_live older
request_9_numbers w i z s = refl

-- so nothing that is alive at the end refers to a cell that was given back: neither the constructor that comes out, nor the previous cell of a
-- cell that is alive, nor what such a cell remembers
pub request_9_alive : (b : List ℕ) (rs : List ℤ) (steps nesting cells_allowed : ℕ)
    → OnlyAlive (rule_end b rs steps nesting cells_allowed).ending (rule_end b rs steps nesting cells_allowed).state.store
request_9_alive = rule_alive

-- 13 is no answer
stopped_no_answer : is_answer no_cell ≡ true → ⊥
unfolding is_answer is_fault within
stopped_no_answer h = true≢false (sym h)

-- A run of any file that is not refused
module _ (b : List ℕ) (rs : List ℤ) (steps nesting cells_allowed : ℕ) (before : List ℕ) (r : Answer) (after : List ℕ)
    (run : Runs b rs steps nesting cells_allowed before r after) (accepted : run_verdict b rs nesting cells_allowed (length before) ≡ Accepted) where
  answer_is : answer_of r ≡ rule_answer b rs steps nesting cells_allowed
  answer_is = (run_exact b rs steps nesting cells_allowed before r after run accepted).answer

  -- "the record's cell count is the most alive together": the rule over serial numbers, which takes no cell away, counts them
  pub request_9_most : (answer_of r).cells ≡ (serial_evaluation b rs steps nesting cells_allowed).state.store.account.most
  unfolding rule_answer reached_answer answer_at
  request_9_most = ap (λ (a : Run.Answer). a.cells) answer_is ∙ (rule_serial b rs steps nesting cells_allowed).most

  -- "and bytes beyond those are untouched."
  pub request_9_untouched : drop (cell_size * (answer_of r).cells) after ≡ drop (cell_size * (answer_of r).cells) before
  unfolding rule_answer reached_answer answer_at rule_cells cells_over
  request_9_untouched =
      let cells = (rule_end b rs steps nesting cells_allowed).state.store.cells in
      let count : (answer_of r).cells ≡ length cells = ap (λ (a : Run.Answer). a.cells) answer_is in
      rw (count, (run_exact b rs steps nesting cells_allowed before r after run accepted).cells)
      (drop_at (cell_bytes cells) (drop (cell_size * length cells) before) (cell_size * length cells) (bytes_size cells (rule_cells_full b rs cells_allowed steps nesting)))

  -- "The same sheet at the same allowances ..": where the rule of request 7 ends otherwise than with 13, with a number, a constructor, a
  -- fault, or the stops 11 and 12, the run has its outcome, value and steps, and no more cells
  pub request_9_kept : ((kept_answer b rs steps nesting cells_allowed).outcome ≡ no_cell → ⊥) → SameButCells (kept_answer b rs steps nesting cells_allowed) (answer_of r)
  request_9_kept h = rw answer_is (kept_answers b rs steps nesting cells_allowed h)

  -- ".. never stops with 13 where it answered before"
  pub request_9_never : is_answer (kept_answer b rs steps nesting cells_allowed).outcome ≡ true → (answer_of r).outcome ≡ no_cell → ⊥
  unfolding is_answer
  request_9_never h e =
      let k = request_9_kept (λ f. stopped_no_answer (rw f at h)) in
      stopped_no_answer (rw (sym k.outcome ∙ e) at h)
