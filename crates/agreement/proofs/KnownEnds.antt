-- The rule ends with a number, a constructor, a stop or one of the run faults, whatever the file; its value is among any
-- numbers that hold the file's literals and tags, the readings and what operators make of them; it makes no more cells than
-- allowed, and each has its eight entries.
use mathlib.Core.Path.{◌≡◌, refl, sym, ◌∙◌}
use Prim.Native.Nat.{ℕ, suc, ◌≤◌, ◌<◌}
use mathlib.Core.List.{List}
use mathlib.Core.Bool.{Bool, true, false, ◌||◌, or-true, true≢false}
use native.Mathlib.Omega.{arith}
use lib.IntN.{ℤ, pos}
use lib.ListN.{length, get_or}
use Rattle.definitions.specs.Numbers.{is_number, is_stop, is_fault, is_answer}
use Rattle.definitions.specs.Ranges.{within}
use Rattle.definitions.specs.Layouts.{body_of}
use Rattle.definitions.specs.Operators.{gives, computed}
use Rattle.definitions.specs.Outcomes.{number_outcome, constructor_outcome, end_outcome}
use Rattle.definitions.specs.TranslationNodes.{number, translation_node_of, tag_of}
use Rattle.definitions.specs.Rule.{Value, constructor, Ending, value, ended, State}
use Rattle.definitions.specs.Cells.{new_cell}
use Rattle.definitions.specs.LiveCells.{LiveCells, no_live_cells, keeping_live, with_live_cell, live_after, closing, live_evaluation}
use Rattle.definitions.specs.Run.{ending_outcome, rule_end}
use Rattle.definitions.specs.declared.Layout.TheVariants.{Translation}
use Rattle.laws.proofs.Classes.{fault_answer}
use Rattle.laws.proofs.Cells.{value_length}
use Rattle.laws.proofs.Written.{written_length}
use Rattle.laws.proofs.LiveAfter.{live_after_law}
use Rattle.laws.proofs.CellBytes.{FullCells}
use Rattle.rule_laws.specs.Keeps.{Keeps, Proper, an_integer, a_constructor, an_end, Kept}
use Rattle.cell_rules.proofs.LiveKept.{LiveKept, live_keep}
use Rattle.agreement.proofs.KnownCells.{Among, a_number, any_constructor, LiveKnown, none_known, written_known, value_known}

-- the number of a run fault or a stop
abbrev Known : ℕ → Type 0
Known n = (is_fault n || is_stop n) ≡ true

stop_known : (n : ℕ) → is_stop n ≡ true → Known n
stop_known n h = rw (h, or-true) refl

fault_known : (n : ℕ) → is_fault n ≡ true → Known n
fault_known n h = rw h refl

-- it is that of an answer or a stop
known_by : (n : ℕ) (x y : Bool) → is_fault n ≡ x → is_stop n ≡ y → (x || y) ≡ true → (is_answer n || is_stop n) ≡ true
known_by n true y e f h = rw (fault_answer n e) refl
known_by n false true e f h = rw (f, or-true) refl
known_by n false false e f h = absurd (true≢false (sym h))

-- numbers that a visit stays among
pub record Closed (b : List ℕ) (rs : List ℤ) : Type 1 where
  pub Number : ℤ → Type 0
  pub literals : (k : ℕ) {z : ℤ} → translation_node_of b k ≡ number z → Number z
  pub readings : (i : ℕ) → Number (get_or rs i (pos 0))
  pub tags : (k : ℕ) → Number (pos (tag_of b k))
  pub operators : {x y z : ℤ} (o : ℕ) → Number x → Number y → computed o x y ≡ gives z → Number z

any_numbers : (b : List ℕ) (rs : List ℤ) → Closed b rs
any_numbers b rs =
    record { Number = λ z. Unit {0}; literals = λ k e. tt; readings = λ i. tt; tags = λ k. tt; operators = λ o p q e. tt }

ended_no_value : {v : Value ℕ} {n : ℕ} → value v ≡ ended n → ⊥
ended_no_value e = let z : ◌≡◌ {A = ℕ} 0 1 = cc in omega arith

module _ (b : List ℕ) (rs : List ℤ) (cells_allowed : ℕ) (N : Closed b rs) where
  -- cells that are known stay so, and none is taken away
  record StaysKnown (m n : LiveCells) : Type 0 where
    grown : length m.cells ≤ length n.cells
    known : LiveKnown N.Number cells_allowed m → LiveKnown N.Number cells_allowed n

  -- these numbers come out, any constructors, and the ends that are known; the cells stay known
  abbrev known : Keeps b rs ℕ LiveCells
  known =
      record {
        Becomes = λ x m n. StaysKnown m n;
        stays = λ m. record { grown = omega arith; known = λ h. h };
        onward = λ p q. record { grown = omega (arith, p.grown, q.grown); known = λ h. q.known (p.known h) };
        At = λ m k w. LiveKnown N.Number cells_allowed m;
        at_onward = λ g h. g.known h;
        at_mentioned = λ e g h. h;
        Built = λ m k w. LiveKnown N.Number cells_allowed m;
        built_tuple = λ e h. h;
        built_field_law = λ i e h. h;
        Number = N.Number;
        number_literal = λ {m} {k} e h. N.literals k e;
        number_reading = N.readings;
        number_tag = λ {m} {k} h. N.tags k;
        number_computed = N.operators;
        MayEnd = Known;
        stop_ends = stop_known;
        fault_ends = fault_known;
      }

  -- a value that is remembered, and one that is used
  proper_among : {m : LiveCells} {v : Value ℕ} → Proper known m (value v) → Among N.Number v
  proper_among (an_integer n) = a_number n
  proper_among (a_constructor c) = any_constructor

  used_proper : {m : LiveCells} {v : Value ℕ} → LiveKnown N.Number cells_allowed m → Among N.Number v → Proper known m (value v)
  used_proper h (a_number n) = an_integer n
  used_proper h any_constructor = a_constructor h

  value_stays : {v : Value ℕ} (s : State LiveCells) (w i : ℕ) → Among N.Number v → StaysKnown s.store (keeping_live w i (value v) s).store
  unfolding keeping_live
  value_stays {v} s w i a =
      let e = value_length w i v s.store.cells in
      record {
        grown = omega (arith, e);
        known = λ h. record { cells = value_known _ _ w i v a h.cells; alive = omega (arith, e, h.alive) };
      }

  more_known : (s : State LiveCells) (l w f : ℕ) → s.store.live < cells_allowed → LiveKnown N.Number cells_allowed s.store
      → LiveKnown N.Number cells_allowed (with_live_cell l w f s).store
  unfolding with_live_cell
  more_known s l w f room h =
      record {
        cells = written_known _ _ s.store.live l w f h.alive room h.cells;
        alive = omega (arith, written_length s.store.cells s.store.live (new_cell l w f) h.alive);
      }

  more_stays : (s : State LiveCells) (l w f : ℕ) → s.store.live < cells_allowed → LiveKnown N.Number cells_allowed s.store
      → StaysKnown s.store (with_live_cell l w f s).store
  unfolding with_live_cell
  more_stays s l w f room h =
      record { grown = omega (arith, written_length s.store.cells s.store.live (new_cell l w f) h.alive); known = more_known s l w f room }

  -- what a call leaves
  closed_stays : {m n : LiveCells} (e : Ending ℕ) → StaysKnown m n → StaysKnown m (closing m e n)
  unfolding closing
  closed_stays {m} {n} e s =
      record {
        grown = s.grown;
        known = λ h.
            let g = s.known h in
            record { cells = g.cells; alive = live_after_law e (suc m.live) n.oldest m.live n.live (length n.cells) (omega (arith, h.alive, s.grown)) g.alive };
      }

  closed_known : (m : LiveCells) {n : LiveCells} (k w : ℕ) → LiveKnown N.Number cells_allowed n → LiveKnown N.Number cells_allowed (closing m (value (constructor k w)) n)
  unfolding closing live_after
  closed_known m k w h = record { cells = h.cells; alive = h.alive }

  cells_stay_known : LiveKept known cells_allowed
  cells_stay_known =
      record {
        built_onward = λ g h. g.known h;
        actual_at = λ e h q f. h;
        recalled_proper = λ {c = c} {x} {v} i h q f. used_proper h (h.cells.among c i x v q f);
        remembers = λ s w i p. value_stays s w i (proper_among p);
        grows = λ {l = l} {f} {w} s e h room. more_stays s l w f room h;
        body_at = λ {l = l} {f} {w} s e h room. more_known s l w f room h;
        closes = λ e h g. closed_stays e g;
        built_closed = λ {m} {j} {c} h g q. closed_known m j c q;
      }

  no_cells_known : LiveKnown N.Number cells_allowed no_live_cells
  no_cells_known = record { cells = none_known _ _; alive = omega arith }

  rule_keeps : (steps nesting : ℕ) → Kept known (record { left = steps; store = no_live_cells }) (rule_end b rs steps nesting cells_allowed)
  unfolding rule_end live_evaluation
  rule_keeps steps nesting = (live_keep known cells_allowed cells_stay_known nesting).keeps (body_of Translation b 0) 0 _ no_cells_known

  outcome_known : {m : LiveCells} {e : Ending ℕ} → Proper known m e → (is_answer (ending_outcome b e).outcome || is_stop (ending_outcome b e).outcome) ≡ true
  unfolding ending_outcome number_outcome constructor_outcome end_outcome is_answer
  outcome_known (an_integer z) = refl
  outcome_known (a_constructor t) = refl
  outcome_known (an_end {n} h) = known_by n (is_fault n) (is_stop n) refl refl h

  -- an end that is no value is no number's
  end_nonzero : {m : LiveCells} {e : Ending ℕ} → Proper known m e → (n : ℕ) → e ≡ ended n → ¬ (n ≡ is_number)
  unfolding is_fault is_stop within
  end_nonzero (an_integer z) n e = absurd (ended_no_value e)
  end_nonzero (a_constructor t) n e = absurd (ended_no_value e)
  end_nonzero (an_end {n = k} h) n e = λ z. let s : k ≡ n = cc e in true≢false (sym h ∙ rw (s, z) refl)

  value_among : N.Number (pos 0) → {m : LiveCells} {e : Ending ℕ} → Proper known m e → N.Number (ending_outcome b e).value
  unfolding ending_outcome number_outcome constructor_outcome end_outcome
  value_among h (an_integer n) = n
  value_among h (a_constructor {k} {c} t) = N.tags k
  value_among h (an_end n) = h

  pub rule_value : (steps nesting : ℕ) → N.Number (pos 0) → N.Number (ending_outcome b (rule_end b rs steps nesting cells_allowed).ending).value
  rule_value steps nesting h = value_among h (rule_keeps steps nesting).proper

module _ (b : List ℕ) (rs : List ℤ) (cells_allowed steps nesting : ℕ) where
  pub rule_known : (is_answer (ending_outcome b (rule_end b rs steps nesting cells_allowed).ending).outcome
      || is_stop (ending_outcome b (rule_end b rs steps nesting cells_allowed).ending).outcome) ≡ true
  rule_known = outcome_known b rs cells_allowed (any_numbers b rs) (rule_keeps b rs cells_allowed (any_numbers b rs) steps nesting).proper

  pub rule_end_nonzero : (n : ℕ) → (rule_end b rs steps nesting cells_allowed).ending ≡ ended n → ¬ (n ≡ is_number)
  rule_end_nonzero = end_nonzero b rs cells_allowed (any_numbers b rs) (rule_keeps b rs cells_allowed (any_numbers b rs) steps nesting).proper

  cells_known : LiveKnown (any_numbers b rs).Number cells_allowed (rule_end b rs steps nesting cells_allowed).state.store
  cells_known = (rule_keeps b rs cells_allowed (any_numbers b rs) steps nesting).becomes.known (no_cells_known b rs cells_allowed (any_numbers b rs))

  pub rule_cells_allowed : length (rule_end b rs steps nesting cells_allowed).state.store.cells ≤ cells_allowed
  rule_cells_allowed = cells_known.cells.room

  pub rule_cells_full : FullCells (rule_end b rs steps nesting cells_allowed).state.store.cells
  rule_cells_full = cells_known.cells.full
