-- Laws of the runs of a search: one value tried, and the loop over the values.
use mathlib.Core.Path.{◌≡◌, refl, sym, ◌∙◌}
use Prim.Native.Nat.{ℕ, suc, ◌+◌, ◌-◌, ◌≤◌, ◌<◌}
use mathlib.Core.List.{List}
use mathlib.Core.Bool.{Bool, true, false, true≢false}
use native.Mathlib.Omega.{arith}
use native.Mathlib.Decide.{dec_lt}
use native.Mathlib.Numerals.{add-one}
use lib.IntN.{ℤ}
use lib.ListN.{length, set, length-set}
use lib.Seq.{set-set}
use borrow.Author.Tests.{le-ltb, lt-ltb}
use denote.MutBor.{MutBor}
use mir.Syntax.{w32}
use mir.Val.{SFits}
use Rattle.definitions.specs.Sizes.{most_values}
use Rattle.definitions.specs.Layouts.{readings}
use Rattle.definitions.specs.Run.{rule_cells}
use Rattle.definitions.specs.RunsInTurn.{cells_in_turn}
use Rattle.definitions.specs.ReadingSearch.{Query, value_at, value_count, readings_tried, ends_in, run_finds, first_finding, searched_by, runs_made}
use Rattle.definitions.specs.Searched.{Found, NoValue}
use Rattle.laws.proofs.Lists.{below_suc}
use Rattle.laws.proofs.FirstPassing.{First, first_found}
use Rattle.run.specs.declared.state.State.{State}
use Rattle.run.specs.States.{ending_of}
use Rattle.run.specs.NodeTable.{reading_set, readings_held, Readable}
use Rattle.run.specs.Promise.{RunsHeld}
use Rattle.run.proofs.ReadingEntries.{one_readable, one_held}
use Rattle.runs_in_turn.proofs.InTurn.{turn_kept, turn_cells}
use Rattle.reading_search.specs.Search.{Triable, Tried, SearchFits, Searches}
use Rattle.reading_search.proofs.Levels.{value_size}

-- one value tried
pub tried : {b tab : List ℕ} {position : ℕ} {z wanted : ℤ} {steps nesting cells_allowed : ℕ} {before tab' after : List ℕ} {end : State} {r : Bool}
    → Triable b tab position nesting cells_allowed before → SFits w32 z → tab' ≡ reading_set tab position z
    → RunsHeld b tab' steps nesting cells_allowed before end after → r ≡ ends_in wanted (ending_of end.outcome)
    → Tried b tab position z wanted steps nesting cells_allowed before r tab' after
unfolding rule_cells
tried {b} {tab} {position} {z = z} {tab' = tab'} t f et run er =
    let held : readings_held b tab' ≡ set (readings_held b tab) position z = rw et (one_held position z t.readable t.there f) in
    record {
      readable = rw et (one_readable position z t.readable);
      held = held;
      found = er ∙ rw (run.ends.ending, held) refl;
      cells = run.ends.bytes ∙ rw held refl;
    }

tried_length : (rs : List ℤ) (q : Query) (i : ℕ) → length (readings_tried rs q i) ≡ length rs
unfolding readings_tried
tried_length rs q i = length-set rs q.position (value_at q.lowest i)

-- the number of the value that is next, where some of all values are left
pub next_value : {all left count : ℕ} → left ≤ all → 0 < left → count ≡ all → (count - 1 - (left - 1) ≡ all - left) × (all - left < all)
next_value within more e = (omega (arith, within, more, e), omega (arith, within, more))

-- the loop over the values, with the first i tried
pub record Searching (b tab : List ℕ) (rs : List ℤ) (q : Query) (steps nesting cells_allowed : ℕ) (cells₀ cells : MutBor (List ℕ)) (i : ℕ) : Type 0 where
  pub reached : i ≤ value_count q.lowest q.highest
  pub readable : Readable b tab
  pub fits : SearchFits b rs q nesting cells_allowed (length cells₀.now)
  pub others : (z : ℤ) → set (readings_held b tab) q.position z ≡ set rs q.position z
  pub ran : cells.now ≡ cells_in_turn b (readings_tried rs q) steps nesting cells_allowed i cells₀.now
  pub unfound : (j : ℕ) → j < i → run_finds b rs q steps nesting cells_allowed j ≡ false
  pub stays : cells.ref_ptr ≡ cells₀.ref_ptr

module _ {b : List ℕ} {rs : List ℤ} {q : Query} {steps nesting cells_allowed : ℕ} {cells₀ : MutBor (List ℕ)} where
  -- with all values left
  pub searching_begins : {tab : List ℕ} {count : ℕ} → SearchFits b rs q nesting cells_allowed (length cells₀.now) → Readable b tab → readings_held b tab ≡ rs
      → count ≡ value_count q.lowest q.highest
      → (count ≤ value_count q.lowest q.highest) × Searching b tab rs q steps nesting cells_allowed cells₀ cells₀ (value_count q.lowest q.highest - count)
  unfolding cells_in_turn
  searching_begins fits readable held e =
      let none : value_count q.lowest q.highest - value_count q.lowest q.highest ≡ 0 = omega arith in (
        omega (arith, e),
        record {
          reached = omega arith;
          readable = readable;
          fits = fits;
          others = λ z. rw held refl;
          ran = rw (e, none) refl;
          unfound = λ j h. absurd (omega (arith, h, e));
          stays = refl;
        },
      )

  -- one value fewer is left
  pub more_values : {tab : List ℕ} {cells : MutBor (List ℕ)} {left : ℕ} → left ≤ value_count q.lowest q.highest → 0 < left
      → Searching b tab rs q steps nesting cells_allowed cells₀ cells (value_count q.lowest q.highest - left + 1)
      → (left - 1 ≤ value_count q.lowest q.highest) × Searching b tab rs q steps nesting cells_allowed cells₀ cells (value_count q.lowest q.highest - (left - 1))
  more_values {left = left} within more w =
      let one : value_count q.lowest q.highest - (left - 1) ≡ value_count q.lowest q.highest - left + 1 = omega (arith, within, more) in
      (omega (arith, within), rw one w)

  module _ {tab : List ℕ} {cells : MutBor (List ℕ)} {i : ℕ} (w : Searching b tab rs q steps nesting cells_allowed cells₀ cells i) where
    abbrev count : ℕ
    count = value_count q.lowest q.highest

    pub triable : Triable b tab q.position nesting cells_allowed cells.now
    triable =
        record {
          readable = w.readable;
          there = w.fits.there;
          fit = rw (w.ran, turn_kept b (readings_tried rs q) steps nesting cells_allowed cells₀.now i) w.fits.fit;
        }

    -- the value of the next run is one of the range
    pub value_fits : SFits w32 q.lowest → SFits w32 q.highest → i < count → {n : ℕ} → n ≡ i → (n ≤ most_values) × SFits w32 (value_at q.lowest n)
    value_fits f g inside e =
        rw e (omega (arith, inside, w.fits.few), record { sfits = value_size 2147483648 q.lowest q.highest f.sfits g.sfits i inside })

    module _ {z : ℤ} (inside : i < count) (value : z ≡ value_at q.lowest i) {r : Bool} {tab' after : List ℕ}
        (t : Tried b tab q.position z q.wanted steps nesting cells_allowed cells.now r tab' after) where
      tried_is : set (readings_held b tab) q.position z ≡ readings_tried rs q i
      unfolding readings_tried
      tried_is = w.others z ∙ rw value refl

      finds : r ≡ run_finds b rs q steps nesting cells_allowed i
      unfolding run_finds
      finds = t.found ∙ rw tried_is refl

      one_more : after ≡ cells_in_turn b (readings_tried rs q) steps nesting cells_allowed (suc i) cells₀.now
      one_more =
          let asked : length (readings_tried rs q i) ≡ readings b = tried_length rs q i ∙ w.fits.given in
          t.cells ∙ rw (tried_is, w.ran) refl
          ∙ sym (turn_cells b (readings_tried rs q) steps nesting cells_allowed cells₀.now w.readable.accepted w.fits.fit i asked)

      -- it is the one that is looked for
      pub value_found : r ≡ true → Searches b rs q steps nesting cells_allowed cells₀.now (Found z) after
      unfolding first_finding searched_by runs_made
      value_found h =
          let first : First count (run_finds b rs q steps nesting cells_allowed) i =
          record {
            limit = omega (arith, inside);
            passes = λ l. sym finds ∙ h;
            least = λ j l e. elim (dec_lt j i) [ yes k ↦ absurd (true≢false (sym e ∙ w.unfound j k)) | no k ↦ omega (arith, k) ];
          } in
          let e = first_found first in
          record {
            answer = rw (← e, lt-ltb i count inside, value) refl;
            cells = one_more ∙ rw (← e, lt-ltb i count inside) refl;
          }

      -- or the search goes on
      pub searching_goes_on : {cells' : MutBor (List ℕ)} → r ≡ false → cells'.now ≡ after → cells'.ref_ptr ≡ cells.ref_ptr
          → Searching b tab' rs q steps nesting cells_allowed cells₀ cells' (i + 1)
      searching_goes_on h e s =
          record {
            reached = omega (arith, inside);
            readable = t.readable;
            fits = w.fits;
            others = λ y. rw t.held (set-set (readings_held b tab) q.position z y ∙ w.others y);
            ran = rw (add-one i) (e ∙ one_more);
            unfound = λ j l. below_suc (λ m. run_finds b rs q steps nesting cells_allowed m ≡ false) i w.unfound (sym finds ∙ h) j (rw (add-one i) at l);
            stays = s ∙ w.stays;
          }

    -- no value was found
    pub none_found : count ≤ i → Searches b rs q steps nesting cells_allowed cells₀.now NoValue cells.now
    unfolding first_finding searched_by runs_made
    none_found h =
        let all : i ≡ count = omega (arith, h, w.reached) in
        let first : First count (run_finds b rs q steps nesting cells_allowed) count =
        record {
          limit = omega arith;
          passes = λ l. absurd (omega (arith, l));
          least = λ j l e. absurd (true≢false (sym e ∙ w.unfound j (rw all l)));
        } in
        let e = first_found first in
        let past = le-ltb count count (omega arith) in
        record { answer = rw (← e, past) refl; cells = w.ran ∙ rw (all, ← e, past) refl }
