-- What joins the rule over all cells made with the rule that gives no cell back: worlds of the same cells, and that one of the two has no
-- cell left.
use mathlib.Core.Path.{◌≡◌}
use Prim.Native.Nat.{ℕ, suc, ◌+◌, ◌≤◌, ◌<◌, min, max}
use mathlib.Core.List.{List, [], ◌∷◌, ◌++◌}
use native.Mathlib.Omega.{arith}
use lib.IntN.{ℤ}
use lib.ListN.{length}
use Rattle.definitions.specs.Numbers.{no_cell}
use Rattle.definitions.specs.Rule.{Value, Ending, ended, State, Reached, reach, number_due, constructor_due}
use Rattle.definitions.specs.Cells.{Cell, new_cell, with_value}
use Rattle.definitions.specs.LiveCells.{older, live_after}
use Rattle.laws.proofs.LiveAfter.{live_after_law}
use Rattle.laws.proofs.Cells.{added_length, value_length}
use Rattle.rule_laws.specs.Reads.{state_of}
use Rattle.rule_laws.specs.SideBySide.{SideBySide}
use Rattle.rule_laws.specs.SameNodes.{Same, SameCall}
use Rattle.given_back.specs.SerialCells.{SerialCells}

-- cells, with an account of which no more are alive than were made
pub record World : Type 0 where
  pub left : ℕ
  pub store : SerialCells
  pub live : store.account.live ≤ length store.cells

abbrev pub here : World → State SerialCells
here w = state_of w.left w.store

abbrev pub there : World → State (List Cell)
there w = state_of w.left w.store.cells

-- cells are made, each in a step
pub record Leads (w v : World) : Type 0 where
  pub grown : length w.store.cells ≤ length v.store.cells
  pub steps : length v.store.cells + v.left ≤ length w.store.cells + w.left

-- a step of each is counted, and a cell may be made in it
pub record Steps (w v : World) : Type 0 where
  pub grown : length w.store.cells ≤ length v.store.cells
  pub steps : suc (length v.store.cells + v.left) ≤ length w.store.cells + w.left

-- the first is full, with fewer cells allowed; the second is full
pub data Full (cells_allowed cells_allowed' : ℕ) (w : World) : Ending ℕ → Ending ℕ → Type 0 where
  first_full : {y : Ending ℕ} → cells_allowed < cells_allowed' → Full cells_allowed cells_allowed' w (ended no_cell) y
  second_full : {x : Ending ℕ} → cells_allowed' ≤ length w.store.cells + w.left → Full cells_allowed cells_allowed' w x (ended no_cell)

module _ {cells_allowed cells_allowed' : ℕ} where
  pub full_back : {w v : World} {x y : Ending ℕ} → Leads w v → Full cells_allowed cells_allowed' v x y → Full cells_allowed cells_allowed' w x y
  full_back l (first_full h) = first_full h
  full_back {w} l (second_full h) = second_full (let g : cells_allowed' ≤ length w.store.cells + w.left = omega (arith, l.steps, h) in g)

  pub full_number : {w : World} {x y : Ending ℕ} (s : State SerialCells) (u : State (List Cell)) (go : ℤ → State SerialCells → Reached ℕ SerialCells)
      (go' : ℤ → State (List Cell) → Reached ℕ (List Cell)) → Full cells_allowed cells_allowed' w x y
      → Full cells_allowed cells_allowed' w (number_due x s go).ending (number_due y u go').ending
  unfolding number_due reach
  full_number s u go go' (first_full h) = first_full h
  full_number s u go go' (second_full h) = second_full h

  pub full_constructor : {w : World} {x y : Ending ℕ} (s : State SerialCells) (u : State (List Cell)) (go : ℕ → ℕ → State SerialCells → Reached ℕ SerialCells)
      (go' : ℕ → ℕ → State (List Cell) → Reached ℕ (List Cell)) → Full cells_allowed cells_allowed' w x y
      → Full cells_allowed cells_allowed' w (constructor_due x s go).ending (constructor_due y u go').ending
  unfolding constructor_due reach
  full_constructor s u go go' (first_full h) = first_full h
  full_constructor s u go go' (second_full h) = second_full h

abbrev pub same_cells : ℕ → ℕ → SideBySide ℕ SerialCells ℕ (List Cell)
same_cells cells_allowed cells_allowed' =
    record {
      World = World;
      here = here;
      there = there;
      Leads = Leads;
      stays = λ w. record { grown = omega arith; steps = omega arith };
      onward = λ p q. record { grown = omega (arith, p.grown, q.grown); steps = omega (arith, p.steps, q.steps) };
      Steps = Steps;
      steps_lead = λ s. record { grown = s.grown; steps = omega (arith, s.steps) };
      At = λ w k m c d. Same k c m d;
      at_onward = λ l h. h;
      Built = λ w k m c d. Same k c m d;
      AtFormal = λ w p q c d. Same p c q d;
      AtCall = λ w l f l' f' c d. SameCall l f c l' f' d;
      Nested = λ n m. n ≡ m;
      Cut = λ w r q. Full cells_allowed cells_allowed' w r.ending q.ending;
      cut_back = full_back;
      cut_number = λ {w} {r} {q} go go' h. full_number r.state q.state go go' h;
      cut_constructor = λ {w} {r} {q} go go' h. full_constructor r.state q.state go go' h;
    }

-- worlds that these lead to: with a value remembered, with a visit to an actual listed, with a cell more, and after a call, by what was kept before it
abbrev pub with_memory : World → ℕ → ℕ → Value ℕ → World
with_memory w c i v =
    let m = w.store in
    let a = m.account in
    record {
      left = w.left;
      store = record { cells = with_value c i v m.cells; account = record { live = a.live; most = a.most; oldest = older v c a.oldest }; visits = m.visits };
      live = rw (value_length c i v m.cells) w.live;
    }

abbrev pub with_visit : World → ℕ → ℕ → World
with_visit w c i =
    let m = w.store in
    record { left = w.left; store = record { cells = m.cells; account = m.account; visits = record { serial = c; position = i } ∷ m.visits }; live = w.live }

abbrev pub with_one_more : World → ℕ → ℕ → ℕ → World
with_one_more w l c f =
    let m = w.store in
    let a = m.account in
    let n = suc (length m.cells) in
    record {
      left = w.left;
      store = record { cells = m.cells ++ (new_cell l c f ∷ []); account = record { live = suc a.live; most = max a.most (suc a.live); oldest = n }; visits = m.visits };
      live = rw (added_length m.cells (new_cell l c f)) (omega (arith, w.live));
    }

abbrev pub after_call : (w v : World) → length w.store.cells ≤ length v.store.cells → Ending ℕ → World
after_call w v grown e =
    let m = v.store in
    let b = w.store.account in
    let a = m.account in
    let own = suc (length w.store.cells) in
    record {
      left = v.left;
      store = record {
        cells = m.cells;
        account = record { live = live_after e own a.oldest b.live a.live; most = a.most; oldest = min b.oldest a.oldest };
        visits = m.visits;
      };
      live = live_after_law e own a.oldest b.live a.live (length m.cells) (omega (arith, w.live, grown)) v.live;
    }
