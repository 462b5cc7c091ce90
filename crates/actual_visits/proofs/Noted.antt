-- The visit to the actual of a formal that its own cell does not remember is listed before it begins: what that and the actual's visit
-- do to the list together.
use mathlib.Core.Path.{◌≡◌, refl, sym, ap, ◌∙◌}
use Prim.Native.Nat.{ℕ, suc, ◌<◌}
use mathlib.Core.List.Memᴰ
use mathlib.Core.List.{List, [], ◌∷◌, ◌++◌, append_assoc, append_cancel_right, Memᴰ}
use mathlib.Core.Option.{none, some, none-ne-some}
use mathlib.Core.Bool.{Bool, true}
use native.Mathlib.Omega.{arith}
use lib.ListN.{length, get_elem?}
use Rattle.definitions.specs.Sizes.{most_fields}
use Rattle.definitions.specs.Labels.{Labelling}
use Rattle.definitions.specs.FormalPlaces.{position_of}
use Rattle.definitions.specs.Checks.{sheet_verdict}
use Rattle.definitions.specs.TranslationNodes.{formal, translation_node_of}
use Rattle.definitions.specs.Rule.{State}
use Rattle.definitions.specs.Cells.{Cell, entry_at}
use Rattle.definitions.specs.Verdict.{Accepted}
use Rattle.accepted.proofs.Elements.{element_below}
use Rattle.given_back.specs.SerialCells.{ActualVisit, SerialCells, listing_serial}
use Rattle.shared_runs.specs.Reads.{Reads}
use Rattle.actual_visits.proofs.Avoiding.{Avoids}
use Rattle.actual_visits.proofs.Placed.{formal_position_below}
use Rattle.actual_visits.proofs.Filled.{Filled}
use Rattle.actual_visits.proofs.DistinctLists.{each_append, each_one, distinct_one, distinct_append, Inside, inside_more}
use Rattle.actual_visits.proofs.Once.{Goes, goes_then, Went, AtNode}

module _ {same : Labelling} {b t : List ℕ} (accepted : sheet_verdict b ≡ Accepted) (reads : Reads same b t) (k p d : ℕ) (x : Cell) (s : State SerialCells)
    (is : translation_node_of t k ≡ formal p) (at : AtNode same b s.store.cells k (suc d)) (there : get_elem? s.store.cells d ≡ some x)
    (empty : entry_at x (position_of t p) ≡ none) where
  abbrev pub noted : SerialCells
  noted = (listing_serial (suc d) (position_of t p) s).store

  abbrev pub note : ActualVisit
  note = record { serial = suc d; position = position_of t p }

  made : d < length s.store.cells
  made = element_below s.store.cells d there

  below : position_of t p < most_fields
  below = formal_position_below accepted reads is at.placed

  -- the note's entry is not filled before its actual is visited
  note_unfilled : ¬ (Filled s.store.cells note)
  note_unfilled f =
      let e : f.place ≡ d = omega (arith, f.counts) in
      let c : f.cell ≡ x = (let m = sym f.there ∙ ap (get_elem? s.store.cells) e ∙ there in cc) in
      none-ne-some _ (sym empty ∙ ap (λ (y : Cell). entry_at y (position_of t p)) (sym c) ∙ f.is)

  -- the actual's visit, and what comes of its end
  module _ {y : Bool} {q : SerialCells} (q' : SerialCells) (w : Went same b y noted q) (v : Avoids (suc d) noted q)
      (f : Goes same b q.cells q'.cells) (e : q'.visits ≡ q.visits) (held : y ≡ true → Filled q'.cells note) where
    all : Goes same b s.store.cells q'.cells
    unfolding listing_serial
    all = goes_then same b w.goes f

    not_again : (z : ActualVisit) → Memᴰ z w.new → ¬ (Memᴰ z (note ∷ []))
    not_again z i o =
        let l : w.new ≡ v.new = append_cancel_right w.new v.new noted.visits (sym w.listed ∙ v.listed) in
        v.others z (rw l at i) (ap (λ (u : ActualVisit). u.serial) (Memᴰ.eq_of_singleton o))

    note_inside : Inside (length q'.cells) note
    note_inside = record { place = d; counts = refl; made = omega (arith, made, all.grown); below = below }

    pub noted_went : Went same b y s.store q'
    unfolding listing_serial
    noted_went =
        record {
          goes = all;
          new = w.new ++ (note ∷ []);
          listed = e ∙ w.listed ∙ sym (append_assoc w.new (note ∷ []) s.store.visits);
          distinct = distinct_append w.new w.distinct (distinct_one note) not_again;
          unfilled = each_append (λ z. ¬ (Filled s.store.cells z)) w.new w.unfilled (each_one _ note_unfilled);
          inside = each_append (Inside (length q'.cells)) w.new (λ z i. inside_more f.grown (w.inside z i)) (each_one _ note_inside);
          filled = λ h. each_append (Filled q'.cells) w.new (λ z i. f.keeps z (w.filled h z i)) (each_one _ (held h));
        }
