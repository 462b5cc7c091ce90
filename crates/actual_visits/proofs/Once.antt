-- What a visit of a translated sheet does to the list: the visits to actuals that it lists are of entries that were not filled, none
-- twice, and where it ends with a value they are filled then.
use mathlib.Core.Path.{◌≡◌, refl, sym, ap, ◌∙◌}
use Prim.Native.Nat.{ℕ, suc, ◌≤◌, ◌<◌}
use mathlib.Core.List.Memᴰ
use mathlib.Core.List.{List, [], ◌∷◌, ◌++◌, append_assoc, Memᴰ}
use mathlib.Core.Option.{none-ne-some}
use mathlib.Core.Bool.{Bool, true}
use native.Mathlib.Omega.{arith}
use native.Mathlib.Nat.{le_refl, le_trans}
use lib.ListN.{length}
use Rattle.definitions.specs.Sizes.{most_fields}
use Rattle.definitions.specs.Labels.{Labelling}
use Rattle.definitions.specs.Rule.{Value, constructor}
use Rattle.definitions.specs.Cells.{Cell, new_cell, with_value}
use Rattle.laws.proofs.Cells.{added_length, value_length}
use Rattle.laws.proofs.CellBytes.{FullCells, none_full, full_added, full_value}
use Rattle.cell_rules.specs.Contexts.{cell_heads, Kept}
use Rattle.cell_rules.proofs.Contexts.{kept_all_law, kept_then, kept_added}
use Rattle.cell_rules.proofs.Changes.{value_kept}
use Rattle.given_back.specs.SerialCells.{ActualVisit, Account, SerialCells}
use Rattle.actual_visits.specs.Distinct.{Distinct, nothing}
use Rattle.actual_visits.proofs.Remembered.{Remembered, remembered_none, remembered_added, remembered_value}
use Rattle.actual_visits.proofs.Leads.{ValueLeads, Contained, Acyclic, acyclic_added, acyclic_value, contained_none, contained_added, contained_value}
use Rattle.actual_visits.proofs.SerialsKept.{with_account}
use Rattle.actual_visits.proofs.Placed.{Placed, BuiltPlaced, placed_kept, built_kept}
use Rattle.actual_visits.proofs.Filled.{Filled, filled_added, filled_value}
use Rattle.actual_visits.proofs.DistinctLists.{each_append, distinct_append, Inside, inside_more}

module _ (same : Labelling) (b : List ℕ) where
  -- cells as a run makes them: none leads to itself, each has its eight entries, and the constructors that they remember are placed
  pub record Good (cs : List Cell) : Type 0 where
    pub contained : Contained cs
    pub acyclic : Acyclic cs
    pub full : FullCells cs
    pub built : Remembered (BuiltPlaced same b cs) cs

  pub good_none : Good []
  good_none =
      record {
        contained = contained_none;
        acyclic = record { apart = λ c x e. absurd (none-ne-some _ e) };
        full = none_full;
        built = remembered_none (BuiltPlaced same b []);
      }

  -- cells that go on from others: they stay as a run makes them, and filled entries stay filled
  pub record Goes (cs ds : List Cell) : Type 0 where
    pub kept : Kept cell_heads cs ds
    pub grown : length cs ≤ length ds
    pub good : Good cs → Good ds
    pub keeps : (z : ActualVisit) → Filled cs z → Filled ds z

  pub goes_here : (cs : List Cell) → Goes cs cs
  goes_here cs = record { kept = kept_all_law cs; grown = le_refl (length cs); good = λ g. g; keeps = λ z f. f }

  pub goes_then : {cs ds es : List Cell} → Goes cs ds → Goes ds es → Goes cs es
  goes_then f g =
      record { kept = kept_then f.kept g.kept; grown = le_trans f.grown g.grown; good = λ o. g.good (f.good o); keeps = λ z h. g.keeps z (f.keeps z h) }

  -- a cell more
  pub called_goes : (label w f : ℕ) (cs : List Cell) → w ≤ length cs → Goes cs (cs ++ (new_cell label w f ∷ []))
  called_goes label w f cs h =
      let x = new_cell label w f in
      let kept : Kept cell_heads cs (cs ++ (x ∷ [])) = kept_added cs x in
      record {
        kept = kept;
        grown = omega (arith, added_length cs x);
        good = λ g. record {
          contained = contained_added g.contained label w f h;
          acyclic = acyclic_added g.contained label w f h g.acyclic;
          full = full_added label w f g.full;
          built = remembered_added (BuiltPlaced same b cs) (BuiltPlaced same b (cs ++ (x ∷ []))) (λ k u. built_kept same b kept) cs g.built label w f;
        };
        keeps = λ z f. filled_added x f;
      }

  -- a value more, which does not lead to the cell that remembers it
  pub value_goes : (d i : ℕ) (v : Value ℕ) {cs : List Cell} → i < most_fields → FullCells cs → ¬ (ValueLeads cs (suc d) v)
      → ((k u : ℕ) → v ≡ constructor k u → BuiltPlaced same b cs k u × (u ≤ length cs))
      → Goes cs (with_value (suc d) i v cs)
  unfolding with_value
  value_goes d i v {cs} below full apart h =
      let kept : Kept cell_heads cs (with_value (suc d) i v cs) = value_kept (suc d) i v cs in
      record {
        kept = kept;
        grown = omega (arith, value_length (suc d) i v cs);
        good = λ g. record {
          contained = contained_value g.contained d i v (λ k u e. (h k u e).1);
          acyclic = acyclic_value cs d i v g.acyclic apart;
          full = full_value (suc d) i v g.full;
          built = remembered_value (BuiltPlaced same b cs) (BuiltPlaced same b (with_value (suc d) i v cs)) (λ k u. built_kept same b kept) cs g.built d i v
              (λ k u q. built_kept same b kept (h k u q).0);
        };
        keeps = λ z f. filled_value full d i v below f;
      }

  -- what a visit does, which ends with a value or not
  pub record Went (x : Bool) (m n : SerialCells) : Type 0 where
    pub goes : Goes m.cells n.cells
    pub new : List ActualVisit
    pub listed : n.visits ≡ new ++ m.visits
    pub distinct : Distinct new
    pub unfilled : (z : ActualVisit) → Memᴰ z new → ¬ (Filled m.cells z)
    pub inside : (z : ActualVisit) → Memᴰ z new → Inside (length n.cells) z
    pub filled : x ≡ true → (z : ActualVisit) → Memᴰ z new → Filled n.cells z

  pub went_unlisted : {x : Bool} {m n : SerialCells} → Goes m.cells n.cells → n.visits ≡ m.visits → Went x m n
  went_unlisted f e =
      record {
        goes = f;
        new = [];
        listed = e;
        distinct = nothing;
        unfilled = λ z i. absurd (Memᴰ.not-nil i);
        inside = λ z i. absurd (Memᴰ.not-nil i);
        filled = λ e z i. absurd (Memᴰ.not-nil i);
      }

  pub went_onward : {x : Bool} {m n q : SerialCells} → Went true m n → Went x n q → Went x m q
  went_onward {x} {m} {n} {q} f g =
      record {
        goes = goes_then f.goes g.goes;
        new = g.new ++ f.new;
        listed = g.listed ∙ ap (λ zs. g.new ++ zs) f.listed ∙ sym (append_assoc g.new f.new m.visits);
        distinct = distinct_append g.new g.distinct f.distinct (λ z i j. g.unfilled z i (f.filled refl z j));
        unfilled = each_append (λ z. ¬ (Filled m.cells z)) g.new (λ z i h. g.unfilled z i (f.goes.keeps z h)) f.unfilled;
        inside = each_append (Inside (length q.cells)) g.new g.inside (λ z i. inside_more g.goes.grown (f.inside z i));
        filled = λ e. each_append (Filled q.cells) g.new (g.filled e) (λ z i. g.goes.keeps z (f.filled refl z i));
      }

  -- whatever the account
  pub went_with : {x : Bool} {m n : SerialCells} (a : Account) → Went x m n → Went x m (with_account a n)
  went_with a f =
      record { goes = f.goes; new = f.new; listed = f.listed; distinct = f.distinct; unfilled = f.unfilled; inside = f.inside; filled = f.filled }

  -- node k may be visited under context w, and a constructor built there
  pub record AtNode (cs : List Cell) (k w : ℕ) : Type 0 where
    pub good : Good cs
    pub cell : w ≤ length cs
    pub placed : Placed same b cs k w

  pub record BuiltAt (cs : List Cell) (k w : ℕ) : Type 0 where
    pub good : Good cs
    pub cell : w ≤ length cs
    pub built : BuiltPlaced same b cs k w

  module _ {cs ds : List Cell} {k w : ℕ} where
    pub at_onward : Goes cs ds → AtNode cs k w → AtNode ds k w
    at_onward f a = record { good = f.good a.good; cell = le_trans a.cell f.grown; placed = placed_kept same b f.kept a.placed }

    pub built_onward : Goes cs ds → BuiltAt cs k w → BuiltAt ds k w
    built_onward f a = record { good = f.good a.good; cell = le_trans a.cell f.grown; built = built_kept same b f.kept a.built }
