-- The entry of a visit to an actual is filled when its cell remembers a value at its position: it stays so, and becomes so.
use mathlib.Core.Path.{◌≡◌, refl, ap, ◌∙◌}
use Prim.Native.Nat.{ℕ, suc, ◌<◌}
use mathlib.Core.List.{List, ◌∷◌, [], ◌++◌}
use mathlib.Core.Option.{none, some}
use native.Mathlib.Decide.{ℕ_discrete}
use lib.ListN.{get_elem?, get_or, set}
use lib.Seq.{get_or-set_same, get_or-set_other}
use Rattle.definitions.specs.Sizes.{most_fields}
use Rattle.definitions.specs.Rule.{Value}
use Rattle.definitions.specs.Cells.{Cell, entry_at, with_entry, changed, with_value}
use Rattle.laws.proofs.CellBytes.{FullCells}
use Rattle.accepted.proofs.Elements.{element_below, element_front}
use Rattle.cell_rules.proofs.Changes.{changed_there, changed_other}
use Rattle.given_back.specs.SerialCells.{ActualVisit}

pub record Filled (cs : List Cell) (z : ActualVisit) : Type 0 where
  pub place : ℕ
  pub counts : z.serial ≡ suc place
  pub cell : Cell
  pub there : get_elem? cs place ≡ some cell
  pub value : Value ℕ
  pub is : entry_at cell z.position ≡ some value

pub filled_added : {cs : List Cell} {z : ActualVisit} (x : Cell) → Filled cs z → Filled (cs ++ (x ∷ [])) z
filled_added {cs} x f =
    record {
      place = f.place;
      counts = f.counts;
      cell = f.cell;
      there = element_front cs (x ∷ []) f.place (element_below cs f.place f.there) ∙ f.there;
      value = f.value;
      is = f.is;
    }

-- a value more, in cell d at position i
module _ {cs : List Cell} (full : FullCells cs) (d i : ℕ) (v : Value ℕ) (below : i < most_fields) where
  entry_stays : (x : Cell) (j : ℕ) {u : Value ℕ} → get_elem? cs d ≡ some x → entry_at x j ≡ some u → (w : Value ℕ) × (entry_at (with_entry i v x) j ≡ some w)
  unfolding entry_at with_entry
  entry_stays x j {u} e h = by (ℕ_discrete j i)
    where
      by : Dec (j ≡ i) → (w : Value ℕ) × (get_or (set x.entries i (some v)) j none ≡ some w)
      by (yes q) = (v, ap (λ (k : ℕ). get_or (set x.entries i (some v)) k none) q ∙ get_or-set_same x.entries i (some v) none (rw (full.each d x e) below))
      by (no n) = (u, get_or-set_other x.entries i j (some v) none n ∙ h)

  pub filled_value : {z : ActualVisit} → Filled cs z → Filled (with_value (suc d) i v cs) z
  unfolding with_value
  filled_value {z} f = by (ℕ_discrete f.place d)
    where
      by : Dec (f.place ≡ d) → Filled (changed (with_entry i v) cs d) z
      by (yes q) =
          let e : get_elem? cs d ≡ some f.cell = rw q at f.there in
          let s = entry_stays f.cell z.position e f.is in
          record { place = d; counts = f.counts ∙ ap suc q; cell = with_entry i v f.cell; there = changed_there (with_entry i v) cs d e; value = s.0; is = s.1 }
      by (no n) =
          record { place = f.place; counts = f.counts; cell = f.cell; there = changed_other (with_entry i v) cs d f.place n ∙ f.there; value = f.value; is = f.is }

  pub filled_there : (x : Cell) → get_elem? cs d ≡ some x → Filled (with_value (suc d) i v cs) (record { serial = suc d; position = i })
  unfolding with_value with_entry entry_at
  filled_there x e =
      record {
        place = d;
        counts = refl;
        cell = with_entry i v x;
        there = changed_there (with_entry i v) cs d e;
        value = v;
        is = get_or-set_same x.entries i (some v) none (rw (full.each d x e) below);
      }
