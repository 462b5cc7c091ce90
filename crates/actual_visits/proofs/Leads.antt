-- Where contexts lead to, along previous cells and along the constructors that cells remember: what a cell more and a value more change
-- of it. No cell of a run leads to itself.
use mathlib.Core.Path.{◌≡◌, refl, sym, ap, ◌∙◌, subst}
use mathlib.Core.Logic.{◌⊎◌, inl, inr, ⊎_map}
use Prim.Native.Nat.{ℕ, suc, ◌≤◌}
use mathlib.Core.List.{List, [], ◌∷◌, ◌++◌}
use mathlib.Core.Option.{some, none-ne-some}
use native.Mathlib.Omega.{arith}
use lib.ListN.{length, get_elem?, length-append}
use Rattle.definitions.specs.Rule.{Value, constructor}
use Rattle.definitions.specs.Cells.{Cell, new_cell, entry_at, with_entry, changed, with_value}
use Rattle.laws.proofs.Cells.{each_added, each_changed, each_entry, value_length, new_empty}
use Rattle.accepted.proofs.Elements.{element_front}
use Rattle.cell_rules.proofs.Contexts.{element_added}
use Rattle.actual_visits.proofs.Remembered.{Remembered, remembered_none, remembered_added, remembered_value}

-- to context c
pub data Leads (cs : List Cell) (c : ℕ) : ℕ → Type 0 where
  here : Leads cs c c
  back : {d p : ℕ} {x : Cell} → get_elem? cs d ≡ some x → x.previous ≡ p → Leads cs c p → Leads cs c (suc d)
  through : {d k u : ℕ} {x : Cell} (i : ℕ) → get_elem? cs d ≡ some x → entry_at x i ≡ some (constructor k u) → Leads cs c u → Leads cs c (suc d)

-- from the context of a constructor
pub data ValueLeads (cs : List Cell) (c : ℕ) : Value ℕ → Type 0 where
  from : {k u : ℕ} → Leads cs c u → ValueLeads cs c (constructor k u)

-- cells whose contexts are those of cells
pub record Contained (cs : List Cell) : Type 0 where
  pub previous : (c : ℕ) (x : Cell) → get_elem? cs c ≡ some x → x.previous ≤ length cs
  pub remembered : Remembered (λ k u. u ≤ length cs) cs

-- no cell's previous context leads back to it
pub record Acyclic (cs : List Cell) : Type 0 where
  pub apart : (c : ℕ) (x : Cell) → get_elem? cs c ≡ some x → ¬ (Leads cs (suc c) x.previous)

module _ {cs : List Cell} where
  leads_then : {c d w : ℕ} → Leads cs d w → Leads cs c d → Leads cs c w
  leads_then here g = g
  leads_then (back e q l) g = back e q (leads_then l g)
  leads_then (through i e q l) g = through i e q (leads_then l g)

  -- a cell more, which remembers nothing
  module _ (contained : Contained cs) where
    leads_below : {c w : ℕ} → Leads cs c w → w ≤ length cs → c ≤ length cs
    leads_below here h = h
    leads_below (back {d} {x} e q l) h = leads_below l (rw q at (contained.previous d x e))
    leads_below (through {d} {k} {u} {x} i e q l) h = leads_below l (contained.remembered d x e i k u q)

    pub leads_added : {c : ℕ} (x : Cell) {w : ℕ} → Leads (cs ++ (x ∷ [])) c w → w ≤ length cs → Leads cs c w
    leads_added x here h = here
    leads_added x (back {d} {x = y} e q l) h =
        let e' = sym (element_front cs (x ∷ []) d h) ∙ e in
        back e' q (leads_added x l (rw q at (contained.previous d y e')))
    leads_added x (through {d} {k} {u} {x = y} i e q l) h =
        let e' = sym (element_front cs (x ∷ []) d h) ∙ e in
        through i e' q (leads_added x l (contained.remembered d y e' i k u q))

    new_cell_law : (y : Cell) {d : ℕ} {x : Cell} → get_elem? (cs ++ (y ∷ [])) d ≡ some x → suc d ≡ suc (length cs) → y ≡ x
    new_cell_law y {d} e z =
        let n : length cs ≡ d = omega (arith, z) in
        let m = sym (element_added cs y) ∙ ap (get_elem? (cs ++ (y ∷ []))) n ∙ e in
        cc

    -- the new cell leads to itself and where its previous context leads
    pub leads_new : (label w f : ℕ) {c v : ℕ} → w ≤ length cs → Leads (cs ++ (new_cell label w f ∷ [])) c v → v ≡ suc (length cs) → (c ≡ suc (length cs)) ⊎ Leads cs c w
    unfolding new_cell
    leads_new label w f h here z = inl z
    leads_new label w f {c} h (back e q l) z =
        let y = new_cell label w f in
        let p = sym q ∙ ap (λ (x : Cell). x.previous) (sym (new_cell_law y e z)) in
        inr (leads_added y (subst (Leads (cs ++ (y ∷ [])) c) p l) h)
    leads_new label w f h (through j e q l) z =
        absurd (none-ne-some _ (sym (new_empty label w f j) ∙ ap (λ (x : Cell). entry_at x j) (new_cell_law (new_cell label w f) e z) ∙ q))

    pub acyclic_added : (label w f : ℕ) → w ≤ length cs → Acyclic cs → Acyclic (cs ++ (new_cell label w f ∷ []))
    unfolding new_cell
    acyclic_added label w f h a =
        record {
          apart = each_added (λ c y. ¬ (Leads (cs ++ (new_cell label w f ∷ [])) (suc c) y.previous)) cs (new_cell label w f)
              (λ c y e l. a.apart c y e (leads_added (new_cell label w f) l (contained.previous c y e)))
              (λ l. omega (arith, leads_below (leads_added (new_cell label w f) l h) h));
        }

-- a value more, in cell d at position i
module _ (cs : List Cell) (d i : ℕ) (v : Value ℕ) where
  -- what leads to c then did so before, or leads to cell d, and the value to c
  abbrev LedBefore : ℕ → ℕ → Type 0
  LedBefore c w = Leads cs c w ⊎ (Leads cs (suc d) w × ValueLeads cs c v)

  back_before : (e : ℕ) (y : Cell) → get_elem? (changed (with_entry i v) cs d) e ≡ some y → (p : ℕ) → y.previous ≡ p → (c : ℕ) → Leads cs c p → Leads cs c (suc e)
  unfolding with_entry
  back_before =
      each_changed (λ e y. (p : ℕ) → y.previous ≡ p → (c : ℕ) → Leads cs c p → Leads cs c (suc e)) (with_entry i v) cs d
      (λ e y h p q c l. back h q l) (λ x h p q c l. back h q l)

  -- an entry was there, or is the value
  abbrev Entered : ℕ → ℕ → ℕ → Type 0
  Entered e k u = ((c : ℕ) → Leads cs c u → Leads cs c (suc e)) ⊎ ((e ≡ d) × (v ≡ constructor k u))

  through_before : (e : ℕ) (y : Cell) → get_elem? (changed (with_entry i v) cs d) e ≡ some y → (j k u : ℕ) → entry_at y j ≡ some (constructor k u) → Entered e k u
  through_before =
      each_changed (λ e y. (j k u : ℕ) → entry_at y j ≡ some (constructor k u) → Entered e k u) (with_entry i v) cs d
      (λ e y h j k u q. inl (λ c l. through j h q l))
      (λ x h. each_entry (λ j o. (k u : ℕ) → o ≡ some (constructor k u) → Entered d k u) x i v
      (λ j k u q. inl (λ c l. through j h q l)) (λ k u q. inr (refl, cc)))

  by_entry : {c e k u : ℕ} → Entered e k u → LedBefore c u → LedBefore c (suc e)
  by_entry (inl f) (inl l) = inl (f _ l)
  by_entry (inl f) (inr g) = inr (f _ g.0, g.1)
  by_entry (inr q) (inl l) = inr (rw q.0 here, rw q.1 (from l))
  by_entry (inr q) (inr g) = inr (rw q.0 here, g.1)

  before : {c w : ℕ} → Leads (changed (with_entry i v) cs d) c w → LedBefore c w
  before here = inl here
  before (back {d = e} {p} {x = y} h q l) = ⊎_map (back_before e y h p q _) (λ g. (back_before e y h p q _ g.0, g.1)) (before l)
  before (through {d = e} {k} {u} {x = y} j h q l) = by_entry (through_before e y h j k u q) (before l)

  pub leads_value : {c w : ℕ} → Leads (with_value (suc d) i v cs) c w → LedBefore c w
  unfolding with_value
  leads_value l = before l

  -- where the value does not lead to the cell that remembers it
  apart_then : Acyclic cs → ¬ (ValueLeads cs (suc d) v) → (c : ℕ) (y : Cell) → get_elem? cs c ≡ some y → LedBefore (suc c) y.previous → ⊥
  apart_then a n c y e (inl l) = a.apart c y e l
  apart_then a n c y e (inr g) = n (onward g.1)
    where
      onward : {u : Value ℕ} → ValueLeads cs (suc c) u → ValueLeads cs (suc d) u
      onward (from l) = from (leads_then l (back e refl g.0))

  pub acyclic_value : Acyclic cs → ¬ (ValueLeads cs (suc d) v) → Acyclic (with_value (suc d) i v cs)
  unfolding with_value with_entry
  acyclic_value a n =
      record {
        apart = each_changed (λ c y. ¬ (Leads (changed (with_entry i v) cs d) (suc c) y.previous)) (with_entry i v) cs d
            (λ c y e l. apart_then a n c y e (before l)) (λ x e l. apart_then a n d x e (before l));
      }

-- contexts are those of cells, and stay so
pub contained_none : Contained []
contained_none = record { previous = λ c x e. absurd (none-ne-some _ e); remembered = remembered_none (λ k u. u ≤ 0) }

module _ {cs : List Cell} (contained : Contained cs) where
  pub contained_added : (label w f : ℕ) → w ≤ length cs → Contained (cs ++ (new_cell label w f ∷ []))
  unfolding new_cell
  contained_added label w f h =
      let x = new_cell label w f in
      let n = length (cs ++ (x ∷ [])) in
      let more : length cs ≤ n = omega (arith, length-append cs (x ∷ [])) in
      record {
        previous = each_added (λ c y. y.previous ≤ n) cs x (λ c y e. omega (arith, contained.previous c y e)) (omega arith);
        remembered = remembered_added (λ k u. u ≤ length cs) (λ k u. u ≤ n) (λ k u l. omega arith) cs contained.remembered label w f;
      }

  pub contained_value : (d i : ℕ) (v : Value ℕ) → ((k u : ℕ) → v ≡ constructor k u → u ≤ length cs) → Contained (with_value (suc d) i v cs)
  unfolding with_value with_entry
  contained_value d i v h =
      let same = value_length (suc d) i v cs in
      record {
        previous = rw same (each_changed (λ c y. y.previous ≤ length cs) (with_entry i v) cs d contained.previous (contained.previous d));
        remembered = rw same (remembered_value (λ k u. u ≤ length cs) (λ k u. u ≤ length cs) (λ k u l. l) cs contained.remembered d i v h);
      }
