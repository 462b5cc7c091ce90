-- Laws of cells in order: they stay so where a cell is added and where one remembers what its actual ends with, and a formal finds in
-- its cell what its own actual ends with.
use mathlib.Core.Path.{◌≡◌, sym, ap, ◌∙◌}
use Prim.Native.Nat.{ℕ, suc}
use mathlib.Core.List.{List, [], ◌∷◌, ◌++◌}
use mathlib.Core.Option.{some, none-ne-some}
use lib.IntN.{ℤ}
use lib.ListN.{get_elem?}
use Rattle.definitions.specs.Layouts.{functions, parameter_count}
use Rattle.definitions.specs.FormalPlaces.{function_of, position_of}
use Rattle.definitions.specs.TranslationNodes.{translation_node_of, actual}
use Rattle.definitions.specs.Rule.{Value, Ending, value}
use Rattle.definitions.specs.Cells.{Cell, new_cell, entry_at, with_entry, changed, with_value}
use Rattle.laws.proofs.Cells.{each_added, each_changed, each_entry, new_empty}
use Rattle.accepted.proofs.FormalPlaces.{places_distinct}
use Rattle.rule_laws.specs.Derivations.{Trace, Derivation}
use Rattle.rule_laws.specs.Reads.{Shows, an_integer, a_constructor, an_end}
use Rattle.cell_rules.specs.Contexts.{Head, head_of, cell_heads, Stands, HasHead, Kept}
use Rattle.cell_rules.specs.InOrder.{Derived, InOrder}
use Rattle.cell_rules.proofs.Contexts.{kept_added, stands_kept, stands_one}
use Rattle.cell_rules.proofs.Changes.{entry_head, value_kept}

pub shows_map : {C : Type 0} {A B : ℕ → C → List ℕ → Type 0} {d : Ending C} {e : Ending (List ℕ)}
    → ((k : ℕ) (w : C) (ws : List ℕ) → A k w ws → B k w ws) → Shows A d e → Shows B d e
shows_map f an_integer = an_integer
shows_map f (a_constructor a) = a_constructor (f _ _ _ a)
shows_map f an_end = an_end

-- the value that formal p finds in a cell with label l, with a derivation under the labels of the previous cell
pub record Recalled (t : List ℕ) (rs : List ℤ) (cs : List Cell) (p l : ℕ) (ws : List ℕ) (v : Value ℕ) : Type 0 where
  pub node : ℕ
  pub named : actual t p l ≡ some node
  pub trace : Trace
  pub ending : Ending (List ℕ)
  pub visits : Derivation t rs (translation_node_of t node) node ws trace ending
  pub shows : Shows (λ k w ws. Stands cell_heads cs w ws) (value v) ending

module _ (t : List ℕ) (rs : List ℤ) where
  derived_kept : {cs ds : List Cell} {h : Head} {i : ℕ} {v : Value ℕ} → Kept cell_heads cs ds → Derived t rs cs h i v → Derived t rs ds h i v
  derived_kept p d =
      record {
        formal = d.formal;
        function = d.function;
        position = d.position;
        node = d.node;
        named = d.named;
        labels = d.labels;
        stands = stands_kept p d.stands;
        trace = d.trace;
        ending = d.ending;
        visits = d.visits;
        shows = shows_map (λ k w ws s. stands_kept p s) d.shows;
      }

  -- no cells are in order
  pub order_none : InOrder t rs []
  order_none = record { entries = λ c i x v e h. absurd (none-ne-some _ e) }

  -- one cell more, which remembers nothing
  pub order_added : {cs : List Cell} (l w f : ℕ) → InOrder t rs cs → InOrder t rs (cs ++ (new_cell l w f ∷ []))
  order_added {cs} l w f r =
      let x = new_cell l w f in
      let kept = kept_added cs x in
      record {
        entries = λ c i y v e.
            each_added (λ c y. (i : ℕ) (v : Value ℕ) → entry_at y i ≡ some v → Derived t rs (cs ++ (x ∷ [])) (head_of y) i v) cs x
            (λ c y e i v q. derived_kept kept (r.entries c i y v e q))
            (λ i v q. absurd (none-ne-some _ (sym (new_empty l w f i) ∙ q)))
            c y e i v;
      }

  -- one value more
  pub order_value : {cs : List Cell} (b i : ℕ) (v : Value ℕ) {h : Head} → InOrder t rs cs → HasHead cell_heads cs b h → Derived t rs cs h i v
      → InOrder t rs (with_value (suc b) i v cs)
  unfolding with_value
  order_value {cs} b i v {h} r g d =
      record {
        entries = λ c j y u e.
            each_changed (λ c y. (j : ℕ) (u : Value ℕ) → entry_at y j ≡ some u → Derived t rs ds (head_of y) j u) (with_entry i v) cs b
            (λ c y e j u q. derived_kept kept (r.entries c j y u e q)) changed_one c y e j u;
      }
    where
      ds : List Cell
      ds = changed (with_entry i v) cs b

      kept : Kept cell_heads cs ds
      kept = value_kept (suc b) i v cs

      changed_one : (x : Cell) → get_elem? cs b ≡ some x → (j : ℕ) (u : Value ℕ) → entry_at (with_entry i v x) j ≡ some u
          → Derived t rs ds (head_of (with_entry i v x)) j u
      changed_one x e j u q =
          let z : g.cell ≡ x = (let m = g.there in cc) in
          let is : head_of x ≡ h = ap head_of (sym z) ∙ g.is in
          rw (entry_head i v x)
          (each_entry (λ j o. (u : Value ℕ) → o ≡ some u → Derived t rs ds (head_of x) j u) x i v
          (λ j u q. derived_kept kept (r.entries b j x u e q))
          (λ u q. let s : v ≡ u = cc in rw (is, ← s) (derived_kept kept d))
          j u q)

  -- what a formal finds in a cell that its own function's call made
  pub recalls : {cs : List Cell} {ws : List ℕ} (p c : ℕ) (x : Cell) {v : Value ℕ} → InOrder t rs cs → get_elem? cs c ≡ some x
      → function_of t p ≡ x.callee → entry_at x (position_of t p) ≡ some v → Stands cell_heads cs x.previous ws
      → Recalled t rs cs p x.label ws v
  recalls {cs} {ws} p c x {v} r e o h s =
      let d = r.entries c (position_of t p) x v e h in
      let z : d.formal ≡ p = places_distinct (parameter_count t) (functions t) (d.function ∙ sym o) d.position in
      record {
        node = d.node;
        named = rw z at d.named;
        trace = d.trace;
        ending = d.ending;
        visits = rw (stands_one d.stands s) at d.visits;
        shows = d.shows;
      }
