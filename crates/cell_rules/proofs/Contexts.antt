-- Laws of cells and the labels that they stand for, for cells of any kind: cells that keep their heads stand for what they stood for,
-- and a cell stands for one list of labels only.
use mathlib.Core.Path.{◌≡◌, refl, sym, ap, ◌∙◌, subst}
use Prim.Native.Nat.{ℕ, suc, ◌+◌}
use mathlib.Core.List.{List, [], ◌∷◌, ◌++◌}
use mathlib.Core.Option.{some}
use native.Mathlib.Omega.{arith}
use lib.ListN.{length, get_elem?}
use Rattle.accepted.proofs.Elements.{element_below, element_front, element_back}
use Rattle.cell_rules.specs.Contexts.{Heads, Stands, outermost, within, HasHead, Kept}

some_one : {A : Type 0} {x y : A} → some x ≡ some y → x ≡ y
some_one e = cc

-- the cell that is added is after the others
pub element_added : {A : Type 0} (cs : List A) (x : A) → get_elem? (cs ++ (x ∷ [])) (length cs) ≡ some x
element_added cs x = let p : length cs + 0 ≡ length cs = omega arith in rw p at (element_back cs (x ∷ []) 0)

module _ {A : Type 0} {H : Heads A} where
  -- cells stay where they are
  pub kept_all_law : (cs : List A) → Kept H cs cs
  kept_all_law cs = record { same = λ c x e. record { cell = x; there = e; is = refl } }

  pub has_kept : {cs ds : List A} {c : ℕ} {h : H.Head} → Kept H cs ds → HasHead H cs c h → HasHead H ds c h
  has_kept {c} p a = let b = p.same c a.cell a.there in record { cell = b.cell; there = b.there; is = b.is ∙ a.is }

  pub kept_then : {cs ds es : List A} → Kept H cs ds → Kept H ds es → Kept H cs es
  kept_then p q = record { same = λ c x e. has_kept q (p.same c x e) }

  pub kept_added : (cs : List A) (x : A) → Kept H cs (cs ++ (x ∷ []))
  kept_added cs x =
      record { same = λ c y e. record { cell = y; there = element_front cs (x ∷ []) c (element_below cs c e) ∙ e; is = refl } }

  -- and stand for what they stood for
  pub stands_kept : {cs ds : List A} {w : ℕ} {ws : List ℕ} → Kept H cs ds → Stands H cs w ws → Stands H ds w ws
  stands_kept p outermost = outermost
  stands_kept p (within {c} {x} e l q s) =
      let a = p.same c x e in
      within a.there (ap H.label a.is ∙ l) (ap H.previous a.is ∙ q) (stands_kept p s)

  -- the cell that is added stands for one label more
  pub stands_added : {cs : List A} {ws : List ℕ} (x : A) → Stands H cs (H.previous (H.head x)) ws
      → Stands H (cs ++ (x ∷ [])) (suc (length cs)) (H.label (H.head x) ∷ ws)
  stands_added {cs} x s = within (element_added cs x) refl refl (stands_kept (kept_added cs x) s)

  -- a cell stands for one list of labels
  pub stands_one : {cs : List A} {w : ℕ} {ws vs : List ℕ} → Stands H cs w ws → Stands H cs w vs → ws ≡ vs
  stands_one outermost outermost = refl
  stands_one {cs} (within {l} {p} {x} {ws} e h q s) (within {l = m} {p = r} {x = y} {ws = vs} d i o u) =
      let z : H.head x ≡ H.head y = ap H.head (some_one (sym e ∙ d)) in
      let a : l ≡ m = sym h ∙ ap H.label z ∙ i in
      let b : r ≡ p = sym o ∙ ap H.previous (sym z) ∙ q in
      let g : ws ≡ vs = stands_one s (subst (λ (n : ℕ). Stands H cs n vs) b u) in
      cc
