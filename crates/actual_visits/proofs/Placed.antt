-- Which nodes may be visited under which cells, in a file that reads as the translation of an accepted sheet: a node stands in the place
-- of a node with an equal tree, and the cell was made by a call of that node's function.
use mathlib.Core.Path.{◌≡◌, refl, sym, ap, ◌∙◌, subst}
use Prim.Native.Nat.{ℕ, zero, suc, ◌<◌}
use mathlib.Core.List.{List, [], ◌∷◌, ◌++◌}
use mathlib.Core.Option.{some}
use native.Mathlib.Omega.{arith}
use lib.ListN.{length, get_elem?}
use Rattle.definitions.specs.Sizes.{most_fields}
use Rattle.definitions.specs.Layouts.{functions, nodes, body_of, owner_of}
use Rattle.definitions.specs.FormalPlaces.{function_of, position_of}
use Rattle.definitions.specs.References.{parameters}
use Rattle.definitions.specs.SheetNodes.{call, build, sheet_node_of}
use Rattle.definitions.specs.TranslationNodes.{TranslationNode, translation_node_of, actual, tuple_fields}
use Rattle.definitions.specs.TranslationNodes
use Rattle.definitions.specs.Checks.{sheet_verdict}
use Rattle.definitions.specs.Labels.{Labelling, label_of}
use Rattle.definitions.specs.Translate.{formal_of}
use Rattle.definitions.specs.Cells.{Cell, new_cell}
use Rattle.definitions.specs.declared.Layout.TheVariants.{Sheet, Translation}
use Rattle.definitions.specs.Verdict.{Accepted}
use Rattle.accepted.specs.Mention.{Mention, component}
use Rattle.accepted.proofs.Head.{functions_least}
use Rattle.accepted.proofs.Sections.{parameters_limit}
use Rattle.accepted.proofs.Owners.{owner_below, body_below, owner_of_body}
use Rattle.accepted.proofs.Checks.{sheet_shape}
use Rattle.accepted.proofs.Names.{call_below}
use Rattle.readback.specs.TranslatedNode.{translated_node}
use Rattle.cell_rules.specs.Contexts.{Head, head_of, cell_heads, HasHead, Kept}
use Rattle.cell_rules.proofs.Contexts.{element_added, has_kept, kept_added}
use Rattle.shared_runs.specs.Reads.{EqualTrees, Reads}
use Rattle.shared_runs.proofs.SameTrees.{trees_then, trees_itself, same_calls}
use Rattle.shared_runs.proofs.FormalsRead.{formal_function, formal_position}
use Rattle.actual_visits.proofs.SameChildren.{some_is, TwinIn, Says, mentioned_by, says, argument_twin}

head_is : {cs : List Cell} {c : ℕ} {x : Cell} {h : Head} → HasHead cell_heads cs c h → get_elem? cs c ≡ some x → head_of x ≡ h
head_is h e = ap head_of (some_is (sym e ∙ h.there)) ∙ h.is

module _ (same : Labelling) (b : List ℕ) where
  -- context w was made by a call of f, and the contexts before it by calls of what that call's place asks for
  pub data Fits (cs : List Cell) : ℕ → ℕ → Type 0 where
    outermost : {g : ℕ} → Fits cs zero g
    within : {c f p k x : ℕ} {ns : List ℕ}
        → HasHead cell_heads cs c (record { label = label_of same b f k; previous = p; callee = f })
        → x < nodes b → k < nodes b → EqualTrees b b x k → sheet_node_of b x ≡ call f ns
        → Fits cs p (owner_of Sheet b x)
        → Fits cs (suc c) f

  -- node k may be visited under context w: it stands in the place of a node with an equal tree, whose function the context fits
  pub record Placed (cs : List Cell) (k w : ℕ) : Type 0 where
    pub twin : ℕ
    pub own : twin < nodes b
    pub below : k < nodes b
    pub equal : EqualTrees b b twin k
    pub fits : Fits cs w (owner_of Sheet b twin)

  -- a build so placed
  pub record BuiltPlaced (cs : List Cell) (k w : ℕ) : Type 0 where
    pub placed : Placed cs k w
    pub tag : ℕ
    pub components : List ℕ
    pub is : sheet_node_of b k ≡ build tag components

  -- they stay so while cells keep their heads
  fits_kept : {cs ds : List Cell} {w g : ℕ} → Kept cell_heads cs ds → Fits cs w g → Fits ds w g
  fits_kept p outermost = outermost
  fits_kept p (within h o l e n f) = within (has_kept p h) o l e n (fits_kept p f)

  pub placed_kept : {cs ds : List Cell} {k w : ℕ} → Kept cell_heads cs ds → Placed cs k w → Placed ds k w
  placed_kept p h = record { twin = h.twin; own = h.own; below = h.below; equal = h.equal; fits = fits_kept p h.fits }

  pub built_kept : {cs ds : List Cell} {k w : ℕ} → Kept cell_heads cs ds → BuiltPlaced cs k w → BuiltPlaced ds k w
  built_kept p h = record { placed = placed_kept p h.placed; tag = h.tag; components = h.components; is = h.is }

  callee_by : {cs : List Cell} {c f : ℕ} {x : Cell} → Fits cs (suc c) f → get_elem? cs c ≡ some x → x.callee ≡ f
  callee_by (within h o l s n f) e = ap (λ (q : Head). q.callee) (head_is h e)

  -- a node with a twin in the function of x is placed under a context that fits that function
  placed_twin : {cs : List Cell} {x n w : ℕ} → Fits cs w (owner_of Sheet b x) → TwinIn b x n → Placed cs n w
  placed_twin f y = record { twin = y.twin; own = y.own; below = y.below; equal = y.equal; fits = rw y.owner f }

module _ {same : Labelling} {b t : List ℕ} (accepted : sheet_verdict b ≡ Accepted) (reads : Reads same b t) where
  -- what a placed node says, read in the file
  said : {cs : List Cell} {k w : ℕ} {nd : TranslationNode} → translation_node_of t k ≡ nd → (h : Placed same b cs k w) → Says same b k h.twin nd
  said {k} e h =
      subst (Says same b k h.twin) (sym (reads.becomes k h.below) ∙ e) (says same b k h.twin accepted h.own h.below h.equal)

  -- from node to node
  pub placed_mentioned : {cs : List Cell} {k n w : ℕ} {nd : TranslationNode} → translation_node_of t k ≡ nd → Mention nd n → Placed same b cs k w
      → Placed same b cs n w
  placed_mentioned {k} e m h = placed_twin same b h.fits (mentioned_by same b k h.twin (said e h) m)

  pub placed_tuple : {cs : List Cell} {k w a : ℕ} {ns : List ℕ} → translation_node_of t k ≡ TranslationNodes.tuple a ns → Placed same b cs k w
      → BuiltPlaced same b cs k w
  placed_tuple {a} {ns} e h = record { placed = h; tag = a; components = ns; is = (said e h).0 }

  pub placed_field : {cs : List Cell} {k w n : ℕ} (i : ℕ) → get_elem? (tuple_fields t k) i ≡ some n → BuiltPlaced same b cs k w → Placed same b cs n w
  unfolding translated_node
  placed_field {k} i e h =
      let l = h.placed.below in
      let m = component i (rw (reads.fields k l h.is) at e) in
      placed_mentioned (reads.becomes k l ∙ ap (translated_node same b k) h.is) m h.placed

  -- the actual that a cell's label names is an argument of a call with a tree equal to that of the call that made the cell
  actual_by : {cs : List Cell} {f i c n : ℕ} {x : Cell} → i < parameters b f → Fits same b cs (suc c) f → get_elem? cs c ≡ some x
      → actual t (formal_of b f i) x.label ≡ some n → Placed same b cs n x.previous
  actual_by {f} {i} inside (within {k} {x} h own below equal is fits) e a =
      let d = head_is h e in
      let g = reads.names f k i below (same_calls b b accepted own is equal).is inside in
      let m = some_is (sym g.listed ∙ (rw (ap (λ (q : Head). q.label) d) at a)) in
      rw (ap (λ (q : Head). q.previous) d, ← m)
      (placed_twin same b fits
      (argument_twin same b g.first x accepted own g.below i (trees_then equal g.equal) is g.is g.there))

  owner_real : {cs : List Cell} {k w : ℕ} (h : Placed same b cs k w) → owner_of Sheet b h.twin < functions b
  owner_real h = owner_below Sheet b (sheet_shape b accepted) h.twin h.own

  -- a formal is visited under cells of its own function only
  pub formal_own : {cs : List Cell} {k p c : ℕ} {x : Cell} → translation_node_of t k ≡ TranslationNodes.formal p → Placed same b cs k (suc c)
      → get_elem? cs c ≡ some x → function_of t p ≡ x.callee
  formal_own e h g =
      let s = said e h in
      rw s.is (formal_function reads (owner_of Sheet b h.twin) s.position (owner_real h) s.inside ∙ sym (callee_by same b h.fits g))

  pub formal_position_below : {cs : List Cell} {k p w : ℕ} → translation_node_of t k ≡ TranslationNodes.formal p → Placed same b cs k w
      → position_of t p < most_fields
  formal_position_below e h =
      let s = said e h in
      let l = parameters_limit b (sheet_shape b accepted) (owner_of Sheet b h.twin) (owner_real h) in
      rw (s.is, formal_position reads (owner_of Sheet b h.twin) s.position (owner_real h) s.inside) (omega (arith, l, s.inside))

  pub actual_placed : {cs : List Cell} {k p c n : ℕ} {x : Cell} → translation_node_of t k ≡ TranslationNodes.formal p → Placed same b cs k (suc c)
      → get_elem? cs c ≡ some x → actual t p x.label ≡ some n → Placed same b cs n x.previous
  actual_placed e h g a = let s = said e h in actual_by s.inside h.fits g (rw s.is at a)

  -- a body is placed under a context that fits its function: a cell added for its call, and the empty context at the start
  body_by : {cs : List Cell} {w : ℕ} (f : ℕ) → f < functions b → Fits same b cs w f → Placed same b cs (body_of Translation t f) w
  body_by f h fits =
      let s = sheet_shape b accepted in
      let x = body_below Sheet b s f h in
      rw (reads.body f h)
      (record { twin = body_of Sheet b f; own = x; below = x; equal = trees_itself b accepted (body_of Sheet b f) x; fits = rw (owner_of_body Sheet b s f h) fits })

  pub body_placed : {cs : List Cell} {k l f w : ℕ} → translation_node_of t k ≡ TranslationNodes.call l f → Placed same b cs k w
      → Placed same b (cs ++ (new_cell l w f ∷ [])) (body_of Translation t f) (suc (length cs))
  unfolding new_cell
  body_placed {cs} {l} {f} {w} e h =
      let s = said e h in
      let c = new_cell l w f in
      body_by f (call_below b accepted h.twin h.own s.is)
      (within (record { cell = c; there = element_added cs c; is = rw s.label refl }) h.own h.below h.equal s.is
      (fits_kept same b (kept_added cs c) h.fits))

  pub start_placed : Placed same b [] (body_of Translation t 0) 0
  start_placed = body_by 0 (functions_least Sheet b (sheet_shape b accepted)) outermost
