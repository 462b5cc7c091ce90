-- Two evaluations side by side over cells by serial number, of files that read as translations of sheets with equal trees: which nodes,
-- contexts and cells go together.
use mathlib.Core.Path.{◌≡◌, refl, sym, ap}
use Prim.Native.Nat.{ℕ, zero, suc, ◌<◌}
use mathlib.Core.List.{List}
use mathlib.Core.Option.{Option, none, some}
use lib.IntN.{ℤ}
use Rattle.definitions.specs.Layouts.{nodes, owner_of}
use Rattle.definitions.specs.References.{parameters}
use Rattle.definitions.specs.SheetNodes.{SheetNode, pattern_variable, call, build, sheet_node_of, scrutinee_of}
use Rattle.definitions.specs.Checks.{sheet_verdict}
use Rattle.definitions.specs.Labels.{Labelling, label_of}
use Rattle.definitions.specs.Translate.{formal_of}
use Rattle.definitions.specs.Rule.{integer, constructor, State}
use Rattle.definitions.specs.Cells.{Entry, Cell}
use Rattle.definitions.specs.declared.Layout.TheVariants.{Sheet}
use Rattle.definitions.specs.Verdict.{Accepted}
use Rattle.accepted.specs.Child.{Child, left, right, condition, if_nonzero, if_zero, scrutinee, clause}
use Rattle.accepted.proofs.Names.{parameter_below}
use Rattle.accepted.proofs.Checks.{trees_pass}
use Rattle.accepted.proofs.Trees.{child_below, child_owner}
use Rattle.accepted.proofs.Clauses.{chosen_found}
use Rattle.readback.specs.TranslatedNode.{translated_node}
use Rattle.cell_rules.specs.Contexts.{cell_heads, HasHead, Kept}
use Rattle.cell_rules.proofs.Contexts.{kept_all_law, kept_then, has_kept}
use Rattle.given_back.specs.SerialCells.{ActualVisit, Account, SerialCells}
use Rattle.rule_laws.specs.SideBySide.{SideBySide, Due, neither, each, Alike, numbers, readings, formals, selects, operators, conditionals, calls, tuples, cases}
use Rattle.trees.specs.SameNodes.{Pairs, SameNode, same_number, same_reading, same_parameter, same_pattern, same_operator, same_conditional, same_call, same_build, same_case}
use Rattle.trees.proofs.Parts.{scrutinee_of_law}
use Rattle.shared_runs.specs.Reads.{EqualTrees}
use Rattle.shared_runs.proofs.AlikeCells.{AlikeCells}
use Rattle.shared_runs.proofs.SameTrees.{BothFound, in_neither, in_each, clause_found}

-- node k of sheet a, node m of sheet b, and a node x of sheet a in whose place both stand, have equal trees
pub record Twins (a b : List ℕ) (k m x : ℕ) : Type 0 where
  pub own : x < nodes a
  pub one : k < nodes a
  pub two : m < nodes b
  pub with_one : EqualTrees a a x k
  pub with_two : EqualTrees a b x m

module _ (same same' : Labelling) (a b : List ℕ) where
  -- context c of each was made by a call of f, and the contexts before it by calls of what that call's place asks for
  pub data Fits (cs ds : List Cell) : ℕ → ℕ → Type 0 where
    outermost : {g : ℕ} → Fits cs ds zero g
    within : {c f p k m x : ℕ} {ns : List ℕ}
        → HasHead cell_heads cs c (record { label = label_of same a f k; previous = p; callee = f })
        → HasHead cell_heads ds c (record { label = label_of same' b f m; previous = p; callee = f })
        → Twins a b k m x
        → sheet_node_of a x ≡ call f ns
        → Fits cs ds p (owner_of Sheet a x)
        → Fits cs ds (suc c) f

  -- nodes k and m under contexts c and d: they stand in the place of one node, and the contexts fit its function
  pub record AtNodes (cs ds : List Cell) (k m c d : ℕ) : Type 0 where
    pub twin : ℕ
    pub like : Twins a b k m twin
    pub contexts : c ≡ d
    pub fits : Fits cs ds c (owner_of Sheet a twin)

  -- constructors built at such nodes, by builds with equal trees for components
  pub record BuiltBy (cs ds : List Cell) (k m c d : ℕ) : Type 0 where
    pub at : AtNodes cs ds k m c d
    pub tag : ℕ
    pub owns : List ℕ
    pub ones : List ℕ
    pub twos : List ℕ
    pub is_own : sheet_node_of a at.twin ≡ build tag owns
    pub is_one : sheet_node_of a k ≡ build tag ones
    pub is_two : sheet_node_of b m ≡ build tag twos
    pub with_one : Pairs (EqualTrees a a) owns ones
    pub with_two : Pairs (EqualTrees a b) owns twos

  -- both remember nothing, one number, or such constructors
  pub data SameEntry (cs ds : List Cell) : Entry → Entry → Type 0 where
    nothing : SameEntry cs ds none none
    one_number : {z : ℤ} → SameEntry cs ds (some (integer z)) (some (integer z))
    such_constructors : {k m c d : ℕ} → BuiltBy cs ds k m c d → SameEntry cs ds (some (constructor k c)) (some (constructor m d))

  -- the steps left, the cells of each, which remember alike, and one account and one list of visits to actuals
  pub record World : Type 0 where
    pub left : ℕ
    pub here : List Cell
    pub there : List Cell
    pub remember : AlikeCells (SameEntry here there) here there
    pub account : Account
    pub visits : List ActualVisit

  abbrev pub here_of : World → State SerialCells
  here_of w = record { left = w.left; store = record { cells = w.here; account = w.account; visits = w.visits } }

  abbrev pub there_of : World → State SerialCells
  there_of w = record { left = w.left; store = record { cells = w.there; account = w.account; visits = w.visits } }

  -- cells keep their heads
  pub record Onward (w v : World) : Type 0 where
    pub one : Kept cell_heads w.here v.here
    pub two : Kept cell_heads w.there v.there

  module _ {cs ds es gs : List Cell} (p : Kept cell_heads cs es) (q : Kept cell_heads ds gs) where
    pub fits_kept : {c g : ℕ} → Fits cs ds c g → Fits es gs c g
    fits_kept outermost = outermost
    fits_kept (within h i l n f) = within (has_kept p h) (has_kept q i) l n (fits_kept f)

    pub at_kept : {k m c d : ℕ} → AtNodes cs ds k m c d → AtNodes es gs k m c d
    at_kept h = record { twin = h.twin; like = h.like; contexts = h.contexts; fits = fits_kept h.fits }

    pub built_kept : {k m c d : ℕ} → BuiltBy cs ds k m c d → BuiltBy es gs k m c d
    unfolding at_kept
    built_kept h =
        record {
          at = at_kept h.at;
          tag = h.tag;
          owns = h.owns;
          ones = h.ones;
          twos = h.twos;
          is_own = h.is_own;
          is_one = h.is_one;
          is_two = h.is_two;
          with_one = h.with_one;
          with_two = h.with_two;
        }

    pub entry_kept : (x y : Entry) → SameEntry cs ds x y → SameEntry es gs x y
    entry_kept x y nothing = nothing
    entry_kept x y one_number = one_number
    entry_kept x y (such_constructors h) = such_constructors (built_kept h)

  -- formals p and q of one function and position, under contexts that fit it
  pub record OfFormal (w : World) (p q c d : ℕ) : Type 0 where
    pub function : ℕ
    pub position : ℕ
    pub is_one : p ≡ formal_of a function position
    pub is_two : q ≡ formal_of b function position
    pub inside : position < parameters a function
    pub contexts : c ≡ d
    pub fits : Fits w.here w.there c function

  -- calls of one function with labels l and l', which stand in the place of one call
  pub record OfCall (w : World) (l f l' f' c d : ℕ) : Type 0 where
    pub one : ℕ
    pub two : ℕ
    pub twin : ℕ
    pub arguments : List ℕ
    pub like : Twins a b one two twin
    pub is : sheet_node_of a twin ≡ call f arguments
    pub is_one : l ≡ label_of same a f one
    pub is_two : l' ≡ label_of same' b f two
    pub function : f' ≡ f
    pub contexts : c ≡ d
    pub fits : Fits w.here w.there c (owner_of Sheet a twin)

  abbrev pub sides : SideBySide ℕ SerialCells ℕ SerialCells
  sides =
      record {
        World = World;
        here = here_of;
        there = there_of;
        Leads = Onward;
        stays = λ w. record { one = kept_all_law w.here; two = kept_all_law w.there };
        onward = λ p q. record { one = kept_then p.one q.one; two = kept_then p.two q.two };
        Steps = Onward;
        steps_lead = λ p. p;
        At = λ w. AtNodes w.here w.there;
        at_onward = λ l h. at_kept l.one l.two h;
        Built = λ w. BuiltBy w.here w.there;
        AtFormal = OfFormal;
        AtCall = OfCall;
        Nested = λ n m. n ≡ m;
        Cut = λ w r q. ⊥;
        cut_back = λ l h. h;
        cut_number = λ go go' h. h;
        cut_constructor = λ go go' h. h;
      }

  pub due_found : {w : World} {c d : ℕ} {o u : Option ℕ} → BothFound (λ k m. AtNodes w.here w.there k m c d) o u → Due sides w c d o u
  due_found in_neither = neither
  due_found (in_each h) = each h

  module _ (first : sheet_verdict a ≡ Accepted) (second : sheet_verdict b ≡ Accepted) where
    -- from node to node
    at_made : {cs ds : List Cell} {k m c d : ℕ} (h : AtNodes cs ds k m c d) (x : ℕ) {k' m' : ℕ} → owner_of Sheet a x ≡ owner_of Sheet a h.twin
        → Twins a b k' m' x → AtNodes cs ds k' m' c d
    at_made h x o l = record { twin = x; like = l; contexts = h.contexts; fits = rw o h.fits }

    pub child_at : {cs ds : List Cell} {k m c d : ℕ} (h : AtNodes cs ds k m c d) {nx nk nm : SheetNode} {x k' m' : ℕ}
        → sheet_node_of a h.twin ≡ nx → sheet_node_of a k ≡ nk → sheet_node_of b m ≡ nm
        → Child nx x → Child nk k' → Child nm m' → EqualTrees a a x k' → EqualTrees a b x m'
        → AtNodes cs ds k' m' c d
    child_at {k} {m} h {x} ex ek em cx ck cm s t =
        at_made h x (child_owner a (trees_pass a first) h.twin h.like.own ex cx)
        (record {
          own = child_below a (trees_pass a first) h.twin h.like.own ex cx;
          one = child_below a (trees_pass a first) k h.like.one ek ck;
          two = child_below b (trees_pass b second) m h.like.two em cm;
          with_one = s;
          with_two = t;
        })

    pattern_at : {cs ds : List Cell} {k m c d : ℕ} (h : AtNodes cs ds k m c d) {i : ℕ}
        → sheet_node_of a h.twin ≡ pattern_variable i → sheet_node_of a k ≡ pattern_variable i → sheet_node_of b m ≡ pattern_variable i
        → EqualTrees a a (scrutinee_of a h.twin) (scrutinee_of a k) → EqualTrees a b (scrutinee_of a h.twin) (scrutinee_of b m)
        → AtNodes cs ds (scrutinee_of a k) (scrutinee_of b m) c d
    pattern_at {k} {m} h ex ek em s t =
        let x = scrutinee_of_law a first h.twin h.like.own ex in
        at_made h (scrutinee_of a h.twin) x.owner
        (record {
          own = x.outside.below;
          one = (scrutinee_of_law a first k h.like.one ek).outside.below;
          two = (scrutinee_of_law b second m h.like.two em).outside.below;
          with_one = s;
          with_two = t;
        })

    -- what nodes with equal trees become is alike
    module _ {rs : List ℤ} {w : World} {k m c d : ℕ} (h : AtNodes w.here w.there k m c d) where
      pub alike_by : {nx nk nm : SheetNode} → sheet_node_of a h.twin ≡ nx → sheet_node_of a k ≡ nk → sheet_node_of b m ≡ nm
          → SameNode (EqualTrees a a) a a h.twin k nx nk → SameNode (EqualTrees a b) a b h.twin m nx nm
          → Alike sides rs rs w k m c d (translated_node same a k nk) (translated_node same' b m nm)
      unfolding translated_node
      alike_by ex ek em same_number same_number = numbers
      alike_by ex ek em same_reading same_reading = readings refl
      alike_by ex ek em (same_parameter {i} o) (same_parameter p) =
          formals (record {
            function = owner_of Sheet a h.twin;
            position = i;
            is_one = ap (λ (g : ℕ). formal_of a g i) (sym o);
            is_two = ap (λ (g : ℕ). formal_of b g i) (sym p);
            inside = parameter_below a first h.twin h.like.own ex;
            contexts = h.contexts;
            fits = h.fits;
          })
      alike_by ex ek em (same_pattern s) (same_pattern t) = selects (pattern_at h ex ek em s t)
      alike_by ex ek em (same_operator s t) (same_operator u v) =
          operators (child_at h ex ek em left left left s u) (child_at h ex ek em right right right t v)
      alike_by ex ek em (same_conditional s t u) (same_conditional s' t' u') =
          conditionals (child_at h ex ek em condition condition condition s s') (child_at h ex ek em if_nonzero if_nonzero if_nonzero t t')
          (child_at h ex ek em if_zero if_zero if_zero u u')
      alike_by ex ek em (same_call {f} {ns} p) (same_call q) =
          calls (record {
            one = k;
            two = m;
            twin = h.twin;
            arguments = ns;
            like = h.like;
            is = ex;
            is_one = refl;
            is_two = refl;
            function = refl;
            contexts = h.contexts;
            fits = h.fits;
          })
      alike_by ex ek em (same_build {c = t} {ns} {ms} p) (same_build {ms = ms'} q) =
          tuples (record { at = h; tag = t; owns = ns; ones = ms; twos = ms'; is_own = ex; is_one = ek; is_two = em; with_one = p; with_two = q })
      alike_by ex ek em (same_case {cs = xs} {ds = ks} s p) (same_case {ds = ms} t q) =
          cases (child_at h ex ek em scrutinee scrutinee scrutinee s t)
          (λ z. due_found (clause_found (λ k m. AtNodes w.here w.there k m c d) z p q
          (λ x k' m' i j l u v.
          let fx = chosen_found xs z x i in
          let fk = chosen_found ks z k' j in
          let fm = chosen_found ms z m' l in
          child_at h ex ek em (clause fx.place fx.there fx.leads) (clause fk.place fk.there fk.leads)
          (clause fm.place fm.there fm.leads) u v)))
