-- The rule over all cells made and the rule that gives no cell back go in step, of any translation file: the same cells under the same
-- contexts, until one of them has no cell left.
use mathlib.Core.Path.{◌≡◌, refl, sym}
use Prim.Native.Nat.{ℕ, zero, suc, ◌+◌, ◌≤◌, ◌<◌}
use mathlib.Core.List.{List}
use mathlib.Core.Option.{Option, none, some}
use mathlib.Core.Bool.{Bool, true, false}
use native.Mathlib.Omega.{arith}
use lib.IntN.{ℤ}
use lib.ListN.{length, get_elem?}
use lib.Dec.{ltb}
use borrow.Author.Tests.{ltb-true, ltb-false}
use Rattle.definitions.specs.Numbers.{no_cell, no_actual}
use Rattle.definitions.specs.Layouts.{body_of}
use Rattle.definitions.specs.FormalPlaces.{position_of}
use Rattle.definitions.specs.TranslationNodes.{translation_node_of, tuple_fields, actual}
use Rattle.definitions.specs.Rule.{Value, integer, constructor, Ending, value, ended, State, Reached, Visit, reach, with_step, where_cell, visited}
use Rattle.definitions.specs.Cells.{Entry, Cell, new_cell, cell_of, keeping, remembered, recalled, where_own, under_cell, formal_by_cells, with_cell, call_by_cells, by_cells, evaluation}
use Rattle.definitions.specs.Run.{kept_end}
use Rattle.definitions.specs.declared.Layout.TheVariants.{Translation}
use Rattle.laws.proofs.Cells.{added_length, value_length}
use Rattle.rule_laws.specs.SideBySide.{SideBySide, AlikeEnds, integers, constructors, ends, Both, cut, arrive, Due, Beside, Alike, InStep}
use Rattle.rule_laws.specs.SameNodes.{Same, same, SameCall, same_call}
use Rattle.rule_laws.proofs.Lockstep.{both_back, both_here, both_due, due_itself, alike_itself, evaluations_in_step}
use Rattle.rule_laws.proofs.SameNodes.{tags_same}
use Rattle.given_back.specs.SerialCells.{SerialCells, no_serial_cells, listing_serial, keeping_serial, formal_by_serials, opening_account, closing_account, with_serial_cell, closed_serial}
use Rattle.given_back.specs.SerialCells.{call_by_serials, by_serials, serial_evaluation}
use Rattle.given_back.specs.KeptEnds.{KeptEnd}
use Rattle.given_back.proofs.KeptWorlds.{World, here, there, Leads, Steps, Full, first_full, second_full, full_back, same_cells, with_memory, with_visit, with_one_more, after_call}

module _ (cells_allowed cells_allowed' : ℕ) where
  abbrev B : SideBySide ℕ SerialCells ℕ (List Cell)
  B = same_cells cells_allowed cells_allowed'

  -- a value is remembered in both, or in neither
  memory_leads : (w : World) (c i : ℕ) (v : Value ℕ) → Leads w (with_memory w c i v)
  memory_leads w c i v = record { grown = omega (arith, value_length c i v w.store.cells); steps = omega (arith, value_length c i v w.store.cells) }

  remembered_both : (c i : ℕ) {w : World} {r : Reached ℕ SerialCells} {q : Reached ℕ (List Cell)} → Both B w r q
      → Both B w (remembered keeping_serial c i r) (remembered keeping c i q)
  unfolding remembered reach keeping_serial keeping
  remembered_both c i (cut h) = cut h
  remembered_both c i (arrive v l (integers {z})) =
      both_back B l (arrive (with_memory v c i (integer z)) (memory_leads v c i (integer z)) integers)
  remembered_both c i (arrive v l (constructors {k} {c = x} same)) =
      both_back B l (arrive (with_memory v c i (constructor k x)) (memory_leads v c i (constructor k x)) (constructors same))
  remembered_both c i (arrive v l ends) = arrive v l ends

  recalled_both : (w : World) (y : Entry) {r : Reached ℕ SerialCells} {q : Reached ℕ (List Cell)} → Both B w r q
      → Both B w (recalled y (here w) r) (recalled y (there w) q)
  unfolding recalled
  recalled_both w none b = b
  recalled_both w (some (integer z)) b = both_here B w integers
  recalled_both w (some (constructor k c)) b = both_here B w (constructors same)

  own_both : (w : World) (x : Bool) (c i : ℕ) (y : Entry) {r : Reached ℕ SerialCells} {q : Reached ℕ (List Cell)} → Both B w r q
      → Both B w (where_own keeping_serial x c i y (here w) r) (where_own keeping x c i y (there w) q)
  unfolding where_own
  own_both w true c i y b = recalled_both w y (remembered_both c i b)
  own_both w false c i y b = b

  module _ (t : List ℕ) {visit : Visit ℕ SerialCells} {visit' : Visit ℕ (List Cell)} (f : Beside B visit visit') where
    -- visits that are listed
    listed_both : (c i : ℕ) → Beside B (λ n v s. visit n v (listing_serial c i s)) visit'
    unfolding listing_serial
    listed_both c i =
        record { both = λ w k m x y h. both_back B {v = with_visit w c i} (record { grown = omega arith; steps = omega arith }) (f.both (with_visit w c i) k m x y h) }

    formal_both : (w : World) (p c : ℕ) (o : Option Cell)
        → Both B w (under_cell keeping_serial t (λ n v s. visit n v (listing_serial c (position_of t p) s)) p c o (here w)) (under_cell keeping t visit' p c o (there w))
    unfolding under_cell
    formal_both w p c none = both_here B w ends
    formal_both w p c (some x) =
        own_both w _ c _ _ (both_due B w x.previous x.previous no_actual (listed_both c (position_of t p))
        (due_itself B w x.previous x.previous (actual t p x.label) (λ j e. same)))

  -- what a call leaves, from the world before its step was counted
  module _ {w v : World} (s : Steps w v) (l c f : ℕ) where
    more_leads : Leads w (with_one_more v l c f)
    more_leads =
        let e = added_length v.store.cells (new_cell l c f) in
        record { grown = omega (arith, e, s.grown); steps = omega (arith, e, s.steps) }

    closed_here : (u : World) → Leads (with_one_more v l c f) u → (e : Ending ℕ) → ((x : World) → AlikeEnds B x e e)
        → Both B w (closed_serial v.store (reach e (here u))) (reach e (there u))
    unfolding closed_serial closing_account reach
    closed_here u p e a =
        let g : length v.store.cells ≤ length u.store.cells = omega (arith, p.grown, added_length v.store.cells (new_cell l c f)) in
        arrive (after_call v u g e) (record { grown = omega (arith, more_leads.grown, p.grown); steps = omega (arith, more_leads.steps, p.steps) }) (a (after_call v u g e))

    closed_both : {r : Reached ℕ SerialCells} {q : Reached ℕ (List Cell)} → Both B (with_one_more v l c f) r q → Both B w (closed_serial v.store r) q
    unfolding closed_serial closing_account reach
    closed_both (cut h) = cut (full_back more_leads h)
    closed_both (arrive u p (integers {z})) = closed_here u p (value (integer z)) (λ x. integers)
    closed_both (arrive u p (constructors {k} {c = x} same)) = closed_here u p (value (constructor k x)) (λ y. constructors same)
    closed_both (arrive u p (ends {n})) = closed_here u p (ended n) (λ x. ends)

  room_both : (w v : World) → Steps w v → (x y : Bool) → ltb v.store.account.live cells_allowed ≡ x → ltb (length v.store.cells) cells_allowed' ≡ y
      → (go : State SerialCells → Reached ℕ SerialCells) (go' : State (List Cell) → Reached ℕ (List Cell)) → Both B w (go (here v)) (go' (there v))
      → Both B w (where_cell x (here v) go) (where_cell y (there v) go')
  unfolding where_cell reach
  room_both w v s true true e g go go' b = b
  room_both w v s true false e g go go' b =
      cut (second_full (let h : cells_allowed' ≤ length w.store.cells + w.left = omega (arith, ltb-false (length v.store.cells) cells_allowed' g, s.steps) in h))
  room_both w v s false true e g go go' b =
      cut (first_full (omega (arith, ltb-false v.store.account.live cells_allowed e, ltb-true (length v.store.cells) cells_allowed' g, v.live)))
  room_both w v s false false e g go go' b = both_back B (record { grown = s.grown; steps = omega (arith, s.steps) }) (both_here B v ends)

  module _ (store : SerialCells) (live : store.account.live ≤ length store.cells) where
    abbrev world : ℕ → World
    world left = record { left = left; store = store; live = live }

    step_both : (left : ℕ) (go : State SerialCells → Reached ℕ SerialCells) (go' : State (List Cell) → Reached ℕ (List Cell))
        → ((v : World) → Steps (world left) v → Both B (world left) (go (here v)) (go' (there v)))
        → Both B (world left) (with_step left store go) (with_step left store.cells go')
    unfolding with_step
    step_both zero go go' f = both_here B (world 0) ends
    step_both (suc left) go go' f = f (world left) (record { grown = omega arith; steps = omega arith })

  module _ (t : List ℕ) (rs : List ℤ) where
    unopened : (w : World) {k m c d : ℕ} → Same k c m d
        → Both B w (visited (by_serials t cells_allowed) t rs zero k c (here w)) (visited (by_cells t cells_allowed') t rs zero m d (there w))
    unfolding visited
    unopened w same = step_both w.store w.live w.left _ _ (λ v s. both_here B w ends)

    call_both : (w v : World) → Steps w v → {visit : Visit ℕ SerialCells} {visit' : Visit ℕ (List Cell)} → Beside B visit visit'
        → {l f l' f' c d : ℕ} → SameCall l f c l' f' d
        → Both B w (call_by_serials t cells_allowed visit l f c (here v)) (call_by_cells t cells_allowed' visit' l' f' d (there v))
    unfolding call_by_serials with_serial_cell opening_account call_by_cells with_cell
    call_both w v s g {l} {f} {c} same_call =
        room_both w v s (ltb v.store.account.live cells_allowed) (ltb (length v.store.cells) cells_allowed') refl refl _ _
        (closed_both s l c f (g.both (with_one_more v l c f) (body_of Translation t f) (body_of Translation t f) (suc (length v.store.cells)) (suc (length v.store.cells)) same))

    at_formal_law : (w v : World) → Leads w v → {visit : Visit ℕ SerialCells} {visit' : Visit ℕ (List Cell)} → Beside B visit visit' → {p q c d : ℕ} → Same p c q d
        → Both B w (formal_by_serials t visit p c (here v)) (formal_by_cells t visit' q d (there v))
    unfolding formal_by_serials formal_by_cells
    at_formal_law w v l g {p} {c} same = both_back B l (formal_both t g v p c (cell_of v.store.cells c))

    node_both : (w : World) {k m c d : ℕ} → Same k c m d → Alike B rs rs w k m c d (translation_node_of t k) (translation_node_of t m)
    node_both w {k} {c} same = alike_itself B rs w k c c (translation_node_of t k) (λ m g. same) (λ p e. same) (λ l f e. same_call) (λ a ns e. same)

    fields_both : (w : World) {k m c d : ℕ} → Same k c m d → (i : ℕ) → Due B w c d (get_elem? (tuple_fields t k) i) (get_elem? (tuple_fields t m) i)
    fields_both w {k} {c} same i = due_itself B w c c (get_elem? (tuple_fields t k) i) (λ m e. same)

    in_step : InStep B (by_serials t cells_allowed) t rs (by_cells t cells_allowed') t rs
    unfolding by_serials by_cells
    in_step =
        record {
          alike = λ {w} h. node_both w h;
          tags = λ h. tags_same t h;
          fields = λ {w} h i. fields_both w h i;
          step = λ w go go' f. step_both w.store w.live w.left go go' f;
          unopened = λ n e. rw (sym e) (record { both = λ w k m c d h. unopened w h });
          opened = λ n n' e. record { rest = n; is = sym e; nested = refl };
          formals_both = λ n n' e f w v s h. at_formal_law w v (record { grown = s.grown; steps = omega (arith, s.steps) }) f h;
          calls_both = λ n n' e f w v s h. call_both w v s f h;
        }

  ends_same : {w : World} {x y : Ending ℕ} → AlikeEnds B w x y → x ≡ y
  ends_same integers = refl
  ends_same (constructors same) = refl
  ends_same ends = refl

  -- where neither is full
  both_end : {w : World} {q : Reached ℕ SerialCells} {r : Reached ℕ (List Cell)} → (Full cells_allowed cells_allowed' w q.ending r.ending → ⊥) → Both B w q r → KeptEnd q r
  both_end h (cut x) = absurd (h x)
  both_end h (arrive v l e) = record { ending = ends_same e; left = refl; cells = refl }

  first_full_only : {w : World} {x y : Ending ℕ} → length w.store.cells + w.left < cells_allowed' → Full cells_allowed cells_allowed' w x y → x ≡ ended no_cell
  first_full_only g (first_full h) = refl
  first_full_only g (second_full h) = absurd (omega (arith, g, h))

  second_full_only : {w : World} {x y : Ending ℕ} → cells_allowed' ≤ cells_allowed → Full cells_allowed cells_allowed' w x y → y ≡ ended no_cell
  second_full_only g (first_full h) = absurd (omega (arith, g, h))
  second_full_only g (second_full h) = refl

  both_evaluated : (t : List ℕ) (rs : List ℤ) (steps nesting : ℕ)
      → Both B (record { left = steps; store = no_serial_cells; live = omega arith }) (serial_evaluation t rs steps nesting cells_allowed)
      (kept_end t rs steps nesting cells_allowed')
  unfolding serial_evaluation kept_end evaluation
  both_evaluated t rs steps nesting =
      (evaluations_in_step B (in_step t rs) nesting nesting refl).both (record { left = steps; store = no_serial_cells; live = omega arith })
      (body_of Translation t 0) (body_of Translation t 0) 0 0 same

module _ (t : List ℕ) (rs : List ℤ) (steps nesting cells_allowed : ℕ) where
  -- where the rule that gives no cell back is not stopped for cells, the other ends the same
  pub kept_serial : ((kept_end t rs steps nesting cells_allowed).ending ≡ ended no_cell → ⊥)
      → KeptEnd (serial_evaluation t rs steps nesting cells_allowed) (kept_end t rs steps nesting cells_allowed)
  kept_serial h = both_end cells_allowed cells_allowed (λ x. h (second_full_only cells_allowed cells_allowed (omega arith) x)) (both_evaluated cells_allowed cells_allowed t rs steps nesting)

  -- where that one is not stopped for cells, the rule that gives none back ends the same with cells enough
  pub serial_kept : ((serial_evaluation t rs steps nesting cells_allowed).ending ≡ ended no_cell → ⊥)
      → KeptEnd (serial_evaluation t rs steps nesting cells_allowed) (kept_end t rs steps nesting (suc (cells_allowed + steps)))
  serial_kept h =
      both_end cells_allowed (suc (cells_allowed + steps)) (λ x. h (first_full_only cells_allowed (suc (cells_allowed + steps)) (omega arith) x))
      (both_evaluated cells_allowed (suc (cells_allowed + steps)) t rs steps nesting)
