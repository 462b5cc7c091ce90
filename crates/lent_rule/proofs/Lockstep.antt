-- The rule over lent bytes and the rule that gives cells back go in lockstep, in an accepted translation: at each visit the bytes are the
-- cells, in order, written over what was lent.
use mathlib.Core.Path.{◌≡◌, refl, sym, ap, subst, ◌∙◌}
use Prim.Native.Nat.{ℕ, zero, suc, ◌*◌, ◌≤◌, ◌<◌, max}
use mathlib.Core.List.{List}
use mathlib.Core.Bool.{Bool, true, false}
use mathlib.Core.Option.{Option, none, some}
use native.Mathlib.Omega.{arith}
use native.Mathlib.Nat.{le_refl, le_trans}
use lib.IntN.{ℤ}
use lib.ListN.{length, get_elem?}
use lib.Dec.{ltb, eqb}
use borrow.Author.Tests.{ltb-true, ne_eqb}
use Rattle.definitions.specs.Sizes.{most_nodes, most_cells, cell_size, most_fields}
use Rattle.definitions.specs.Numbers.{no_actual}
use Rattle.definitions.specs.Layouts.{nodes, items, functions, body_of}
use Rattle.definitions.specs.FormalPlaces.{function_of, position_of}
use Rattle.definitions.specs.TranslationNodes.{translation_node_of, actual, tag_of, tuple_fields}
use Rattle.definitions.specs.Checks.{translation_verdict}
use Rattle.definitions.specs.Rule.{Value, Ending, value, State, Reached, Visit, reach, with_step, node_due, where_cell, visited}
use Rattle.definitions.specs.Cells.{Entry, Cell, new_cell, cell_of, remembered, recalled, where_own, under_cell}
use Rattle.definitions.specs.LiveCells.{LiveCells, keeping_live, formal_by_live_cells, with_live_cell, closing, closed, call_by_live_cells, by_live_cells}
use Rattle.definitions.specs.Run.{cells_over}
use Rattle.definitions.specs.declared.Layout.TheVariants.{Translation}
use Rattle.definitions.specs.Verdict.{Accepted}
use Rattle.laws.proofs.ByteFiles.{Bytes}
use Rattle.laws.proofs.Cells.{value_length}
use Rattle.laws.proofs.Written.{written_length}
use Rattle.accepted.proofs.Elements.{element_there, element_below}
use Rattle.accepted.proofs.Head.{functions_limit, nodes_limit}
use Rattle.accepted.proofs.Owners.{body_below}
use Rattle.accepted.proofs.Checks.{translation_shape}
use Rattle.accepted.proofs.ParameterCounts.{formal_position}
use Rattle.accepted.proofs.TranslationNames.{formal_below, translation_call_below, mention_below, actual_below}
use Rattle.rule_laws.specs.Keeps.{Keeps, Proper, an_end, Keeping}
use Rattle.rule_laws.specs.SideBySide.{SideBySide, AlikeEnds, integers, constructors, ends, Both, cut, arrive, Due, Beside, Alike, InStep}
use Rattle.rule_laws.proofs.Lockstep.{both_back, both_here, both_due, due_itself, alike_itself, evaluations_in_step}
use Rattle.lent_rule.specs.Lent.{Lent, keeping_lent, under_lent, formal_by_lent, with_lent_cell, closing_lent, closed_lent, call_by_lent, by_lent}
use Rattle.lent_rule.specs.Standing.{TupleAt, NarrowReadings, EntryInOrder, nothing, a_number}
use Rattle.lent_rule.specs.Standing as Standing
use Rattle.lent_rule.proofs.CellReads.{EntryFits, fits_nothing, fits_number, fits_constructor, label_read, previous_read, callee_read, entry_read}
use Rattle.lent_rule.proofs.CellWrites.{entry_over, cell_over}
use Rattle.lent_rule.proofs.Tuples.{tuple_at, member_below}
use Rattle.lent_rule.proofs.NodeNumbers.{call_label}
use Rattle.lent_rule.proofs.InOrder.{order_full, LiveInOrder, live_added, live_value, live_closed, orderly, proper_entry, order_kept}

entry_fits : {b : List ℕ} {most : ℕ} {o : Entry} → nodes b ≤ most_nodes → most ≤ most_cells → EntryInOrder b most o → EntryFits o
entry_fits h g nothing = fits_nothing
entry_fits h g (a_number n) = fits_number n
entry_fits h g (Standing.a_constructor {k} {w} t l) =
    let p : k < 65536 = omega (arith, t.below) in
    let q : w < 65536 = omega arith in
    fits_constructor p q

-- what is lent, with these cells written over it
abbrev pub lent_of : List ℕ → LiveCells → Lent
lent_of before m = record { bytes = cells_over before m.cells; live = m.live; most = length m.cells; oldest = m.oldest }

-- steps left, and cells in order
pub record World (b : List ℕ) (cells_allowed : ℕ) : Type 0 where
  pub left : ℕ
  pub store : LiveCells
  pub order : LiveInOrder b cells_allowed store

-- how many cells there are, alive or given back
abbrev pub count : {b : List ℕ} {cells_allowed : ℕ} → World b cells_allowed → ℕ
count w = length w.store.cells

module _ (b : List ℕ) (cells_allowed : ℕ) where
  -- one number that has a property, under one context, of the cells
  pub data One (P : ℕ → Type 0) (w : World b cells_allowed) : ℕ → ℕ → ℕ → ℕ → Type 0 where
    one : {k c : ℕ} → P k → c ≤ count w → One P w k k c c

  -- one call, whose label has 16 bits and whose function is there
  pub data OneCall (w : World b cells_allowed) : ℕ → ℕ → ℕ → ℕ → ℕ → ℕ → Type 0 where
    one_call : {l f c : ℕ} → l < 65536 → f < functions b → c ≤ count w → OneCall w l f l f c c

  pub one_onward : {P : ℕ → Type 0} {w v : World b cells_allowed} {k m c d : ℕ} → count w ≤ count v → One P w k m c d → One P v k m c d
  one_onward l (one h g) = one h (le_trans g l)

  module _ (before : List ℕ) where
    abbrev pub sides : SideBySide ℕ Lent ℕ LiveCells
    sides =
        record {
          World = World b cells_allowed;
          here = λ w. record { left = w.left; store = lent_of before w.store };
          there = λ w. record { left = w.left; store = w.store };
          Leads = λ w v. count w ≤ count v;
          stays = λ w. le_refl (count w);
          onward = λ l g. le_trans l g;
          Steps = λ w v. count w ≤ count v;
          steps_lead = λ l. l;
          At = One (λ k. k < nodes b);
          at_onward = one_onward;
          Built = One (TupleAt b);
          AtFormal = One (λ p. p < items b);
          AtCall = OneCall;
          Nested = λ n m. n ≡ m;
          Cut = λ w r q. ⊥;
          cut_back = λ l h. h;
          cut_number = λ go go' h. h;
          cut_constructor = λ go go' h. h;
        }

module _ (b : List ℕ) (accepted : translation_verdict b ≡ Accepted) (bytes : Bytes b) (rs : List ℤ) (narrow : NarrowReadings rs)
    (cells_allowed : ℕ) (ceiling : cells_allowed ≤ most_cells) (before : List ℕ) (room : cell_size * cells_allowed ≤ length before) where
  abbrev B : SideBySide ℕ Lent ℕ LiveCells
  B = sides b cells_allowed before

  abbrev K : Keeps b rs ℕ LiveCells
  K = orderly b accepted bytes rs narrow cells_allowed

  -- a value is remembered on both sides
  value_both : (w : World b cells_allowed) (c i : ℕ) (v : Value ℕ) → c < count w → i < most_fields → EntryInOrder b (count w) (some v)
      → ((u : World b cells_allowed) → count w ≤ count u → AlikeEnds B u (value v) (value v))
      → Both B w (reach (value v) (keeping_lent (suc c) i (value v) (B.here w))) (reach (value v) (keeping_live (suc c) i (value v) (B.there w)))
  unfolding keeping_lent keeping_live
  value_both w c i v h g o f =
      let cs = w.store.cells in
      let x = element_there cs c h in
      let same = value_length (suc c) i v cs in
      let u : World b cells_allowed =
      record {
        left = w.left;
        store = (keeping_live (suc c) i (value v) (B.there w)).store;
        order = live_value (B.there w) (suc c) i o w.order;
      } in
      let grown : count w ≤ count u = omega (arith, same) in
      let over = entry_over v before cs c i x.element (order_full w.order.cells) (omega (arith, w.order.cells.few)) x.there g in
      let lent : List ℕ → ℕ → State Lent =
      λ m n. record { left = w.left; store = record { bytes = m; live = u.store.live; most = n; oldest = u.store.oldest } } in
      let is : keeping_lent (suc c) i (value v) (B.here w) ≡ B.here u =
      ap (λ (m : List ℕ). lent m (count w)) over ∙ ap (λ (n : ℕ). lent (cells_over before u.store.cells) n) (sym same) in
      subst (λ (s : State Lent). Both B w (reach (value v) s) (reach (value v) (B.there u))) (sym is) (both_back B grown (both_here B u (f u grown)))

  memory_from : (w : World b cells_allowed) (c i : ℕ) {e d : Ending ℕ} → c < count w → i < most_fields → Proper K w.store d → AlikeEnds B w e d
      → Both B w (reach e (keeping_lent (suc c) i e (B.here w))) (reach d (keeping_live (suc c) i d (B.there w)))
  unfolding keeping_lent keeping_live
  memory_from w c i h g p (integers {z}) = value_both w c i _ h g (proper_entry b accepted bytes rs narrow cells_allowed p) (λ u l. integers)
  memory_from w c i h g p (constructors (one t k)) =
      value_both w c i _ h g (proper_entry b accepted bytes rs narrow cells_allowed p) (λ u l. constructors (one t (le_trans k l)))
  memory_from w c i h g p ends = both_here B w ends

  memory_both : (w : World b cells_allowed) (c i : ℕ) {r : Reached ℕ Lent} {q : Reached ℕ LiveCells} → c < count w → i < most_fields
      → Proper K q.state.store q.ending → Both B w r q → Both B w (remembered keeping_lent (suc c) i r) (remembered keeping_live (suc c) i q)
  unfolding remembered
  memory_both w c i h g p (cut x) = absurd x
  memory_both w c i h g p (arrive v l e) = both_back B l (memory_from v c i (le_trans h l) g p e)

  recalled_both : (w : World b cells_allowed) {o : Entry} {r : Reached ℕ Lent} {q : Reached ℕ LiveCells} → EntryInOrder b (count w) o
      → Both B w r q → Both B w (recalled o (B.here w) r) (recalled o (B.there w) q)
  unfolding recalled
  recalled_both w nothing g = g
  recalled_both w (a_number n) g = both_here B w integers
  recalled_both w (Standing.a_constructor t h) g = both_here B w (constructors (one t h))

  own_both : (w : World b cells_allowed) (t : Bool) (c i : ℕ) {o : Entry} {r : Reached ℕ Lent} {q : Reached ℕ LiveCells} → c < count w
      → i < most_fields → EntryInOrder b (count w) o → Proper K q.state.store q.ending → Both B w r q
      → Both B w (where_own keeping_lent t (suc c) i o (B.here w) r) (where_own keeping_live t (suc c) i o (B.there w) q)
  unfolding where_own
  own_both w false c i h g o p f = f
  own_both w true c i h g o p f = recalled_both w o (memory_both w c i h g p f)

  -- the world after a call that began in world w and whose visit ended in world u
  abbrev after_call : (w u : World b cells_allowed) → Ending ℕ → count w ≤ count u → World b cells_allowed
  after_call w u e l =
      record { left = u.left; store = closing w.store e u.store; order = live_closed {m = w.store} {n = u.store} e l w.order u.order }

  closed_both : (w : World b cells_allowed) {r : Reached ℕ Lent} {q : Reached ℕ LiveCells} → Both B w r q
      → Both B w (closed_lent w.store.live w.store.oldest r) (closed w.store q)
  unfolding closed_lent closing_lent closed closing reach
  closed_both w (cut x) = absurd x
  closed_both w (arrive u l integers) = both_back B l (both_here B (after_call w u _ l) integers)
  closed_both w (arrive u l (constructors (one t h))) = both_back B l (both_here B (after_call w u _ l) (constructors (one t h)))
  closed_both w (arrive u l ends) = both_back B l (both_here B (after_call w u _ l) ends)

  module _ (visit : Visit ℕ Lent) (go : Visit ℕ LiveCells) (both : Beside B visit go) (kept : Keeping K go) (w : World b cells_allowed) where
    abbrev lent : State Lent
    lent = B.here w

    abbrev cells : State LiveCells
    cells = B.there w

    actual_proper : (o : Option ℕ) (d : ℕ) → d ≤ count w → ((n : ℕ) → o ≡ some n → n < nodes b)
        → Proper K (node_due o no_actual cells (λ n. go n d cells)).state.store (node_due o no_actual cells (λ n. go n d cells)).ending
    unfolding node_due reach
    actual_proper none d h f = an_end tt
    actual_proper (some n) d h f = (kept.keeps n d cells (record { order = w.order; node = f n refl; cell = h })).proper

    cell_both : (p c : ℕ) (x : Cell) → get_elem? w.store.cells c ≡ some x → p < items b
        → Both B w (under_lent b visit p (suc c) lent false) (under_cell keeping_live b go p (suc c) (some x) cells)
    unfolding under_lent under_cell
    cell_both p c x e h =
        let cs = w.store.cells in
        let order = w.order.cells in
        let full = order_full order in
        let y = order.cell c x e in
        let few = order.few in
        let below = y.previous in
        let i = position_of b p in
        let small = formal_position b accepted p h in
        let fits = entry_fits (nodes_limit Translation b (translation_shape b accepted)) (le_trans few ceiling) (y.entries i) in
        let named : (n : ℕ) → actual b p x.label ≡ some n → n < nodes b = λ n q. actual_below b accepted p x.label h q in
        rw (
          callee_read before cs full c x e y.callee,
          label_read before cs full c x e y.label,
          previous_read before cs full c x e (omega arith),
          entry_read before cs full c x e (omega arith) i small fits,
        )
        (own_both w (eqb (function_of b p) x.callee) c i (element_below cs c e) small (y.entries i)
        (actual_proper (actual b p x.label) x.previous below named)
        (both_due B w x.previous x.previous no_actual both (due_itself B w _ _ (actual b p x.label) (λ n q. one (named n q) below))))

    formal_by : (p c : ℕ) → p < items b → c ≤ count w → Both B w (formal_by_lent b visit p c lent) (formal_by_live_cells b go p c cells)
    unfolding formal_by_lent formal_by_live_cells cell_of under_lent under_cell
    formal_by p zero h g = both_here B w ends
    formal_by p (suc c) h g =
        let x = element_there w.store.cells c g in
        rw (ne_eqb (suc c) 0 (λ e. omega arith), x.there) (cell_both p c x.element x.there h)

    formal_both : {p q c d : ℕ} → B.AtFormal w p q c d → Both B w (formal_by_lent b visit p c lent) (formal_by_live_cells b go q d cells)
    formal_both (one {k = p} {c} h g) = formal_by p c h g

    called_both : (l f c : ℕ) → l < 65536 → f < functions b → c ≤ count w → (t : Bool) → ltb w.store.live cells_allowed ≡ t
        → Both B w (where_cell t lent (λ s. closed_lent s.store.live s.store.oldest (visit (body_of Translation b f) (suc s.store.live) (with_lent_cell l c f s))))
        (where_cell t cells (λ s. closed s.store (go (body_of Translation b f) (suc s.store.live) (with_live_cell l c f s))))
    unfolding where_cell with_lent_cell with_live_cell
    called_both l f c h k g false e = both_here B w ends
    called_both l f c h k g true e =
        let cs = w.store.cells in
        let n = w.store.live in
        let alive = w.order.alive in
        let few = w.order.cells.few in
        let less = ltb-true n cells_allowed e in
        let limit = functions_limit Translation b (translation_shape b accepted) in
        let v : World b cells_allowed =
        record { left = w.left; store = (with_live_cell l c f cells).store; order = live_added cells l c f w.order less g h (omega arith) } in
        let long = written_length cs n (new_cell l c f) alive in
        let over = cell_over before cs n l c f alive (order_full w.order.cells) (omega arith) (omega arith) in
        let lent_with : List ℕ → ℕ → State Lent =
        λ m k. record { left = w.left; store = record { bytes = m; live = suc n; most = k; oldest = suc n } } in
        let is : with_lent_cell l c f lent ≡ B.here v =
        ap (λ (m : List ℕ). lent_with m (max (length cs) (suc n))) over
        ∙ ap (λ (k : ℕ). lent_with (cells_over before v.store.cells) k) (sym long) in
        let body = body_of Translation b f in
        let there = body_below Translation b (translation_shape b accepted) f k in
        closed_both w
        (subst (λ (s : State Lent). Both B w (visit body (suc n) s) (go body (suc n) (B.there v))) (sym is)
        (both_back B (omega (arith, long)) (both.both v body body _ _ (one there v.order.alive))))

    call_both : {l f l' f' c d : ℕ} → B.AtCall w l f l' f' c d
        → Both B w (call_by_lent b cells_allowed visit l f c lent) (call_by_live_cells b cells_allowed go l' f' d cells)
    unfolding call_by_lent call_by_live_cells
    call_both (one_call {l} {f} {c} h k g) = called_both l f c h k g (ltb w.store.live cells_allowed) refl

  -- one step of each
  step_both : (left : ℕ) (m : LiveCells) (o : LiveInOrder b cells_allowed m) (go : State Lent → Reached ℕ Lent) (go' : State LiveCells → Reached ℕ LiveCells)
      → ((n : ℕ) → Both B (record { left = left; store = m; order = o }) (go (record { left = n; store = lent_of before m })) (go' (record { left = n; store = m })))
      → Both B (record { left = left; store = m; order = o }) (with_step left (lent_of before m) go) (with_step left m go')
  unfolding with_step
  step_both zero m o go go' f = both_here B _ ends
  step_both (suc n) m o go go' f = f n

  alike_one : {w : World b cells_allowed} {k m c d : ℕ} → B.At w k m c d → Alike B rs rs w k m c d (translation_node_of b k) (translation_node_of b m)
  alike_one {w} (one {k} {c} h g) =
      alike_itself B rs w k c c (translation_node_of b k)
      (λ n m. one (mention_below b accepted k h refl m) g)
      (λ p e. one (formal_below b accepted k h e) g)
      (λ l f e. one_call (call_label b bytes k l f e) (translation_call_below b accepted k h e) g)
      (λ a ns e. one (tuple_at b accepted k a ns h e) g)

  tags_one : {w : World b cells_allowed} {k m c d : ℕ} → B.Built w k m c d → tag_of b k ≡ tag_of b m
  tags_one (one t g) = refl

  fields_one_law : {w : World b cells_allowed} {k m c d : ℕ} → B.Built w k m c d → (i : ℕ)
      → Due B w c d (get_elem? (tuple_fields b k) i) (get_elem? (tuple_fields b m) i)
  fields_one_law {w} (one {k} {c} t g) i = due_itself B w c c (get_elem? (tuple_fields b k) i) (λ n e. one (member_below b accepted k i n t e) g)

  in_step : InStep B (by_lent b cells_allowed) b rs (by_live_cells b cells_allowed) b rs
  unfolding visited by_lent by_live_cells
  in_step =
      record {
        alike = alike_one;
        tags = tags_one;
        fields = fields_one_law;
        step = λ w go go' f.
            step_both w.left w.store w.order go go' (λ m. f (record { left = m; store = w.store; order = w.order }) (le_refl (count w)));
        unopened = λ n e.
            rw (← e) (record { both = λ w k m c d h. step_both w.left w.store w.order _ _ (λ m. both_here B w ends) });
        opened = λ n m e. record { rest = n; is = sym e; nested = refl };
        formals_both = λ n m e f w v l h. both_back B l (formal_both _ _ f (order_kept b accepted bytes rs narrow cells_allowed m) v h);
        calls_both = λ n m e f w v l h. both_back B l (call_both _ _ f (order_kept b accepted bytes rs narrow cells_allowed m) v h);
      }

  -- every visit of the rule goes in lockstep
  pub visits_in_step : (n k c : ℕ) (w : World b cells_allowed) → k < nodes b → c ≤ count w
      → Both B w (visited (by_lent b cells_allowed) b rs n k c (B.here w)) (visited (by_live_cells b cells_allowed) b rs n k c (B.there w))
  visits_in_step n k c w h g = (evaluations_in_step B in_step n n refl).both w k k c c (one h g)
