-- The rule that a run follows, with the visits to actuals listed, and the rule over serial numbers go in step, stops included: of any
-- translation file, at all allowances.
use mathlib.Core.Path.{◌≡◌, refl, sym, ap}
use Prim.Native.Nat.{ℕ, zero, suc, ◌<◌}
use mathlib.Core.List.{List}
use mathlib.Core.Option.{Option, none, some}
use mathlib.Core.Bool.{Bool, true, false}
use native.Mathlib.Omega.{arith}
use lib.IntN.{ℤ}
use lib.ListN.{length, get_elem?}
use lib.Dec.{ltb, eqb}
use Rattle.definitions.specs.Numbers.{no_actual}
use Rattle.definitions.specs.Layouts.{body_of}
use Rattle.definitions.specs.FormalPlaces.{function_of, position_of}
use Rattle.definitions.specs.TranslationNodes.{translation_node_of, actual, tag_of, tuple_fields}
use Rattle.definitions.specs.Rule.{State, Reached, Visit, with_step, node_due, where_cell, visited}
use Rattle.definitions.specs.Cells.{Entry, Cell, cell_of, remembered, recalled, where_own, under_cell}
use Rattle.definitions.specs.LiveCells.{keeping_live, with_live_cell}
use Rattle.definitions.specs.declared.Layout.TheVariants.{Translation}
use Rattle.rule_laws.specs.SideBySide.{integers, constructors, ends, Both, cut, arrive, Due, Beside, Alike, InStep}
use Rattle.rule_laws.proofs.Lockstep.{both_back, both_here, due_itself, alike_itself}
use Rattle.given_back.specs.SerialCells.{SerialCells, listing_serial, keeping_serial, formal_by_serials, opening_account, with_serial_cell, closed_serial, call_by_serials, by_serials}
use Rattle.given_back.specs.ListedVisits.{Listed, listing, keeping_listed, formal_listed, numbering, with_cell_listed, closed_listed, call_listed, by_listed, every_position}
use Rattle.given_back.proofs.Names.{Named, named_one, grows_all}
use Rattle.given_back.proofs.Twins.{Recalls, nothing, a_number, a_constructor, Twins}
use Rattle.given_back.proofs.Worlds.{Joined, World, here_of, there_of, leads_then, SameNode, same_node, SameCall, same_call, sides}
use Rattle.given_back.proofs.Transitions.{listed_world, listed_leads, with_number, with_constructor, number_leads, constructor_leads, own_named, opened_world}
use Rattle.given_back.proofs.Closing.{closed_both}

-- a value is remembered in both, or in neither
remembered_both : (w : World) (i : ℕ) {c d : ℕ} {r : Reached ℕ Listed} {q : Reached ℕ SerialCells} → Named w.names c d → 0 < c → Both sides w r q
    → Both sides w (remembered (keeping_listed every_position) c i r) (remembered keeping_serial d i q)
unfolding remembered keeping_listed keeping_live keeping_serial
remembered_both w i n h (cut e) = absurd e
remembered_both w i {c} {d} n h (arrive v l (integers {z})) =
    let m = l.names.on c d n in
    both_back sides (leads_then l (number_leads v i m h z)) (both_here sides (with_number v i m h z) integers)
remembered_both w i {c} {d} n h (arrive v l (constructors {k} {c = a} {d = b} (same_node e))) =
    let m = l.names.on c d n in
    both_back sides (leads_then l (constructor_leads v i m h k a b e)) (both_here sides (with_constructor v i m h k a b e) (constructors (same_node e)))
remembered_both w i n h (arrive v l ends) = both_back sides l (both_here sides v ends)

recalled_both : (w : World) {x y : Entry} {r : Reached ℕ Listed} {q : Reached ℕ SerialCells} → Recalls w.names x y → Both sides w r q
    → Both sides w (recalled x (here_of w) r) (recalled y (there_of w) q)
unfolding recalled
recalled_both w nothing b = b
recalled_both w a_number b = both_here sides w integers
recalled_both w (a_constructor n) b = both_here sides w (constructors (same_node n))

own_both : (w : World) (x : Bool) (i : ℕ) {c d : ℕ} {y z : Entry} {r : Reached ℕ Listed} {q : Reached ℕ SerialCells}
    → Named w.names c d → 0 < c → Recalls w.names y z → Both sides w r q
    → Both sides w (where_own (keeping_listed every_position) x c i y (here_of w) r) (where_own keeping_serial x d i z (there_of w) q)
unfolding where_own
own_both w false i n h e b = b
own_both w true i n h e b = recalled_both w e (remembered_both w i n h b)

module _ (b : List ℕ) {visit : Visit ℕ Listed} {visit' : Visit ℕ SerialCells} (ih : Beside sides visit visit') where
  -- an actual, whose visit is listed
  actual_both : (w : World) (i : ℕ) {c d p q : ℕ} (o : Option ℕ) → Named w.names c d → Named w.names p q
      → Both sides w (node_due o no_actual (here_of w) (λ k. visit k p (listing c i (here_of w)))) (node_due o no_actual (there_of w) (λ k. visit' k q (listing_serial d i (there_of w))))
  unfolding node_due listing listing_serial
  actual_both w i none n m = both_here sides w ends
  actual_both w i {p} {q} (some k) n m = both_back sides (listed_leads w i n) (ih.both (listed_world w i n) k k p q (same_node m))

  -- a formal under cells that are twins
  under_both : (w : World) (p : ℕ) {c d : ℕ} {x y : Cell} → Named w.names c d → 0 < c → Twins w.names x y
      → Both sides w (under_cell (keeping_listed every_position) b (λ k v t. visit k v (listing c (position_of b p) t)) p c (some x) (here_of w))
      (under_cell keeping_serial b (λ k v t. visit' k v (listing_serial d (position_of b p) t)) p d (some y) (there_of w))
  unfolding under_cell
  under_both w p {x} {y} n h t =
      let e : eqb (function_of b p) x.callee ≡ eqb (function_of b p) y.callee = ap (eqb (function_of b p)) t.callee in
      let a : actual b p x.label ≡ actual b p y.label = ap (actual b p) t.label in
      rw (e, a)
      (own_both w (eqb (function_of b p) y.callee) (position_of b p) n h (t.entries (position_of b p))
      (actual_both w (position_of b p) (actual b p y.label) n t.previous))

  formal_both : (w : World) (p c d : ℕ) → Named w.names c d
      → Both sides w (under_cell (keeping_listed every_position) b (λ k v t. visit k v (listing c (position_of b p) t)) p c (cell_of w.here.store.cells c) (here_of w))
      (under_cell keeping_serial b (λ k v t. visit' k v (listing_serial d (position_of b p) t)) p d (cell_of w.there.cells d) (there_of w))
  unfolding under_cell cell_of
  formal_both w p zero d n = rw (named_one n w.joined.alive.empty) (both_here sides w ends)
  formal_both w p (suc c) d n =
      let a = w.joined.alive.pairs (suc c) d n (omega arith) in
      rw (a.is_here, a.is_there) (under_both w p n (omega arith) a.twins)

  call_both : (w : World) (l f : ℕ) {c d : ℕ} (x : Bool) → Named w.names c d
      → Both sides w
      (where_cell x (here_of w) (λ t. closed_listed t.store.store (visit (body_of Translation b f) (suc t.store.store.live) (with_cell_listed l c f t))))
      (where_cell x (there_of w) (λ t. closed_serial t.store (visit' (body_of Translation b f) (suc (length t.store.cells)) (with_serial_cell l d f t))))
  unfolding where_cell numbering with_live_cell with_serial_cell opening_account
  call_both w l f false n = both_here sides w ends
  call_both w l f true n = closed_both w l f n (ih.both (opened_world w l f n) (body_of Translation b f) (body_of Translation b f) _ _ (same_node (own_named w l f n)))

-- one step of each
step_both : (left : ℕ) (m : Listed) (q : SerialCells) (names : List ℕ) (j : Joined names m q) (go : State Listed → Reached ℕ Listed) (go' : State SerialCells → Reached ℕ SerialCells)
    → ((n : ℕ) → Both sides (record { left = left; here = m; there = q; names = names; joined = j }) (go (record { left = n; store = m })) (go' (record { left = n; store = q })))
    → Both sides (record { left = left; here = m; there = q; names = names; joined = j }) (with_step left m go) (with_step left q go')
unfolding with_step
step_both zero m q names j go go' f = both_here sides _ ends
step_both (suc n) m q names j go go' f = f n

module _ (b : List ℕ) (rs : List ℤ) (cells_allowed : ℕ) where
  formals_both : {visit : Visit ℕ Listed} {visit' : Visit ℕ SerialCells} → Beside sides visit visit' → (w : World) {p q c d : ℕ} → SameNode w.names p c d q
      → Both sides w ((by_listed b every_position cells_allowed).at_formal visit p c (here_of w)) ((by_serials b cells_allowed).at_formal visit' q d (there_of w))
  unfolding by_listed formal_listed by_serials formal_by_serials
  formals_both ih w {p} {c} {d} (same_node n) = formal_both b ih w p c d n

  calls_both : {visit : Visit ℕ Listed} {visit' : Visit ℕ SerialCells} → Beside sides visit visit' → (w : World) {l f l' f' c d : ℕ} → SameCall w.names l f c d l' f'
      → Both sides w ((by_listed b every_position cells_allowed).at_call visit l f c (here_of w)) ((by_serials b cells_allowed).at_call visit' l' f' d (there_of w))
  unfolding by_listed call_listed by_serials call_by_serials
  calls_both ih w {l} {f} (same_call n) =
      rw (← ap (λ (k : ℕ). ltb k cells_allowed) w.joined.live) (call_both b ih w l f (ltb w.here.store.live cells_allowed) n)

  node_alike : {w : World} {k m c d : ℕ} → SameNode w.names k c d m → Alike sides rs rs w k m c d (translation_node_of b k) (translation_node_of b m)
  node_alike {w} {k} {c} {d} (same_node n) =
      alike_itself sides rs w k c d (translation_node_of b k) (λ m g. same_node n) (λ p e. same_node n) (λ l f e. same_call n) (λ a ns e. same_node n)

  tags_same : {names : List ℕ} {k m c d : ℕ} → SameNode names k c d m → tag_of b k ≡ tag_of b m
  tags_same (same_node n) = refl

  fields_due : {w : World} {k m c d : ℕ} → SameNode w.names k c d m → (i : ℕ) → Due sides w c d (get_elem? (tuple_fields b k) i) (get_elem? (tuple_fields b m) i)
  fields_due {w} {k} {c} {d} (same_node n) i = due_itself sides w c d (get_elem? (tuple_fields b k) i) (λ m e. same_node n)

  pub in_step : InStep sides (by_listed b every_position cells_allowed) b rs (by_serials b cells_allowed) b rs
  unfolding visited
  in_step =
      record {
        alike = node_alike;
        tags = λ h. tags_same h;
        fields = fields_due;
        step = λ w go go' f.
            step_both w.left w.here w.there w.names w.joined go go'
            (λ n. f (record { left = n; here = w.here; there = w.there; names = w.names; joined = w.joined })
            (record { names = grows_all w.names; more = omega arith; older = omega arith; held = λ c i k x h g e. e }));
        unopened = λ n e.
            rw (← e) (record {
              both = λ w k m c d h. step_both w.left w.here w.there w.names w.joined _ _ (λ n. both_here sides w ends);
            });
        opened = λ n m e. record { rest = n; is = sym e; nested = refl };
        formals_both = λ n m e f w v l h. both_back sides l (formals_both f v h);
        calls_both = λ n m e f w v l h. both_back sides l (calls_both f v h);
      }
