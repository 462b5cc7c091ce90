-- Runs of two files that read as translations of sheets with equal trees, by any two labellings, go alike: over cells by serial number, and
-- so by the rule that a run follows, which goes in step with that.
use mathlib.Core.Path.{◌≡◌, refl, sym, ap, ◌∙◌}
use Prim.Native.Nat.{ℕ, zero, suc, ◌<◌}
use mathlib.Core.List.{List, [], ◌∷◌, ◌++◌}
use mathlib.Core.Option.{some}
use mathlib.Core.Bool.{Bool, true, false}
use lib.IntN.{ℤ}
use lib.ListN.{length, get_elem?}
use lib.Dec.{ltb, eqb}
use borrow.Author.Tests.{eq-eqb}
use Rattle.definitions.specs.Layouts.{functions, body_of, owner_of}
use Rattle.definitions.specs.FormalPlaces.{function_of, position_of}
use Rattle.definitions.specs.References.{parameters}
use Rattle.definitions.specs.SheetNodes.{call, sheet_node_of}
use Rattle.definitions.specs.TranslationNodes.{translation_node_of, tag_of, tuple_fields}
use Rattle.definitions.specs.Checks.{sheet_verdict}
use Rattle.definitions.specs.Labels.{Labelling, label_of}
use Rattle.definitions.specs.Translate.{formal_of}
use Rattle.definitions.specs.Rule.{Ending, Reached, Visit, node_due, where_cell, visited}
use Rattle.definitions.specs.Cells.{Cell, new_cell, cell_of, entry_at, where_own, under_cell}
use Rattle.definitions.specs.Run.{ending_outcome}
use Rattle.definitions.specs.declared.Layout.TheVariants.{Sheet, Translation}
use Rattle.definitions.specs.Verdict.{Accepted}
use Rattle.accepted.specs.Child.{argument, component}
use Rattle.accepted.proofs.Elements.{element_there}
use Rattle.accepted.proofs.Head.{functions_least}
use Rattle.accepted.proofs.Owners.{body_below, owner_of_body}
use Rattle.accepted.proofs.Checks.{sheet_shape, trees_pass}
use Rattle.accepted.proofs.Names.{call_below, call_count}
use Rattle.accepted.proofs.Trees.{child_below, child_owner}
use Rattle.cell_rules.specs.Contexts.{Head, head_of, cell_heads, Kept}
use Rattle.cell_rules.proofs.Contexts.{element_added, kept_all_law, kept_added}
use Rattle.rule_laws.specs.SideBySide.{AlikeEnds, integers, constructors, ends, Both, cut, arrive, Due, Beside, Alike, InStep}
use Rattle.rule_laws.proofs.Lockstep.{both_back, both_here, evaluations_in_step}
use Rattle.given_back.specs.SerialCells.{Account, SerialCells, no_serial_cells, listing_serial, keeping_serial, formal_by_serials, opening_account}
use Rattle.given_back.specs.SerialCells.{with_serial_cell, closed_serial, call_by_serials, by_serials, serial_evaluation}
use Rattle.given_back.proofs.Evaluations.{rule_serial}
use Rattle.shared_runs.specs.Reads.{AlikeSheets, Named, Reads}
use Rattle.shared_runs.specs.SameRuns.{SameSerialEnds, SameRuns}
use Rattle.shared_runs.proofs.SameTrees.{trees_then, trees_itself, same_nodes, same_calls, pairs_at, element_found}
use Rattle.shared_runs.proofs.FormalsRead.{formal_function, formal_position}
use Rattle.shared_runs.proofs.AlikeCells.{no_cell, cells_map, cells_even, cells_at, cells_added}
use Rattle.shared_runs.proofs.Alongside.{Twins, Fits, outermost, within, AtNodes, BuiltBy, nothing, World, here_of, there_of}
use Rattle.shared_runs.proofs.Alongside.{fits_kept, entry_kept, OfFormal, OfCall, sides, due_found, child_at, alike_by}
use Rattle.shared_runs.proofs.AlikeChanges.{leaving, listed, step_both, remembered_both, closed_both, recalled_both}

-- visits that list themselves first, as visits to the actual of formal p under context w
abbrev listing : List ℕ → Visit ℕ SerialCells → ℕ → ℕ → Visit ℕ SerialCells
listing t visit p w n v s = visit n v (listing_serial w (position_of t p) s)

module _ (same same' : Labelling) (a b : List ℕ) where
  module _ {t u : List ℕ} (first : sheet_verdict a ≡ Accepted) (second : sheet_verdict b ≡ Accepted) (sheets : AlikeSheets a b)
      (one : Reads same a t) (two : Reads same' b u) (rs : List ℤ) (cells_allowed : ℕ) where
    node_alike : {w : World same same' a b} {k m c d : ℕ} → AtNodes same same' a b w.here w.there k m c d
        → Alike (sides same same' a b) rs rs w k m c d (translation_node_of t k) (translation_node_of u m)
    node_alike {k} {m} h =
        rw (one.becomes k h.like.one, two.becomes m h.like.two)
        (alike_by same same' a b first second h refl refl refl
        (same_nodes a a first h.like.own h.like.with_one) (same_nodes a b first h.like.own h.like.with_two))

    tags_alike : {cs ds : List Cell} {k m c d : ℕ} → BuiltBy same same' a b cs ds k m c d → tag_of t k ≡ tag_of u m
    tags_alike {k} {m} h = one.tag k h.at.like.one h.is_one ∙ sym (two.tag m h.at.like.two h.is_two)

    fields_alike : {w : World same same' a b} {k m c d : ℕ} → BuiltBy same same' a b w.here w.there k m c d → (i : ℕ)
        → Due (sides same same' a b) w c d (get_elem? (tuple_fields t k) i) (get_elem? (tuple_fields u m) i)
    fields_alike {w} {k} {m} {c} {d} h i =
        rw (one.fields k h.at.like.one h.is_one, two.fields m h.at.like.two h.is_two)
        (due_found same same' a b (element_found (λ k m. AtNodes same same' a b w.here w.there k m c d) i h.with_one h.with_two
        (λ x k' m' p q r s t.
        child_at same same' a b first second h.at h.is_own h.is_one h.is_two (component i p) (component i q) (component i r) s t)))

    -- the actuals that two labels name
    actual_at : {cs ds : List Cell} {f i k m x p : ℕ} {ns : List ℕ} (l : Twins a b k m x) → sheet_node_of a x ≡ call f ns
        → i < parameters a f
        → Fits same same' a b cs ds p (owner_of Sheet a x)
        → (g : Named a t f k i (label_of same a f k)) (h : Named b u f m i (label_of same' b f m))
        → AtNodes same same' a b cs ds g.node h.node p p
    actual_at {f} {i} {x} {ns} l e inside fits g h =
        let y = element_there ns i (rw (call_count a first x l.own e) inside) in
        let c = same_calls a a first l.own e (trees_then l.with_one g.equal) in
        let d = same_calls a b first l.own e (trees_then l.with_two h.equal) in
        let gs : g.arguments ≡ c.arguments = let z = sym g.is ∙ c.is in cc in
        let hs : h.arguments ≡ d.arguments = let z = sym h.is ∙ d.is in cc in
        record {
          twin = y.element;
          like = record {
            own = child_below a (trees_pass a first) x l.own e (argument i y.there);
            one = child_below a (trees_pass a first) g.first g.below g.is (argument i g.there);
            two = child_below b (trees_pass b second) h.first h.below h.is (argument i h.there);
            with_one = pairs_at i c.pairs y.there (rw (← gs) g.there);
            with_two = pairs_at i d.pairs y.there (rw (← hs) h.there);
          };
          contexts = refl;
          fits = rw (child_owner a (trees_pass a first) x l.own e (argument i y.there)) fits;
        }

    body_like : (f : ℕ) → f < functions a → Twins a b (body_of Translation t f) (body_of Translation u f) (body_of Sheet a f)
    body_like f h =
        let g : f < functions b = rw sheets.count at h in
        let x = body_below Sheet a (sheet_shape a first) f h in
        rw (one.body f h, two.body f g)
        (record {
          own = x;
          one = x;
          two = body_below Sheet b (sheet_shape b second) f g;
          with_one = trees_itself a first (body_of Sheet a f) x;
          with_two = sheets.bodies f h;
        })

    module _ (visit visit' : Visit ℕ SerialCells) (beside : Beside (sides same same' a b) visit visit') (w : World same same' a b) where
      -- a formal under cells of its own function's calls
      own_both : (f i c k m x p : ℕ) {ns : List ℕ} {y z : Cell} → i < parameters a f → Twins a b k m x → sheet_node_of a x ≡ call f ns
          → Fits same same' a b w.here w.there p (owner_of Sheet a x)
          → get_elem? w.here c ≡ some y → head_of y ≡ record { label = label_of same a f k; previous = p; callee = f }
          → get_elem? w.there c ≡ some z → head_of z ≡ record { label = label_of same' b f m; previous = p; callee = f }
          → Both (sides same same' a b) w (under_cell keeping_serial t (listing t visit (formal_of a f i) (suc c)) (formal_of a f i) (suc c) (some y) (here_of same same' a b w))
          (under_cell keeping_serial u (listing u visit' (formal_of b f i) (suc c)) (formal_of b f i) (suc c) (some z) (there_of same same' a b w))
      unfolding under_cell where_own node_due entry_at listing_serial
      own_both f i c k m x p {y} {z} h l n fits e d e' d' =
          let hf = call_below a first x l.own n in
          let hf' : f < functions b = rw sheets.count at hf in
          let h' = rw (sheets.parameters f hf) at h in
          let g = one.names f k i l.one (same_calls a a first l.own n l.with_one).is h in
          let j = two.names f m i l.two (same_calls a b first l.own n l.with_two).is h' in
          let o : eqb (function_of t (formal_of a f i)) y.callee ≡ true = eq-eqb _ _ (formal_function one f i hf h ∙ sym (ap (λ (q : Head). q.callee) d)) in
          let o' : eqb (function_of u (formal_of b f i)) z.callee ≡ true = eq-eqb _ _ (formal_function two f i hf' h' ∙ sym (ap (λ (q : Head). q.callee) d')) in
          let s : y.label ≡ label_of same a f k = ap (λ (q : Head). q.label) d in
          let s' : z.label ≡ label_of same' b f m = ap (λ (q : Head). q.label) d' in
          let v : y.previous ≡ p = ap (λ (q : Head). q.previous) d in
          let v' : z.previous ≡ p = ap (λ (q : Head). q.previous) d' in
          let x = listed same same' a b (record { serial = suc c; position = i }) w in
          rw (o, o', formal_position one f i hf h, formal_position two f i hf' h', s, s', v, v', g.listed, j.listed)
          (recalled_both same same' a b w (cells_at _ c i nothing w.remember e e')
          (remembered_both same same' a b w (suc c) i
          (both_back (sides same same' a b) {v = x} (record { one = kept_all_law w.here; two = kept_all_law w.there })
          (beside.both x g.node j.node p p (actual_at l n h fits g j)))))

      formal_by : (f i c : ℕ) → i < parameters a f → Fits same same' a b w.here w.there c f
          → Both (sides same same' a b) w (under_cell keeping_serial t (listing t visit (formal_of a f i) c) (formal_of a f i) c (cell_of w.here c) (here_of same same' a b w))
          (under_cell keeping_serial u (listing u visit' (formal_of b f i) c) (formal_of b f i) c (cell_of w.there c) (there_of same same' a b w))
      unfolding under_cell cell_of
      formal_by f i zero h outermost = both_here (sides same same' a b) w ends
      formal_by f i (suc c) h (within {p} {k} {m} {x} e d l n fits) =
          rw (e.there, d.there) (own_both f i c k m x p h l n fits e.there e.is d.there d.is)

      formal_both : {p q c d : ℕ} → OfFormal same same' a b w p q c d
          → Both (sides same same' a b) w ((by_serials t cells_allowed).at_formal visit p c (here_of same same' a b w))
          ((by_serials u cells_allowed).at_formal visit' q d (there_of same same' a b w))
      unfolding by_serials formal_by_serials
      formal_both {c} h = rw (h.is_one, h.is_two, ← h.contexts) (formal_by h.function h.position c h.inside h.fits)

      -- the bodies of two calls, each under a cell that was added for it
      cell_both : (f k m x c : ℕ) {ns : List ℕ} (y : Bool) → Twins a b k m x → sheet_node_of a x ≡ call f ns
          → Fits same same' a b w.here w.there c (owner_of Sheet a x)
          → Both (sides same same' a b) w
          (where_cell y (here_of same same' a b w)
          (λ s. closed_serial s.store (visit (body_of Translation t f) (suc (length s.store.cells)) (with_serial_cell (label_of same a f k) c f s))))
          (where_cell y (there_of same same' a b w)
          (λ s. closed_serial s.store (visit' (body_of Translation u f) (suc (length s.store.cells)) (with_serial_cell (label_of same' b f m) c f s))))
      unfolding where_cell with_serial_cell new_cell
      cell_both f k m x c false l e fits = both_here (sides same same' a b) w ends
      cell_both f k m x c true l e fits =
          let g = new_cell (label_of same a f k) c f in
          let h = new_cell (label_of same' b f m) c f in
          let r : Kept cell_heads w.here (w.here ++ (g ∷ [])) = kept_added w.here g in
          let s : Kept cell_heads w.there (w.there ++ (h ∷ [])) = kept_added w.there h in
          let v : World same same' a b = record {
            left = w.left;
            here = w.here ++ (g ∷ []);
            there = w.there ++ (h ∷ []);
            remember = cells_added _ (label_of same a f k) (label_of same' b f m) c c f f nothing (cells_map (entry_kept same same' a b r s) w.remember);
            account = opening_account (suc (length w.here)) w.account;
            visits = w.visits;
          } in
          let z = call_below a first x l.own e in
          let even = cells_even _ w.remember in
          let q : get_elem? (w.there ++ (h ∷ [])) (length w.here) ≡ some h = rw even (element_added w.there h) in
          let y : Fits same same' a b v.here v.there (suc (length w.here)) f =
          within (record { cell = g; there = element_added w.here g; is = refl }) (record { cell = h; there = q; is = refl }) l e (fits_kept same same' a b r s fits) in
          closed_both same same' a b w w (both_back (sides same same' a b) {v = v} (record { one = r; two = s })
          (rw (← even) (beside.both v (body_of Translation t f) (body_of Translation u f) (suc (length w.here)) (suc (length w.here))
          (record {
            twin = body_of Sheet a f;
            like = body_like f z;
            contexts = refl;
            fits = rw (owner_of_body Sheet a (sheet_shape a first) f z) y;
          }))))

      call_both : {l f l' f' c d : ℕ} → OfCall same same' a b w l f l' f' c d
          → Both (sides same same' a b) w ((by_serials t cells_allowed).at_call visit l f c (here_of same same' a b w))
          ((by_serials u cells_allowed).at_call visit' l' f' d (there_of same same' a b w))
      unfolding by_serials call_by_serials
      call_both {f} {c} h =
          rw (h.is_one, h.is_two, h.function, ← h.contexts)
          (cell_both f h.one h.two h.twin c (ltb w.account.live cells_allowed) h.like h.is h.fits)

    in_step : InStep (sides same same' a b) (by_serials t cells_allowed) t rs (by_serials u cells_allowed) u rs
    unfolding visited
    in_step =
        record {
          alike = node_alike;
          tags = tags_alike;
          fields = fields_alike;
          step = λ w go go' f.
              step_both same same' a b w.left w go go' (λ n. f (leaving same same' a b n w) (record { one = kept_all_law w.here; two = kept_all_law w.there }));
          unopened = λ n e.
              rw (← e) (record {
                both = λ w k m c d h. step_both same same' a b w.left w _ _ (λ n. both_here (sides same same' a b) w ends);
              });
          opened = λ n m e. record { rest = n; is = sym e; nested = refl };
          formals_both = λ n m e f w v l h. both_back (sides same same' a b) l (formal_both _ _ f v h);
          calls_both = λ n m e f w v l h. both_back (sides same same' a b) l (call_both _ _ f v h);
        }

    ends_same : {v : World same same' a b} {e d : Ending ℕ} → AlikeEnds (sides same same' a b) v e d → ending_outcome t e ≡ ending_outcome u d
    unfolding ending_outcome
    ends_same integers = refl
    ends_same (constructors h) = rw (tags_alike h) refl
    ends_same ends = refl

    same_from : {w : World same same' a b} {r q : Reached ℕ SerialCells} → Both (sides same same' a b) w r q → SameSerialEnds t u r q
    same_from (cut z) = absurd z
    same_from (arrive v l e) = record { outcome = ends_same e; left = refl; account = refl }

    -- visits from any states and contexts that go together
    pub visits_alike : (nesting : ℕ) (w : World same same' a b) {k m c d : ℕ} → AtNodes same same' a b w.here w.there k m c d
        → SameSerialEnds t u (visited (by_serials t cells_allowed) t rs nesting k c (here_of same same' a b w)) (visited (by_serials u cells_allowed) u rs nesting m d (there_of same same' a b w))
    visits_alike nesting w h = same_from ((evaluations_in_step (sides same same' a b) in_step nesting nesting refl).both w _ _ _ _ h)

    -- and the whole evaluations
    pub serials_alike : (steps nesting : ℕ)
        → SameSerialEnds t u (serial_evaluation t rs steps nesting cells_allowed) (serial_evaluation u rs steps nesting cells_allowed)
    unfolding serial_evaluation
    serials_alike steps nesting =
        visits_alike nesting (record { left = steps; here = []; there = []; remember = no_cell; account = no_serial_cells.account; visits = [] })
        (record { twin = body_of Sheet a 0; like = body_like 0 (functions_least Sheet a (sheet_shape a first)); contexts = refl; fits = outermost })

    -- so the rule that a run follows, which goes in step with them
    pub runs_alike : (steps nesting : ℕ) → SameRuns t u rs steps nesting cells_allowed
    runs_alike steps nesting =
        let h = serials_alike steps nesting in
        let r = rule_serial t rs steps nesting cells_allowed in
        let q = rule_serial u rs steps nesting cells_allowed in
        record {
          outcome = r.outcome ∙ h.outcome ∙ sym q.outcome;
          left = r.left ∙ h.left ∙ sym q.left;
          cells = r.most ∙ ap (λ (x : Account). x.most) h.account ∙ sym q.most;
        }
