-- What changes alike in two evaluations side by side: a step of each, a value that each remembers or uses, and what calls leave.
use Prim.Native.Nat.{ℕ, zero, suc}
use mathlib.Core.List.{List, ◌∷◌}
use mathlib.Core.Option.{some}
use lib.ListN.{length}
use Rattle.definitions.specs.Labels.{Labelling}
use Rattle.definitions.specs.Rule.{Value, integer, constructor, value, ended, State, Reached, reach, with_step}
use Rattle.definitions.specs.Cells.{Entry, with_value, remembered, recalled}
use Rattle.definitions.specs.LiveCells.{older, live_after}
use Rattle.cell_rules.proofs.Contexts.{kept_then}
use Rattle.cell_rules.proofs.Changes.{value_kept}
use Rattle.rule_laws.specs.SideBySide.{integers, constructors, ends, Both, arrive, cut}
use Rattle.rule_laws.proofs.Lockstep.{both_here}
use Rattle.given_back.specs.SerialCells.{ActualVisit, Account, SerialCells, keeping_serial, closing_account, closed_serial}
use Rattle.shared_runs.proofs.AlikeCells.{cells_map, cells_even, cells_valued}
use Rattle.shared_runs.proofs.Alongside.{SameEntry, nothing, one_number, such_constructors, World, here_of, there_of}
use Rattle.shared_runs.proofs.Alongside.{built_kept, entry_kept, sides}

module _ (same same' : Labelling) (a b : List ℕ) where
  -- the world with other steps left, with another account, or with a visit to an actual listed
  abbrev pub leaving : ℕ → World same same' a b → World same same' a b
  leaving n w = record { left = n; here = w.here; there = w.there; remember = w.remember; account = w.account; visits = w.visits }

  abbrev accounting : Account → World same same' a b → World same same' a b
  accounting x w = record { left = w.left; here = w.here; there = w.there; remember = w.remember; account = x; visits = w.visits }

  abbrev pub listed : ActualVisit → World same same' a b → World same same' a b
  listed x w = record { left = w.left; here = w.here; there = w.there; remember = w.remember; account = w.account; visits = x ∷ w.visits }

  -- one step of each
  pub step_both : (left : ℕ) (w : World same same' a b) (go go' : State SerialCells → Reached ℕ SerialCells)
      → ((n : ℕ) → Both (sides same same' a b) (leaving left w) (go (here_of same same' a b (leaving n w))) (go' (there_of same same' a b (leaving n w))))
      → Both (sides same same' a b) (leaving left w) (with_step left (here_of same same' a b w).store go) (with_step left (there_of same same' a b w).store go')
  unfolding with_step
  step_both zero w go go' f = both_here (sides same same' a b) (leaving zero w) ends
  step_both (suc n) w go go' f = f n

  -- the world in which each remembers a value more, in the same place
  abbrev valued : (v : World same same' a b) (w i : ℕ) (x y : Value ℕ) → SameEntry same same' a b v.here v.there (some x) (some y) → World same same' a b
  valued v w i x y h =
      let f = entry_kept same same' a b (value_kept w i x v.here) (value_kept w i y v.there) in
      record {
        left = v.left;
        here = with_value w i x v.here;
        there = with_value w i y v.there;
        remember = cells_valued _ w i (f (some x) (some y) h) (cells_map f v.remember);
        account = record { live = v.account.live; most = v.account.most; oldest = older x w v.account.oldest };
        visits = v.visits;
      }

  pub remembered_both : (w : World same same' a b) (c i : ℕ) {r q : Reached ℕ SerialCells} → Both (sides same same' a b) w r q
      → Both (sides same same' a b) w (remembered keeping_serial c i r) (remembered keeping_serial c i q)
  unfolding remembered keeping_serial older reach
  remembered_both w c i (arrive v l (integers {z})) =
      arrive (valued v c i (integer z) (integer z) one_number)
      (record { one = kept_then l.one (value_kept c i _ v.here); two = kept_then l.two (value_kept c i _ v.there) }) integers
  remembered_both w c i (arrive v l (constructors {k} {m} {c = x} {d = y} h)) =
      arrive (valued v c i (constructor k x) (constructor m y) (such_constructors h))
      (record { one = kept_then l.one (value_kept c i _ v.here); two = kept_then l.two (value_kept c i _ v.there) })
      (constructors (built_kept same same' a b (value_kept c i _ v.here) (value_kept c i _ v.there) h))
  remembered_both w c i (arrive v l ends) = arrive v l ends
  remembered_both w c i {r = r} {q = q} (cut x3) = elim x3 [ ]

  -- what calls leave, of which as many cells were made before
  pub closed_both : (x w : World same same' a b) {r q : Reached ℕ SerialCells} → Both (sides same same' a b) w r q
      → Both (sides same same' a b) w (closed_serial (here_of same same' a b x).store r) (closed_serial (there_of same same' a b x).store q)
  unfolding closed_serial closing_account live_after reach
  closed_both x w (arrive v l (integers {z})) =
      rw (← cells_even _ x.remember)
      (arrive (accounting (closing_account (suc (length x.here)) x.account (value (integer z)) v.account) v) (record { one = l.one; two = l.two }) integers)
  closed_both x w (arrive v l (constructors {k} {c} h)) =
      arrive (accounting (closing_account (suc (length x.here)) x.account (value (constructor k c)) v.account) v) (record { one = l.one; two = l.two })
      (constructors h)
  closed_both x w (arrive v l (ends {n})) =
      arrive (accounting (closing_account (suc (length x.here)) x.account (ended n) v.account) v) (record { one = l.one; two = l.two }) ends
  closed_both x w {r = r} {q = q} (cut x4) = elim x4 [ ]

  pub recalled_both : (w : World same same' a b) {x y : Entry} {r q : Reached ℕ SerialCells} → SameEntry same same' a b w.here w.there x y
      → Both (sides same same' a b) w r q
      → Both (sides same same' a b) w (recalled x (here_of same same' a b w) r) (recalled y (there_of same same' a b w) q)
  unfolding recalled
  recalled_both w nothing f = f
  recalled_both w one_number f = both_here (sides same same' a b) w integers
  recalled_both w (such_constructors h) f = both_here (sides same same' a b) w (constructors h)
