-- At the end of the rule that a run follows, what is alive refers to nothing that was given back: of any translation file, however it ends.
use mathlib.Core.Path.{◌≡◌}
use Prim.Native.Nat.{ℕ, zero, suc, ◌≤◌, ◌<◌}
use mathlib.Core.List.{List}
use mathlib.Core.Option.{some, none-ne-some}
use native.Mathlib.Omega.{arith}
use lib.IntN.{ℤ}
use Rattle.definitions.specs.Rule.{Ending, value, constructor, Reached}
use Rattle.definitions.specs.Cells.{Cell, cell_of, entry_at}
use Rattle.definitions.specs.Run.{rule_end}
use Rattle.accepted.proofs.Elements.{element_there}
use Rattle.rule_laws.specs.SideBySide.{AlikeEnds, integers, constructors, ends, Both, cut, arrive}
use Rattle.given_back.specs.SerialCells.{SerialCells}
use Rattle.given_back.specs.ListedVisits.{Listed, forgetting}
use Rattle.given_back.specs.OnlyAlive.{OnlyAlive}
use Rattle.given_back.proofs.Forgetting.{list_forgotten}
use Rattle.given_back.proofs.Names.{named_below}
use Rattle.given_back.proofs.Twins.{Pair, Alive, recalled_below}
use Rattle.given_back.proofs.Worlds.{World, same_node, sides}
use Rattle.given_back.proofs.Evaluations.{evaluations_both}

-- a cell is that of no empty context
inside : (xs : List Cell) (c : ℕ) {x : Cell} → cell_of xs c ≡ some x → 0 < c
unfolding cell_of
inside xs zero e = absurd (none-ne-some _ e)
inside xs (suc c) e = omega arith

-- a cell that is alive, of those that have twins
module _ {names : List ℕ} {live : ℕ} {xs ys : List Cell} (A : Alive names live xs ys) (c : ℕ) (x : Cell) (alive : c ≤ live) (is : cell_of xs c ≡ some x) where
  record Found : Type 0 where
    serial : ℕ
    pair : Pair names xs ys c serial
    here : pair.here ≡ x

  found : Found
  found =
      let d = element_there names c (omega (arith, A.count)) in
      let p = A.pairs c d.element (record { is = d.there }) (inside xs c is) in
      record { serial = d.element; pair = p; here = let e = p.is_here in cc }

  previous_older : x.previous < c
  previous_older = rw found.here at found.pair.order

  remembered_alive : (i k d : ℕ) → entry_at x i ≡ some (constructor k d) → d ≤ live
  remembered_alive i k d e = omega (arith, A.count, recalled_below k d (found.pair.twins.entries i) (rw found.here e))

comes_alive : {v : World} {e d : Ending ℕ} (k c : ℕ) → AlikeEnds sides v e d → e ≡ value (constructor k c) → c ≤ v.here.store.live
comes_alive k c integers e = absurd (let z : ◌≡◌ {A = ℕ} 0 1 = cc in omega arith)
comes_alive {v} k c (constructors {c = x} (same_node n)) e = let q : x ≡ c = cc in omega (arith, v.joined.alive.count, named_below n)
comes_alive k c ends e = absurd (let z : ◌≡◌ {A = ℕ} 0 1 = cc in omega arith)

only_alive : {w : World} {r : Reached ℕ Listed} {q : Reached ℕ SerialCells} → Both sides w r q → OnlyAlive (forgetting r).ending (forgetting r).state.store
only_alive (cut h) = absurd h
only_alive (arrive v l e) =
    let A = v.joined.alive in
    record {
      comes = λ k c q. comes_alive k c e q;
      previous = λ c x h is. previous_older A c x h is;
      remembers = λ c x i k d h is q. remembered_alive A c x h is i k d q;
    }

pub rule_alive : (b : List ℕ) (rs : List ℤ) (steps nesting cells_allowed : ℕ)
    → OnlyAlive (rule_end b rs steps nesting cells_allowed).ending (rule_end b rs steps nesting cells_allowed).state.store
rule_alive b rs steps nesting cells_allowed =
    rw (← list_forgotten b rs steps nesting cells_allowed) (only_alive (evaluations_both b rs steps nesting cells_allowed))
