-- The run that gives cells back, with the visits to actuals listed, beside the rule over serial numbers: what joins their states, and how
-- these go on.
use mathlib.Core.Path.{◌≡◌, ◌∙◌}
use Prim.Native.Nat.{ℕ, zero, suc, ◌≤◌, ◌<◌}
use mathlib.Core.List.{List, [], ◌∷◌, ◌++◌}
use mathlib.Core.Option.{some, none-ne-some}
use native.Mathlib.Omega.{arith}
use lib.ListN.{length, get_elem?, get_or}
use Rattle.definitions.specs.Rule.{constructor, State}
use Rattle.definitions.specs.Cells.{cell_of}
use Rattle.definitions.specs.LiveCells.{written}
use Rattle.laws.proofs.Written.{written_there, written_before}
use Rattle.rule_laws.specs.SideBySide.{SideBySide}
use Rattle.given_back.specs.SerialCells.{SerialCells}
use Rattle.given_back.specs.ListedVisits.{Listed, serial_of}
use Rattle.given_back.proofs.Names.{Named, named_below, Grows, grows_all, grows_then, each_name}
use Rattle.given_back.proofs.CellsAt.{entry_of}
use Rattle.given_back.proofs.Twins.{Alive}

-- what joins what the two keep
pub record Joined (names : List ℕ) (m : Listed) (q : SerialCells) : Type 0 where
  pub alive : Alive names m.store.live m.store.cells q.cells
  pub live : m.store.live ≡ q.account.live
  pub most : length m.store.cells ≡ q.account.most
  pub oldest : Named names m.store.oldest q.account.oldest
  pub made : m.made ≡ length q.cells
  pub few : length m.store.cells ≤ m.made
  pub visits : m.visits ≡ q.visits
  -- the names are the first of the serial numbers
  pub numbered : m.store.live ≤ length m.serials
  pub serials : Grows names (0 ∷ m.serials)

-- a cell is made: its serial number is written after those that are named
pub grows_written : {names all : List ℕ} (x : ℕ) → Grows names all → length names ≤ length all → Grows (names ++ (x ∷ [])) (written all (length names) x)
grows_written {names} {all} x g h =
    record {
      on = each_name (Named (written all (length names) x))
          (λ c d n. record { is = written_before all (length names) c x h (named_below n) ∙ (g.on c d n).is })
          (record { is = written_there all (length names) x h });
    }

element_value : {A : Type 0} (xs : List A) (i : ℕ) (d : A) {x : A} → get_elem? xs i ≡ some x → get_or xs i d ≡ x
element_value [] i d e = absurd (none-ne-some _ e)
element_value (y ∷ xs) zero d e = cc
element_value (y ∷ xs) (suc i) d e = element_value xs i d e

pub serial_named : (serials : List ℕ) (c d : ℕ) → Named (0 ∷ serials) c d → serial_of serials c ≡ d
serial_named serials zero d n = let e = n.is in cc
serial_named serials (suc c) d n = element_value serials c 0 n.is

-- the steps left, what each keeps, and what joins these
pub record World : Type 0 where
  pub left : ℕ
  pub here : Listed
  pub there : SerialCells
  pub names : List ℕ
  pub joined : Joined names here there

abbrev pub here_of : World → State Listed
here_of w = record { left = w.left; store = w.here }

abbrev pub there_of : World → State SerialCells
there_of w = record { left = w.left; store = w.there }

-- names stay, and no cell that was alive is given back
pub record Leads (w v : World) : Type 0 where
  pub names : Grows w.names v.names
  pub more : w.here.store.live ≤ v.here.store.live
  pub older : v.here.store.oldest ≤ w.here.store.oldest
  -- a constructor in a cell older than the oldest was there before
  pub held : (c i k x : ℕ) → c < v.here.store.oldest → c ≤ w.here.store.live
      → entry_of (cell_of v.here.store.cells c) i ≡ some (constructor k x) → entry_of (cell_of w.here.store.cells c) i ≡ some (constructor k x)

pub leads_itself : (w : World) → Leads w w
leads_itself w = record { names = grows_all w.names; more = omega arith; older = omega arith; held = λ c i k x h g e. e }

pub leads_then : {w v u : World} → Leads w v → Leads v u → Leads w u
leads_then g h =
    record {
      names = grows_then g.names h.names;
      more = omega (arith, g.more, h.more);
      older = omega (arith, g.older, h.older);
      held = λ c i k x p q e. g.held c i k x (omega (arith, h.older)) q (h.held c i k x p (omega (arith, g.more)) e);
    }

-- one node, and one call, under contexts of one name
pub data SameNode (names : List ℕ) (k : ℕ) (c d : ℕ) : ℕ → Type 0 where
  same_node : Named names c d → SameNode names k c d k

pub data SameCall (names : List ℕ) (l f : ℕ) (c d : ℕ) : ℕ → ℕ → Type 0 where
  same_call : Named names c d → SameCall names l f c d l f

pub node_on : {names more : List ℕ} {k m c d : ℕ} → Grows names more → SameNode names k c d m → SameNode more k c d m
node_on {c} {d} g (same_node n) = same_node (g.on c d n)

abbrev pub sides : SideBySide ℕ Listed ℕ SerialCells
sides =
    record {
      World = World;
      here = here_of;
      there = there_of;
      Leads = Leads;
      stays = leads_itself;
      onward = leads_then;
      Steps = Leads;
      steps_lead = λ l. l;
      At = λ w k m c d. SameNode w.names k c d m;
      at_onward = λ l h. node_on l.names h;
      Built = λ w k m c d. SameNode w.names k c d m;
      AtFormal = λ w p q c d. SameNode w.names p c d q;
      AtCall = λ w l f l' f' c d. SameCall w.names l f c d l' f';
      Nested = λ n m. n ≡ m;
      Cut = λ w r q. ⊥;
      cut_back = λ l h. h;
      cut_number = λ go go' h. h;
      cut_constructor = λ go go' h. h;
    }
