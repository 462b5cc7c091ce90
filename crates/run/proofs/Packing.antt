-- Laws of an outcome in one number, and of the state that a run's last visit leaves.
use mathlib.Core.Path.{◌≡◌, refl, sym, ap, ◌∙◌}
use Prim.Native.Nat.{ℕ, ◌/◌, ◌%◌, ◌<◌}
use mathlib.Core.List.{List}
use native.Mathlib.Omega.{arith}
use lib.IntN.{ℤ}
use borrow.Author.Tests.{ne_eqb}
use mir.Syntax.{w32}
use mir.Val.{to_z, SFits}
use Rattle.std.specs.Prelude.{Ok, Err}
use Rattle.definitions.specs.Operators.{residue}
use Rattle.definitions.specs.Rule.{Reached, reach}
use Rattle.live_counts.specs.declared.Counts.{Counts}
use Rattle.run.specs.declared.state.Value.{Value}
use Rattle.run.specs.declared.state.Value.TheVariants.{Number, Constructor}
use Rattle.run.specs.declared.state.State.{State}
use Rattle.lent_rule.specs.Lent.{Lent}
use Rattle.run.specs.NodeTable.{Parts}
use Rattle.run.specs.States.{ending_of, state_of, reached_of, Leaves}
use Rattle.run.specs.declared.state.End.{End}
use Rattle.run.specs.Packed.{Outcome, outcome_in}
use Rattle.run.proofs.Entries.{split, halves, bits_back}

-- the outcome of a number, by its lowest part
pub outcome_number : (x : ℕ) → x % 65536 ≡ 1 → outcome_in x ≡ Ok (Number (to_z w32 (x / 65536 % 4294967296)))
unfolding outcome_in
outcome_number x e = rw e refl

pub outcome_constructor : (x : ℕ) → x % 65536 ≡ 2 → outcome_in x ≡ Ok (Constructor (x / 65536 % 65536) (x / 4294967296 % 65536))
unfolding outcome_in
outcome_constructor x e = rw e refl

pub outcome_ended : (x : ℕ) → (x % 65536 ≡ 1 → ⊥) → (x % 65536 ≡ 2 → ⊥) → outcome_in x ≡ Err (record { number = x / 65536 % 65536 })
unfolding outcome_in
outcome_ended x h g = rw (ne_eqb (x % 65536) 1 h, ne_eqb (x % 65536) 2 g) refl

-- what is read of a number
module _ (x kind : ℕ) (ek : kind ≡ x % 65536) where
  pub told_number : (y z : ℤ) → kind ≡ 1 → y ≡ z → z ≡ to_z w32 (x / 65536 % 4294967296) → Ok (Number y) ≡ outcome_in x
  told_number y z e ey ez = rw (ey, ez) refl ∙ sym (outcome_number x (sym ek ∙ e))

  pub told_constructor : (n c : ℕ) → kind ≡ 2 → n ≡ x / 65536 % 65536 → c ≡ x / 4294967296 % 65536 → Ok (Constructor n c) ≡ outcome_in x
  told_constructor n c e en ec = rw (en, ec) refl ∙ sym (outcome_constructor x (sym ek ∙ e))

  pub told_ended : (n : ℕ) → (kind ≡ 1 → ⊥) → (kind ≡ 2 → ⊥) → n ≡ x / 65536 % 65536 → Err (record { number = n }) ≡ outcome_in x
  told_ended n h g en = rw en refl ∙ sym (outcome_ended x (λ q. h (ek ∙ q)) (λ q. g (ek ∙ q)))

-- the number of an outcome
pub number_packed : (v : Value) (z y : ℤ) (n x : ℕ) → SFits w32 z → y ≡ z → v ≡ Number z → n ≡ residue w32 y → n < 4294967296
    → Parts x 1 (n % 65536) (n / 65536) 0 → outcome_in x ≡ Ok v
number_packed v z y n x f ey ev en hn t =
    let e : x / 65536 % 4294967296 ≡ residue w32 z = split x ∙ rw (t.part_1, t.part_2) refl ∙ halves n hn ∙ en ∙ ap (residue w32) ey in
    outcome_number x t.part_0 ∙ ap (λ (u : ℤ). Ok (Number u)) (ap (to_z w32) e ∙ bits_back z f) ∙ rw ev refl

pub constructor_packed : (v : Value) (k w x : ℕ) → v ≡ Constructor k w → Parts x 2 k w 0 → outcome_in x ≡ Ok v
constructor_packed v k w x ev t = outcome_constructor x t.part_0 ∙ rw (t.part_1, t.part_2, ev) refl

pub ended_packed : (o : Outcome) (n : End) (x : ℕ) → o ≡ Err n → Parts x 0 n.number 0 0 → outcome_in x ≡ o
ended_packed o n x eo t =
    let p = t.part_0 in
    outcome_ended x (λ q. omega (arith, q, p)) (λ q. omega (arith, q, p)) ∙ rw (t.part_1, eo) refl

pub value_packed : (o : Outcome) (v : Value) (x : ℕ) → o ≡ Ok v → outcome_in x ≡ Ok v → outcome_in x ≡ o
value_packed o v x eo e = e ∙ sym eo

pub last_opened : {end : State} {after : List ℕ} {r : Reached ℕ Lent} (x : ℕ) (counts : Counts)
    → (end.outcome ≡ outcome_in x) × (end.left ≡ counts.left) × (end.most ≡ counts.most) → reached_of x counts after ≡ r → Leaves end after r
unfolding reached_of reach state_of
last_opened x counts e g =
    record {
      ending = ap ending_of e.0 ∙ ap (λ (u : Reached ℕ Lent). u.ending) g;
      left = e.1 ∙ ap (λ (u : Reached ℕ Lent). u.state.left) g;
      most = e.2 ∙ ap (λ (u : Reached ℕ Lent). u.state.store.most) g;
      bytes = ap (λ (u : Reached ℕ Lent). u.state.store.bytes) g;
    }
