-- What is recalled and remembered: a value has the number of the entry that remembers it.
use mathlib.Core.Path.{◌≡◌, refl, ◌∙◌}
use Prim.Native.Nat.{ℕ, ◌/◌, ◌%◌}
use mathlib.Core.List.{List, [], ◌∷◌}
use mathlib.Core.Option.{some}
use mathlib.Core.Bool.{Bool, true, false, cond}
use native.Mathlib.Omega.{arith}
use native.Mathlib.Decide.{ℕ_discrete}
use borrow.Author.Tests.{eq-eqb, ne_eqb}
use mir.Syntax.{w32}
use mir.Val.{to_z}
use Rattle.definitions.specs.Bytes.{words32}
use Rattle.definitions.specs.Operators.{residue}
use Rattle.definitions.specs.Rule as Rule
use Rattle.definitions.specs.Rule.{Reached, reach}
use Rattle.definitions.specs.Cells.{recalled, remembered, where_own}
use Rattle.definitions.specs.LiveCells.{older}
use Rattle.definitions.specs.CellBytes.{entry_words}
use Rattle.cells.specs.LentCells.{entry_of, entry_written}
use Rattle.operators.proofs.Residues.{residue_read}
use Rattle.live_counts.specs.Counts.{constructor_noted}
use Rattle.live_counts.specs.declared.Counts.{Counts}
use Rattle.lent_rule.specs.Lent.{Lent, keeping_lent}
use Rattle.run.specs.Packed.{outcome_in, is_value_in}
use Rattle.run.specs.States.{value_of, ending_of, state_of, reached_of, bytes_remembering}
use Rattle.run.proofs.Packing.{outcome_number, outcome_constructor, outcome_ended}

-- the three kinds of numbers that hold an outcome
pub data Held (x : ℕ) : Type 0 where
  a_number : x % 65536 ≡ 1 → Held x
  a_constructor : x % 65536 ≡ 2 → Held x
  an_end : (x % 65536 ≡ 1 → ⊥) → (x % 65536 ≡ 2 → ⊥) → Held x

pub held : (x : ℕ) → Held x
held x = by (ℕ_discrete (x % 65536) 1) (ℕ_discrete (x % 65536) 2)
  where
    by : Dec (x % 65536 ≡ 1) → Dec (x % 65536 ≡ 2) → Held x
    by (yes e) d = a_number e
    by (no n) (yes e) = a_constructor e
    by (no n) (no m) = an_end n m

-- an entry that is a value is recalled, with the outcome of its number; else the visit goes on
entry_number_law : (x : ℕ) → x % 65536 ≡ 1 → entry_of x ≡ some (Rule.integer (to_z w32 (x / 65536 % 4294967296)))
unfolding entry_of
entry_number_law x e = rw (eq-eqb (x % 65536) 1 e) refl

entry_constructor : (x : ℕ) → x % 65536 ≡ 2 → entry_of x ≡ some (Rule.constructor (x / 65536 % 65536) (x / 4294967296 % 65536))
unfolding entry_of
entry_constructor x e = rw e refl

module _ (x : ℕ) (s : Rule.State Lent) (otherwise : Reached ℕ Lent) where
  pub value_recalled : is_value_in x ≡ true → recalled (entry_of x) s otherwise ≡ reach (ending_of (outcome_in x)) s
  unfolding recalled is_value_in ending_of value_of
  value_recalled h = by (held x)
    where
      by : Held x → recalled (entry_of x) s otherwise ≡ reach (ending_of (outcome_in x)) s
      by (a_number e) = rw (entry_number_law x e, outcome_number x e) refl
      by (a_constructor e) = rw (entry_constructor x e, outcome_constructor x e) refl
      by (an_end n m) = absurd (let q : false ≡ true = rw (ne_eqb (x % 65536) 1 n, ne_eqb (x % 65536) 2 m) at h in let z : ◌≡◌ {A = ℕ} 0 1 = cc in omega arith)

  pub nothing_recalled : is_value_in x ≡ false → recalled (entry_of x) s otherwise ≡ otherwise
  unfolding recalled is_value_in entry_of
  nothing_recalled h = by (held x)
    where
      by : Held x → recalled (entry_of x) s otherwise ≡ otherwise
      by (a_number e) = absurd (let q : true ≡ false = rw e at h in let z : ◌≡◌ {A = ℕ} 0 1 = cc in omega arith)
      by (a_constructor e) = absurd (let q : true ≡ false = rw e at h in let z : ◌≡◌ {A = ℕ} 0 1 = cc in omega arith)
      by (an_end n m) = rw (ne_eqb (x % 65536) 1 n, ne_eqb (x % 65536) 2 m) refl

-- the words of a value's number are those of the entry that remembers it
number_words : (x : ℕ) → x % 65536 ≡ 1
    → (x % 65536) ∷ (x / 65536 % 65536) ∷ (x / 4294967296 % 65536) ∷ [] ≡ entry_words (some (Rule.integer (to_z w32 (x / 65536 % 4294967296))))
unfolding entry_words words32
number_words x e =
    let m = x / 65536 % 4294967296 in
    let r : residue w32 (to_z w32 m) ≡ m = residue_read w32 m (record { fits = omega arith }) in
    let p : x / 65536 % 65536 ≡ m % 65536 = omega arith in
    let q : x / 4294967296 % 65536 ≡ m / 65536 = omega arith in
    rw (r, e, p, q) refl

constructor_words : (x : ℕ) → x % 65536 ≡ 2
    → (x % 65536) ∷ (x / 65536 % 65536) ∷ (x / 4294967296 % 65536) ∷ []
    ≡ entry_words (some (Rule.constructor (x / 65536 % 65536) (x / 4294967296 % 65536)))
unfolding entry_words
constructor_words x e = rw e refl

-- the bytes in which an outcome is remembered: a value's, in the formal's own cell
module _ (x : ℕ) (own : Bool) (b : List ℕ) (c i : ℕ) where
  pub value_remembered : {r : List ℕ} → own ≡ true → is_value_in x ≡ true
      → r ≡ entry_written b c i ((x % 65536) ∷ (x / 65536 % 65536) ∷ (x / 4294967296 % 65536) ∷ [])
      → r ≡ bytes_remembering own b c i (ending_of (outcome_in x))
  unfolding bytes_remembering is_value_in ending_of value_of
  value_remembered o h e = e ∙ rw o (by (held x))
    where
      by : Held x → entry_written b c i ((x % 65536) ∷ (x / 65536 % 65536) ∷ (x / 4294967296 % 65536) ∷ [])
          ≡ bytes_remembering true b c i (ending_of (outcome_in x))
      by (a_number q) = rw (number_words x q, outcome_number x q) refl
      by (a_constructor q) = rw (constructor_words x q, outcome_constructor x q) refl
      by (an_end n m) = absurd (let q : false ≡ true = rw (ne_eqb (x % 65536) 1 n, ne_eqb (x % 65536) 2 m) at h in let z : ◌≡◌ {A = ℕ} 0 1 = cc in omega arith)

  pub end_not_remembered : is_value_in x ≡ false → b ≡ bytes_remembering own b c i (ending_of (outcome_in x))
  unfolding bytes_remembering is_value_in ending_of
  end_not_remembered h = by (held x) own
    where
      by : Held x → (o : Bool) → b ≡ bytes_remembering o b c i (ending_of (outcome_in x))
      by p false = refl
      by (a_number e) true = absurd (let q : true ≡ false = rw e at h in let z : ◌≡◌ {A = ℕ} 0 1 = cc in omega arith)
      by (a_constructor e) true = absurd (let q : true ≡ false = rw e at h in let z : ◌≡◌ {A = ℕ} 0 1 = cc in omega arith)
      by (an_end n m) true = rw (outcome_ended x n m) refl

  pub not_own_kept : own ≡ false → b ≡ bytes_remembering own b c i (ending_of (outcome_in x))
  unfolding bytes_remembering
  not_own_kept e = rw e refl

-- the number of an entry that is recalled
pub recalled_own : {own : Bool} {r x : ℕ} → own ≡ true → r ≡ x → r ≡ cond own x 0
recalled_own e f = f ∙ rw e refl

pub recalled_none : {own : Bool} (x : ℕ) → own ≡ false → 0 ≡ cond own x 0
recalled_none x e = rw e refl

-- a visit's end, remembered where the cell is the formal's own
unfoldable pub remembered_where : Bool → ℕ → ℕ → Reached ℕ Lent → Reached ℕ Lent
remembered_where false w i r = r
remembered_where true w i r = remembered keeping_lent w i r

pub own_or_not : (own : Bool) (w i x : ℕ) (s : Rule.State Lent) (actual : Reached ℕ Lent)
    → where_own keeping_lent own w i (entry_of x) s actual ≡ recalled (entry_of (cond own x 0)) s (remembered_where own w i actual)
unfolding where_own remembered_where recalled entry_of
own_or_not true w i x s actual = refl
own_or_not false w i x s actual = refl

pub end_kept : (own : Bool) (w i n : ℕ) (s : Rule.State Lent) → remembered_where own w i (reach (Rule.ended n) s) ≡ reach (Rule.ended n) s
unfolding remembered_where remembered keeping_lent reach
end_kept true w i n s = refl
end_kept false w i n s = refl

kept_own : (w i x : ℕ) (counts : Counts) (bytes : List ℕ) → Held x
    → reached_of x (constructor_noted true w (x % 65536) counts) (bytes_remembering true bytes w i (ending_of (outcome_in x)))
    ≡ remembered keeping_lent w i (reached_of x counts bytes)
unfolding reached_of remembered keeping_lent older reach state_of bytes_remembering constructor_noted ending_of value_of
kept_own w i x counts bytes (a_number q) = rw (outcome_number x q, q) refl
kept_own w i x counts bytes (a_constructor q) = rw (outcome_constructor x q, q) refl
kept_own w i x counts bytes (an_end n m) = rw (outcome_ended x n m, ne_eqb (x % 65536) 2 m) refl

pub reached_remembered : (own : Bool) (w i x : ℕ) (counts : Counts) (bytes : List ℕ)
    → reached_of x (constructor_noted own w (x % 65536) counts) (bytes_remembering own bytes w i (ending_of (outcome_in x)))
    ≡ remembered_where own w i (reached_of x counts bytes)
unfolding reached_of remembered_where reach state_of bytes_remembering constructor_noted
reached_remembered false w i x counts bytes = refl
reached_remembered true w i x counts bytes = kept_own w i x counts bytes (held x)
