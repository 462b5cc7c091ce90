-- The contexts of a run that gives cells back, named by the serial numbers of their cells. A list of names has 0 for the empty context,
-- then the serial number of each cell that is alive, in its place; serial numbers rise from place to place.
use mathlib.Core.Path.{◌≡◌, refl, ap, ◌∙◌}
use Prim.Native.Nat.{ℕ, ◌≤◌, ◌<◌, min}
use mathlib.Core.List.{List, [], ◌∷◌, ◌++◌}
use mathlib.Core.Option.{some}
use native.Mathlib.Omega.{arith}
use native.Mathlib.Decide.{ℕ_discrete, dec_lt}
use lib.ListN.{length, get_elem?}
use lib.Dec.{leb}
use borrow.Author.Tests.{le-leb, lt-leb}
use Rattle.laws.proofs.Cells.{each_added}
use Rattle.accepted.proofs.Elements.{element_below, element_there, element_front}
use Rattle.cell_rules.proofs.Contexts.{element_added}

-- context c has the serial number d
pub record Named (names : List ℕ) (c d : ℕ) : Type 0 where
  pub is : get_elem? names c ≡ some d

pub named_below : {names : List ℕ} {c d : ℕ} → Named names c d → c < length names
named_below {names} {c} n = element_below names c n.is

-- and no other
pub named_one : {names : List ℕ} {c d g : ℕ} → Named names c d → Named names c g → d ≡ g
named_one n m = let p = n.is in let q = m.is in cc

-- names stay, and more may come
pub record Grows (names more : List ℕ) : Type 0 where
  pub on : (c d : ℕ) → Named names c d → Named more c d

pub grows_all : (names : List ℕ) → Grows names names
grows_all names = record { on = λ c d n. n }

pub grows_then : {names more all : List ℕ} → Grows names more → Grows more all → Grows names all
grows_then g h = record { on = λ c d n. h.on c d (g.on c d n) }

-- a context that has a name in the shorter list has the same there
pub named_back : {names more : List ℕ} {c d : ℕ} → Grows names more → c < length names → Named more c d → Named names c d
named_back {names} {more} {c} g h n =
    let x = element_there names c h in
    record { is = x.there ∙ ap some (named_one (g.on c x.element (record { is = x.there })) n) }

-- a name more
pub grows_added : (names : List ℕ) (x : ℕ) → Grows names (names ++ (x ∷ []))
grows_added names x = record { on = λ c d n. record { is = element_front names (x ∷ []) c (named_below n) ∙ n.is } }

pub named_last : (names : List ℕ) (x : ℕ) → Named (names ++ (x ∷ [])) (length names) x
named_last names x = record { is = element_added names x }

pub each_name : (P : ℕ → ℕ → Type 0) {names : List ℕ} {x : ℕ} → ((c d : ℕ) → Named names c d → P c d) → P (length names) x
    → (c d : ℕ) → Named (names ++ (x ∷ [])) c d → P c d
each_name P {names} {x} h p c d n = each_added P names x (λ c d e. h c d (record { is = e })) p c d n.is

-- serial numbers rise
pub record Rising (names : List ℕ) : Type 0 where
  pub rises : (c e d g : ℕ) → Named names c d → Named names e g → c < e → d < g

pub rising_added : {names : List ℕ} {x : ℕ} → Rising names → ((c d : ℕ) → Named names c d → d < x) → Rising (names ++ (x ∷ []))
rising_added {names} {x} R above =
    record { rises = λ c e d g n m h. each_name (λ e g. c < e → d < g) (below c d n) (λ i. above c d (before c d n i)) e g m h }
  where
    before : (c d : ℕ) → Named (names ++ (x ∷ [])) c d → c < length names → Named names c d
    before c d n h = named_back (grows_added names x) h n

    below : (c d : ℕ) → Named (names ++ (x ∷ [])) c d → (e g : ℕ) → Named names e g → c < e → d < g
    below c d n e g m h = R.rises c e d g (before c d n (omega (arith, named_below m))) m h

module _ {names : List ℕ} (R : Rising names) {c e d g : ℕ} (n : Named names c d) (m : Named names e g) where
  -- contexts compare as their serial numbers do
  names_rise : c ≤ e → d ≤ g
  names_rise h = by (ℕ_discrete c e)
    where
      by : Dec (c ≡ e) → d ≤ g
      by (yes q) = let o : d ≡ g = named_one n (rw q m) in omega arith
      by (no q) = omega (arith, R.rises c e d g n m (omega arith))

  -- one serial number is of one context
  pub names_differ : (e ≡ c → ⊥) → g ≡ d → ⊥
  names_differ h q = by (dec_lt e c)
    where
      by : Dec (e < c) → ⊥
      by (yes i) = omega (arith, R.rises e c g d m n i)
      by (no i) = omega (arith, R.rises c e d g n m (omega arith))

  pub names_compare : leb c e ≡ leb d g
  names_compare = by (dec_lt e c)
    where
      by : Dec (e < c) → leb c e ≡ leb d g
      by (yes h) = rw (lt-leb c e h, lt-leb d g (R.rises e c g d m n h)) refl
      by (no h) = rw (le-leb c e (omega arith), le-leb d g (names_rise (omega arith))) refl

  -- so does the lesser of two
  pub named_least : Named names (min c e) (min d g)
  named_least = by (dec_lt e c)
    where
      by : Dec (e < c) → Named names (min c e) (min d g)
      by (yes h) =
          let p : min c e ≡ e = omega arith in
          let q : min d g ≡ g = omega (arith, R.rises e c g d m n h) in
          rw (p, q) m
      by (no h) =
          let p : min c e ≡ c = omega arith in
          let q : min d g ≡ d = omega (arith, names_rise (omega arith)) in
          rw (p, q) n
