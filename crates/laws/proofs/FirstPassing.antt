-- The first number that passes a test.
use mathlib.Core.Path.{◌≡◌, refl}
use Prim.Native.Nat.{ℕ, zero, suc, ◌≤◌, ◌<◌}
use mathlib.Core.Bool.{Bool, true, false, cond}
use native.Mathlib.Omega.{arith}
use native.Mathlib.Nat.{not-suc-le-zero}
use native.Mathlib.Decide.{dec_lt}
use lib.Dec.{ltb}
use borrow.Author.Tests.{ltb-true, ltb-false}
use Rattle.definitions.specs.Lists.{first_passing}

-- r is the first of 0, 1, .. n - 1 that passes, or n
pub record First (n : ℕ) (test : ℕ → Bool) (r : ℕ) : Type 0 where
  pub limit : r ≤ n
  pub passes : r < n → test r ≡ true
  pub least : (i : ℕ) → i < n → test i ≡ true → r ≤ i

first_step : (n r : ℕ) (test : ℕ → Bool) (x y : Bool) → ltb r n ≡ x → test n ≡ y → First n test r
    → First (suc n) test (cond x r (cond y n (suc n)))
first_step n r test true y p q f =
    let h = ltb-true r n p in
    record { limit = omega arith; passes = λ g. f.passes h; least = λ i g e. elim (dec_lt i n) [ yes l ↦ f.least i l e | no l ↦ omega (arith, l, g, h) ] }
first_step n r test false true p q f =
    let h = ltb-false r n p in
    record {
      limit = omega arith;
      passes = λ g. q;
      least = λ i g e. elim (dec_lt i n) [ yes l ↦ absurd (omega (arith, f.least i l e, h, l)) | no l ↦ omega (arith, l) ];
    }
first_step n r test false false p q f =
    let h = ltb-false r n p in
    record {
      limit = omega arith;
      passes = λ g. absurd (omega (arith, g));
      least = λ i g e. elim (dec_lt i n) [
        | yes l ↦ absurd (omega (arith, f.least i l e, h, l))
        | no l ↦
            let z : i ≡ n = omega (arith, l, g) in
            let u : test n ≡ true = rw z at e in
            let v : ◌≡◌ {A = Bool} true false = cc in
            let o : ◌≡◌ {A = ℕ} 0 1 = cc in
            absurd (omega arith)
      ];
    }

pub first_pass : (n : ℕ) (test : ℕ → Bool) → First n test (first_passing n test)
unfolding first_passing
first_pass zero test = record { limit = omega arith; passes = λ h. absurd (not-suc-le-zero h); least = λ i h e. absurd (not-suc-le-zero h) }
first_pass (suc n) test = first_step n (first_passing n test) test (ltb (first_passing n test) n) (test n) refl refl (first_pass n test)

-- what is first is what the definition finds
pub first_found : {n : ℕ} {test : ℕ → Bool} {r : ℕ} → First n test r → r ≡ first_passing n test
first_found {n} {test} {r} f =
    let g = first_pass n test in
    let s = first_passing n test in
    elim (dec_lt r n) [
      | yes h ↦ let p = g.least r h (f.passes h) in omega (arith, p, f.least s (omega (arith, p, h)) (g.passes (omega (arith, p, h))))
      | no h ↦ elim (dec_lt s n) [ yes l ↦ absurd (omega (arith, h, l, f.least s l (g.passes l))) | no l ↦ omega (arith, h, l, f.limit, g.limit) ]
    ]
