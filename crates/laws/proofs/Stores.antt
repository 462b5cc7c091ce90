-- Laws of numbers stored into a list one after the other (`sets`): past the end, in two runs, over the front, and in one of two joined lists.
use mathlib.Core.Path.{◌≡◌, refl, ap, ◌∙◌}
use Prim.Native.Nat.{ℕ, suc, ◌+◌, ◌≤◌}
use mathlib.Core.List.{List, [], ◌∷◌, ◌++◌}
use native.Mathlib.Omega.{arith}
use native.Mathlib.Nat.{add-zero, zero-add, suc-add}
use lib.ListN.{length, set, drop, length-set}
use lib.Seq.{set_out, set-append_left, sets, sets-eq}

-- past the end nothing is stored
pub sets_past : (vs l : List ℕ) (at : ℕ) → length l ≤ at → sets l at vs ≡ l
sets_past [] l at h = refl
sets_past (v ∷ vs) l at h = rw (set_out l at v h) (sets_past vs l (suc at) (omega arith))

-- two runs of stores, one after the other, are one
pub sets_append : (vs ws l : List ℕ) (i : ℕ) → sets (sets l i vs) (i + length vs) ws ≡ sets l i (vs ++ ws)
sets_append [] ws l i = rw add-zero refl
sets_append (v ∷ vs) ws l i =
    let e : i + suc (length vs) ≡ suc i + length vs = omega arith in
    rw e (sets_append vs ws (set l i v) (suc i))

-- a list stored over the front of another
pub over_front : (vs l : List ℕ) (n : ℕ) → length vs ≡ n → n ≤ length l → sets l 0 vs ≡ vs ++ drop n l
over_front vs l n e h =
    let k : 0 + length vs ≡ n = omega arith in
    let f : 0 + length vs ≤ length l = omega arith in
    sets-eq vs l 0 f ∙ ap (λ (i : ℕ). vs ++ drop i l) k

-- into the first of two joined lists, and into the second
pub sets_before : (vs l r : List ℕ) (i : ℕ) → i + length vs ≤ length l → sets (l ++ r) i vs ≡ sets l i vs ++ r
sets_before [] l r i h = refl
sets_before (v ∷ vs) l r i h =
    let k : suc i + length vs ≤ length (set l i v) = omega (arith, length-set l i v) in
    rw (set-append_left l r i v (omega arith)) (sets_before vs (set l i v) r (suc i) k)

sets_after : (x : ℕ) (l vs : List ℕ) (i : ℕ) → sets (x ∷ l) (suc i) vs ≡ x ∷ sets l i vs
sets_after x l [] i = refl
sets_after x l (v ∷ vs) i = sets_after x (set l i v) vs (suc i)

pub sets_behind : (p l vs : List ℕ) (i : ℕ) → sets (p ++ l) (length p + i) vs ≡ p ++ sets l i vs
sets_behind [] l vs i = rw zero-add refl
sets_behind (x ∷ p) l vs i = rw suc-add (sets_after x (p ++ l) vs (length p + i) ∙ ap (λ (r : List ℕ). x ∷ r) (sets_behind p l vs i))
