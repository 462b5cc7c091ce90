-- Laws of writing: one after the other, and one turn more of a loop.
use mathlib.Core.Path.{◌≡◌, ◌∙◌}
use Prim.Native.Nat.{ℕ, ◌+◌, ◌≤◌, ◌<◌}
use mathlib.Core.List.{List, [], ◌∷◌, ◌++◌}
use native.Mathlib.Omega.{arith}
use native.Mathlib.Numerals.{add-one}
use lib.ListN.{length, get_or, take, length-append}
use lib.Seq.{sets, take-suc}
use Rattle.laws.proofs.Stores.{sets_append}
use Rattle.report.specs.Writing.{WroteBytes}

module _ {out : List ℕ} {at : ℕ} {vs : List ℕ} {n : ℕ} {o ws : List ℕ} {m : ℕ} {p : List ℕ} (v : WroteBytes out at vs n o) (w : WroteBytes o n ws m p) where
  both_length : at + length (vs ++ ws) ≡ at + length vs + length ws
  both_length = omega (arith, length-append vs ws)

  between : at + length (vs ++ ws) ≤ length out → n ≡ at + length vs
  between h = v.place (omega (arith, both_length, h))

  goes_on : at + length (vs ++ ws) ≤ length out → n + length ws ≤ length o
  goes_on h = omega (arith, both_length, h, between h, v.kept)

  both_set : at + length (vs ++ ws) ≤ length out → p ≡ sets out at (vs ++ ws)
  both_set h =
      w.output (goes_on h) ∙ rw (between h, v.output (omega (arith, both_length, h))) (sets_append vs ws out at)

  pub wrote_then : WroteBytes out at (vs ++ ws) m p
  wrote_then =
      record {
        place = λ h. omega (arith, w.place (goes_on h), between h, both_length);
        output = both_set;
        kept = w.kept ∙ v.kept;
      }

-- a word, a number, a word, a number and the line's end
pub wrote_five : {out : List ℕ} {at : ℕ} {vs ws xs ys zs : List ℕ} {n₁ n₂ n₃ n₄ n₅ : ℕ} {o₁ o₂ o₃ o₄ o₅ : List ℕ}
    → WroteBytes out at vs n₁ o₁ → WroteBytes o₁ n₁ ws n₂ o₂ → WroteBytes o₂ n₂ xs n₃ o₃ → WroteBytes o₃ n₃ ys n₄ o₄ → WroteBytes o₄ n₄ zs n₅ o₅
    → WroteBytes out at (vs ++ ws ++ xs ++ ys ++ zs) n₅ o₅
wrote_five v w x y z = wrote_then (wrote_then (wrote_then (wrote_then v w) x) y) z

pub wrote_more : {out : List ℕ} {at : ℕ} (word : List ℕ) {i n : ℕ} {o : List ℕ} {m : ℕ} {p : List ℕ} → WroteBytes out at (take i word) n o → i < length word
    → WroteBytes o n (get_or word i 0 ∷ []) m p → WroteBytes out at (take (i + 1) word) m p
wrote_more word {i} v h w = rw (add-one, take-suc word i 0 h) (wrote_then v w)
