-- Laws of counting a translation's words: a sum while it is counted, the words of a part, and all parts together.
use mathlib.Core.Path.{◌≡◌, refl, sym, ◌∙◌}
use Prim.Native.Nat.{ℕ, suc, ◌+◌, ◌-◌, ◌*◌, ◌≤◌, ◌<◌}
use mathlib.Core.List.{List}
use native.Mathlib.Omega.{arith}
use native.Mathlib.Nat.{mul-add}
use lib.ListN.{length, get_or}
use lib.Dec.{ltb, leb}
use Rattle.std.specs.Prelude.{Result}
use Rattle.std.specs.Result.{IsErrAnd}
use Rattle.std.proofs.lemmas.Result.{err_from_is_err_and}
use Rattle.definitions.specs.Sizes.{translation_bytes}
use Rattle.definitions.specs.Numbers.{short_output}
use Rattle.definitions.specs.Verdicts.{◌and_then◌, require}
use Rattle.definitions.specs.Output.{written_of}
use Rattle.definitions.specs.Records.{record_at, field}
use Rattle.definitions.specs.Lists.{sum_of}
use Rattle.definitions.specs.Layouts.{functions, nodes, first_function, first_node}
use Rattle.definitions.specs.Checks.{sheet_verdict}
use Rattle.definitions.specs.Trees.{equal_trees}
use Rattle.definitions.specs.Translate.{translation, translation_refusal}
use Rattle.definitions.specs.declared.Layout.TheVariants.{Sheet}
use Rattle.definitions.specs.Verdict.{Verdict, Accepted, Refused}
use Rattle.definitions.specs.Refusals.{number_of, as_written}
use Rattle.definitions.specs.declared.refusals.Refusal.{Refusal}
use Rattle.laws.proofs.Lists.{sum_more}
use Rattle.accepted.proofs.Sums.{sum_term}
use Rattle.readback.proofs.Size.{words_size, formal_size, node_length_law, translation_length, translation_limit}
use Rattle.file_records.specs.Index.{start_in}
use Rattle.file_records.proofs.Indices.{node_reached}
use Rattle.sheet_rules.proofs.SheetTables.{opened_parameters}
use Rattle.tree_classes.specs.Classes.{AcceptedSheet}
use Rattle.translation_length.specs.Words.{CountedLabels, formal_length, node_length, record_length}

-- the terms before i are summed
pub record Summed (at : ℕ → ℕ) (count total i : ℕ) : Type 0 where
  pub reached : i ≤ count
  pub is : total ≡ sum_of i at

module _ {at : ℕ → ℕ} where
  pub none_summed : {count : ℕ} → Summed at count 0 0
  unfolding sum_of
  none_summed = record { reached = omega arith; is = refl }

  module _ {count total i x : ℕ} (w : Summed at count total i) (h : i < count) (e : x ≡ at i) where
    pub one_summed : Summed at count (total + x) (i + 1)
    one_summed = record { reached = omega (arith, h); is = rw (sum_more i at, w.is, e) refl }

    pub sum_within : {n : ℕ} → count ≡ n → total + x ≤ sum_of n at
    sum_within {n} f = omega (arith, w.is, e, sum_term i n at (omega (arith, h, f)))

  pub all_summed : {count total i n : ℕ} → Summed at count total i → count ≤ i → count ≡ n → total ≡ sum_of n at
  all_summed {i} {n} w h e = let f : i ≡ n = omega (arith, w.reached, h, e) in w.is ∙ rw f refl

-- the parts of an accepted sheet's translation
module _ (b : List ℕ) (accepted : sheet_verdict b ≡ Accepted) where
  abbrev words : ℕ
  words = 6 + functions b * 4 + sum_of (functions b) (formal_length b) + sum_of (nodes b) (node_length b)

  -- all together
  pub bytes_counted : 2 * words ≡ length (translation b)
  unfolding translation
  bytes_counted = omega (arith, words_size (equal_trees b) b accepted, translation_length (equal_trees b) b accepted)

  pub words_limit : words ≤ translation_bytes
  unfolding translation
  words_limit = omega (arith, bytes_counted, translation_limit (equal_trees b) b accepted)

module _ {b starts : List ℕ} (w : AcceptedSheet b starts) {k count first x : ℕ} {rec : List ℕ} (h : k < count) (e : count ≡ nodes b)
    (f : first ≡ first_node b) (g : rec ≡ record_at b (start_in starts (first + k))) where
  pub node_counted : x ≡ record_length rec → x ≡ node_length b k
  unfolding record_length
  node_counted p =
      let i : k < nodes b = omega (arith, h, e) in
      p ∙ rw (node_reached Sheet b starts k first rec w.file i f g) (sym (node_length_law (equal_trees b) b w.accepted k i))

module _ {b starts counts : List ℕ} (w : CountedLabels b starts counts) {f x y z : ℕ} (h : f < functions b)
    (g : x ≡ field (record_at b (start_in starts (first_function Sheet b + f))) 0) (p : y ≡ x) (q : z ≡ get_or counts f 0) where
  pub formal_counted : y * (2 + z) ≡ formal_length b f
  formal_counted =
      rw (p, opened_parameters b starts f x w.sheet.file h g, q, w.counted.entry f h) (mul-add _ 2 _ ∙ sym (formal_size (equal_trees b) b w.sheet.accepted f))

-- what translating would answer: a refusal that is passed on, the reader's or 8, or the length
pub refused_answer : {v : Verdict} (n : ℕ) (r : Result ℕ Refusal) (e : Refusal) → IsErrAnd r (λ d. d ≡ e) → Refused (number_of e.reason) e.place ≡ v
    → as_written r ≡ written_of v n
unfolding written_of
refused_answer n r e h f = let p = err_from_is_err_and r h in rw (p.1, p.2, ← f) refl

module _ (b : List ℕ) (room : ℕ) where
  pub reader_refuses : {n p : ℕ} → Refused n p ≡ sheet_verdict b → Refused n p ≡ translation_refusal b room
  unfolding translation_refusal ◌and_then◌
  reader_refuses e = rw (← e) refl

  pub room_decides : {v : Verdict} → sheet_verdict b ≡ Accepted → v ≡ require (leb (length (translation b)) room) short_output 0 → v ≡ translation_refusal b room
  unfolding translation_refusal ◌and_then◌
  room_decides accepted e = rw accepted e

  -- by the place of the translation's last byte
  module _ {n : ℕ} (accepted : sheet_verdict b ≡ Accepted) (e : n ≡ length (translation b)) where
    pub some_bytes : 2 ≤ n
    some_bytes = omega (arith, e, bytes_counted b accepted)

    pub last_byte_decides : {v : Verdict} → v ≡ require (ltb (n - 1) room) short_output 0 → v ≡ translation_refusal b room
    last_byte_decides f =
        let last : suc (n - 1) ≡ length (translation b) = omega (arith, some_bytes, e) in
        room_decides accepted (rw last at f)
