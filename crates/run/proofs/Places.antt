-- Laws of the table of formals: parameter counts that are read, and the table while it is filled.
use mathlib.Core.Path.{◌≡◌, refl, ap, ◌∙◌}
use Prim.Native.Nat.{ℕ, ◌+◌, ◌*◌, ◌-◌, ◌≤◌, ◌<◌}
use mathlib.Core.List.{List}
use native.Mathlib.Omega.{arith}
use native.Mathlib.Nat.{not-suc-le-zero}
use native.Mathlib.Numerals.{add-one}
use native.Mathlib.Decide.{dec_lt}
use lib.ListN.{length, get_or, set, length-set}
use lib.Seq.{get_or-set_same, get_or-set_other}
use Rattle.definitions.specs.Sizes.{most_formals}
use Rattle.definitions.specs.Lists.{sum_of}
use Rattle.definitions.specs.Layouts.{items, functions, parameter_count, due}
use Rattle.definitions.specs.Records.{record_at, field}
use Rattle.definitions.specs.Checks.{translation_verdict}
use Rattle.definitions.specs.declared.Layout.TheVariants.{Translation}
use Rattle.definitions.specs.Verdict.{Accepted}
use Rattle.laws.proofs.Lists.{below_suc}
use Rattle.accepted.proofs.Head.{functions_limit, items_limit}
use Rattle.accepted.proofs.Sums.{sum_rises}
use Rattle.accepted.proofs.Checks.{translation_shape}
use Rattle.accepted.proofs.FormalPlaces.{function_of_formal, position_of_formal}
use Rattle.accepted.proofs.ParameterCounts.{parameter_count_most, parameter_total}
use Rattle.file_records.specs.Index.{start_in}
use Rattle.file_records.proofs.Indices.{indexed_record}
use Rattle.run.specs.FormalTable.{IndexedTranslation, place_of, FormalTable, Settable, PlacesSet}

-- the parameter count of a function, by the index
module _ {b index : List ℕ} (q : IndexedTranslation b index) where
  pub count_read : {r f x n : ℕ} {rec : List ℕ} → f < functions b → r ≡ 1 → x ≡ f → rec ≡ record_at b (start_in index (r + x)) → n ≡ field rec 1
      → n ≡ parameter_count b f
  count_read {r} {f} {x} {rec = rec} h er ex e en =
      let place : r + x ≡ 1 + f = omega arith in
      let is = indexed_record b index (due b) (1 + f) rec q.index (omega arith) (e ∙ ap (λ (i : ℕ). record_at b (start_in index i)) place) in
      en ∙ ap (λ (l : List ℕ). field l 1) is

-- the places of the first j formals of a function are set
pub record SettingPlaces (places : List ℕ) (f count first : ℕ) (places' : List ℕ) (j : ℕ) : Type 0 where
  pub reached : j ≤ count
  pub settable : Settable places f count first
  pub size : length places' ≡ most_formals
  pub kept : (p : ℕ) → p < first → get_or places' p 0 ≡ get_or places p 0
  pub set : (i : ℕ) → i < j → get_or places' (first + i) 0 ≡ 8 * f + i

pub setting_begins : {places : List ℕ} {f count first : ℕ} → Settable places f count first → SettingPlaces places f count first places 0
setting_begins s =
    record { reached = omega arith; settable = s; size = s.size; kept = λ p h. refl; set = λ i h. absurd (not-suc-le-zero h) }

module _ {places : List ℕ} {f count first : ℕ} {places' : List ℕ} {j : ℕ} (w : SettingPlaces places f count first places' j) where
  pub setting_room : {x : ℕ} → j < count → x ≡ j → first + x < most_formals
  setting_room h e = let r = w.settable.room in omega arith

  pub setting_goes_on : {x : ℕ} → j < count → x ≡ j → SettingPlaces places f count first (set places' (first + x) (8 * f + j)) (j + 1)
  setting_goes_on h e =
      let r = w.settable.room in
      let s = w.size in
      rw e (record {
        reached = omega arith;
        settable = w.settable;
        size = length-set places' (first + j) (8 * f + j) ∙ s;
        kept = λ p l. get_or-set_other places' (first + j) p (8 * f + j) 0 (λ q. omega arith) ∙ w.kept p l;
        set = λ i l.
            below_suc (λ n. get_or (set places' (first + j) (8 * f + j)) (first + n) 0 ≡ 8 * f + n) j
            (λ n m. get_or-set_other places' (first + j) (first + n) (8 * f + j) 0 (λ q. omega arith) ∙ w.set n m)
            (get_or-set_same places' (first + j) (8 * f + j) 0 (omega arith)) i (rw (add-one j) at l);
      })

  pub setting_ends : count ≤ j → PlacesSet places f count first places'
  setting_ends h = record { size = w.size; kept = w.kept; set = λ i l. w.set i (omega arith) }

-- the places of the formals of the first f functions are right
pub record FillingPlaces (b places : List ℕ) (count first f : ℕ) : Type 0 where
  pub counted : count ≡ functions b
  pub reached : f ≤ count
  pub begun : first ≡ sum_of f (parameter_count b)
  pub limit : first ≤ most_formals
  pub size : length places ≡ most_formals
  pub place : (p : ℕ) → p < first → get_or places p 0 ≡ place_of b p

pub filling_begins : {b places : List ℕ} {count : ℕ} → count ≡ functions b → length places ≡ most_formals → FillingPlaces b places count 0 0
unfolding sum_of
filling_begins e s = record { counted = e; reached = omega arith; begun = refl; limit = omega arith; size = s; place = λ p h. absurd (not-suc-le-zero h) }

module _ {b places : List ℕ} {count first f : ℕ} (accepted : translation_verdict b ≡ Accepted) (w : FillingPlaces b places count first f) where
  sum_next : sum_of (f + 1) (parameter_count b) ≡ sum_of f (parameter_count b) + parameter_count b f
  unfolding sum_of
  sum_next = rw (add-one f) refl

  room : {n : ℕ} → f < count → n ≡ parameter_count b f → first + n ≤ most_formals
  room h e =
      let c = w.counted in
      let s = sum_next in
      let i = w.begun in
      let t = parameter_total b accepted in
      let l = items_limit Translation b (translation_shape b accepted) in
      let m = sum_rises (f + 1) (functions b) (parameter_count b) (omega arith) in
      omega arith

  pub filling_below : f < count → f < functions b
  filling_below h = let c = w.counted in omega arith

  pub filling_settable : {n : ℕ} → f < count → n ≡ parameter_count b f → Settable places f n first
  filling_settable h e =
      let c = w.counted in
      let l = functions_limit Translation b (translation_shape b accepted) in
      record {
        size = w.size;
        function = omega arith;
        few = rw e (parameter_count_most b accepted f (omega arith));
        room = room h e;
      }

  pub filling_goes_on : {n x : ℕ} {places' : List ℕ} → f < count → n ≡ parameter_count b f → x ≡ n → PlacesSet places f n first places'
      → FillingPlaces b places' count (first + x) (f + 1)
  filling_goes_on {n} {x} {places'} h e ex s =
      let c = w.counted in
      let i = w.begun in
      record {
        counted = w.counted;
        reached = omega arith;
        begun = omega (arith, sum_next);
        limit = let r = room h e in omega arith;
        size = s.size;
        place = λ p l. by p l (dec_lt p first);
      }
    where
      new : (j : ℕ) → j < n → get_or places' (first + j) 0 ≡ place_of b (first + j)
      new j l =
          let c = w.counted in
          let k : f < functions b = omega arith in
          let m : j < parameter_count b f = omega arith in
          s.set j l
          ∙ rw (w.begun, function_of_formal (parameter_count b) (functions b) f j k m, position_of_formal (parameter_count b) (functions b) f j k m) refl

      by : (p : ℕ) → p < first + x → Dec (p < first) → get_or places' p 0 ≡ place_of b p
      by p l (yes q) = s.kept p q ∙ w.place p q
      by p l (no q) = let z : first + (p - first) ≡ p = omega arith in rw z at (new (p - first) (omega arith))

  pub places_filled : count ≤ f → FormalTable b places
  places_filled h =
      let e : f ≡ functions b = let c = w.counted in let r = w.reached in omega arith in
      let t : first ≡ items b = w.begun ∙ rw e (parameter_total b accepted) in
      record { size = w.size; place = λ p l. w.place p (rw t l) }
