-- The cells alive in a run that gives cells back, each beside the cell of the same serial number in a run that keeps all of them.
use mathlib.Core.Path.{◌≡◌, refl, sym, ap, ◌∙◌}
use Prim.Native.Nat.{ℕ, zero, suc, ◌≤◌, ◌<◌}
use mathlib.Core.List.{List, [], ◌∷◌, ◌++◌}
use mathlib.Core.Option.{Option, none, some, none-ne-some}
use native.Mathlib.Omega.{arith}
use native.Mathlib.Decide.{ℕ_discrete}
use lib.IntN.{ℤ}
use lib.ListN.{length, get_or, set, length-append, length-set}
use Rattle.definitions.specs.Rule.{Value, integer, constructor}
use Rattle.definitions.specs.Cells.{Entry, Cell, new_cell, cell_of, entry_at, with_entry, with_value}
use Rattle.definitions.specs.LiveCells.{written}
use Rattle.laws.proofs.Cells.{value_length, new_empty}
use Rattle.laws.proofs.Written.{written_length}
use Rattle.given_back.proofs.Names.{Named, named_below, named_one, Grows, named_back, grows_added, each_name, Rising, rising_added, names_differ}
use Rattle.given_back.proofs.CellsAt.{cell_below, written_own, written_older, added_own, added_older, value_own, value_other, entry_of}

-- both remember nothing, one number, or constructors of one node under contexts of one name
pub data Recalls (names : List ℕ) : Entry → Entry → Type 0 where
  nothing : Recalls names none none
  a_number : {z : ℤ} → Recalls names (some (integer z)) (some (integer z))
  a_constructor : {k c d : ℕ} → Named names c d → Recalls names (some (constructor k c)) (some (constructor k d))

pub record Twins (names : List ℕ) (x y : Cell) : Type 0 where
  pub label : x.label ≡ y.label
  pub callee : x.callee ≡ y.callee
  pub previous : Named names x.previous y.previous
  pub sizes : length x.entries ≡ length y.entries
  pub entries : (j : ℕ) → Recalls names (entry_at x j) (entry_at y j)

-- the cell of context c, and that of serial number d
pub record Pair (names : List ℕ) (xs ys : List Cell) (c d : ℕ) : Type 0 where
  pub here : Cell
  pub there : Cell
  pub is_here : cell_of xs c ≡ some here
  pub is_there : cell_of ys d ≡ some there
  pub order : here.previous < c
  pub twins : Twins names here there

-- the first `live` cells of xs have the twins in ys that are named
pub record Alive (names : List ℕ) (live : ℕ) (xs ys : List Cell) : Type 0 where
  pub count : length names ≡ suc live
  pub fits : live ≤ length xs
  pub empty : Named names 0 0
  pub rising : Rising names
  pub pairs : (c d : ℕ) → Named names c d → 0 < c → Pair names xs ys c d

recalls_on : {names more : List ℕ} {x y : Entry} → Grows names more → Recalls names x y → Recalls more x y
recalls_on g nothing = nothing
recalls_on g a_number = a_number
recalls_on g (a_constructor {c} {d} n) = a_constructor (g.on c d n)

twins_on : {names more : List ℕ} {x y : Cell} → Grows names more → Twins names x y → Twins more x y
twins_on {x} {y} g t =
    record {
      label = t.label;
      callee = t.callee;
      previous = g.on x.previous y.previous t.previous;
      sizes = t.sizes;
      entries = λ j. recalls_on g (t.entries j);
    }

-- a value remembered by twins
entries_with : (P : Entry → Entry → Type 0) (es fs : List Entry) (i : ℕ) {o q : Entry} → length es ≡ length fs
    → ((j : ℕ) → P (get_or es j none) (get_or fs j none)) → P o q
    → (j : ℕ) → P (get_or (set es i o) j none) (get_or (set fs i q) j none)
entries_with P [] [] i e h p j = h j
entries_with P [] (f ∷ fs) i e h p j = absurd (omega (arith, e))
entries_with P (e ∷ es) [] i n h p j = absurd (omega (arith, n))
entries_with P (e ∷ es) (f ∷ fs) zero n h p zero = p
entries_with P (e ∷ es) (f ∷ fs) zero n h p (suc j) = h (suc j)
entries_with P (e ∷ es) (f ∷ fs) (suc i) n h p zero = h zero
entries_with P (e ∷ es) (f ∷ fs) (suc i) n h p (suc j) = entries_with P es fs i (omega (arith, n)) (λ m. h (suc m)) p j

twins_with : {names : List ℕ} {x y : Cell} (i : ℕ) (v u : Value ℕ) → Twins names x y → Recalls names (some v) (some u) → Twins names (with_entry i v x) (with_entry i u y)
unfolding with_entry entry_at
twins_with {names} {x} {y} i v u t r =
    record {
      label = t.label;
      callee = t.callee;
      previous = t.previous;
      sizes = length-set x.entries i (some v) ∙ t.sizes ∙ sym (length-set y.entries i (some u));
      entries = entries_with (Recalls names) x.entries y.entries i t.sizes t.entries r;
    }

module _ {names : List ℕ} {live : ℕ} {xs ys : List Cell} (A : Alive names live xs ys) where
  pub named_made : (c d : ℕ) → Named names c d → d ≤ length ys
  named_made zero d n = omega (arith, named_one n A.empty)
  named_made (suc c) d n = cell_below ys d (A.pairs (suc c) d n (omega arith)).is_there

  -- a cell made on both sides
  module _ {c d : ℕ} (l f : ℕ) (n : Named names c d) where
    abbrev more : List ℕ
    more = names ++ (suc (length ys) ∷ [])

    abbrev xs' : List Cell
    xs' = written xs live (new_cell l c f)

    abbrev ys' : List Cell
    ys' = ys ++ (new_cell l d f ∷ [])

    old_pair : (e g : ℕ) → Named names e g → 0 < e → Pair more xs' ys' e g
    old_pair e g m h =
        let p = A.pairs e g m h in
        record {
          here = p.here;
          there = p.there;
          is_here = written_older xs live e (new_cell l c f) A.fits (omega (arith, A.count, named_below m)) ∙ p.is_here;
          is_there = added_older ys g (new_cell l d f) p.is_there;
          order = p.order;
          twins = twins_on (grows_added names (suc (length ys))) p.twins;
        }

    new_pair : Pair more xs' ys' (suc live) (suc (length ys))
    unfolding new_cell
    new_pair =
        record {
          here = new_cell l c f;
          there = new_cell l d f;
          is_here = written_own xs live (new_cell l c f) A.fits;
          is_there = added_own ys (new_cell l d f);
          order = omega (arith, A.count, named_below n);
          twins = record {
            label = refl;
            callee = refl;
            previous = (grows_added names (suc (length ys))).on c d n;
            sizes = refl;
            entries = λ j. rw (new_empty l c f j, new_empty l d f j) nothing;
          };
        }

    pub alive_made : Alive (names ++ (suc (length ys) ∷ [])) (suc live) (written xs live (new_cell l c f)) (ys ++ (new_cell l d f ∷ []))
    alive_made =
        record {
          count = omega (arith, A.count, length-append names (suc (length ys) ∷ []));
          fits = omega (arith, written_length xs live (new_cell l c f) A.fits);
          empty = (grows_added names (suc (length ys))).on 0 0 A.empty;
          rising = rising_added A.rising (λ e g m. omega (arith, named_made e g m));
          pairs = each_name (λ e g. 0 < e → Pair more xs' ys' e g) old_pair (λ h. rw A.count new_pair);
        }

  -- a value remembered on both sides
  pub alive_valued : (c d j : ℕ) (v u : Value ℕ) → 0 < c → Named names c d → Recalls names (some v) (some u)
      → Alive names live (with_value c j v xs) (with_value d j u ys)
  unfolding with_entry
  alive_valued c d j v u h n r =
      record {
        count = A.count;
        fits = omega (arith, A.fits, value_length c j v xs);
        empty = A.empty;
        rising = A.rising;
        pairs = λ e g m i. pair e g m i (ℕ_discrete e c);
      }
    where
      pair : (e g : ℕ) → Named names e g → 0 < e → Dec (e ≡ c) → Pair names (with_value c j v xs) (with_value d j u ys) e g
      pair e g m i (yes q) =
          let p = A.pairs c d n h in
          rw (q, named_one (rw q at m) n)
          (record {
            here = with_entry j v p.here;
            there = with_entry j u p.there;
            is_here = value_own xs c j v p.is_here;
            is_there = value_own ys d j u p.is_there;
            order = p.order;
            twins = twins_with j v u p.twins r;
          })
      pair e g m i (no q) =
          let p = A.pairs e g m i in
          record {
            here = p.here;
            there = p.there;
            is_here = value_other xs c j e v q ∙ p.is_here;
            is_there = value_other ys d j g u (names_differ A.rising n m q) ∙ p.is_there;
            order = p.order;
            twins = p.twins;
          }

-- the context of a constructor that is remembered is alive
pub recalled_below : {names : List ℕ} {o q : Entry} (k c : ℕ) → Recalls names o q → o ≡ some (constructor k c) → c < length names
recalled_below k c nothing e = absurd (none-ne-some _ e)
recalled_below k c a_number e = absurd (let z : ◌≡◌ {A = ℕ} 0 1 = cc in omega arith)
recalled_below {names} k c (a_constructor {c = e} n) q = let z : e ≡ c = cc in omega (arith, named_below n)

recalls_back : {names more : List ℕ} {o q : Entry} → Grows names more → Recalls more o q → ((k c : ℕ) → o ≡ some (constructor k c) → c < length names)
    → Recalls names o q
recalls_back g nothing h = nothing
recalls_back g a_number h = a_number
recalls_back g (a_constructor {k} {c} n) h = a_constructor (named_back g (h k c refl) n)

-- cells are given back: where each constructor in a cell that stays alive was there before, none refers to a cell that does not
pub alive_given : {names more : List ℕ} {live live' : ℕ} {xs ys xs' ys' : List Cell} → Alive names live xs ys → Alive more live' xs' ys'
    → Grows names more → live ≤ live'
    → ((c i k x : ℕ) → c ≤ live → entry_of (cell_of xs' c) i ≡ some (constructor k x) → entry_of (cell_of xs c) i ≡ some (constructor k x))
    → Alive names live xs' ys'
alive_given {names} {more} {live} {xs'} {ys'} A B g h held =
    record { count = A.count; fits = omega (arith, B.fits); empty = A.empty; rising = A.rising; pairs = pair }
  where
    pair : (c d : ℕ) → Named names c d → 0 < c → Pair names xs' ys' c d
    pair c d n i =
        let p = A.pairs c d n i in
        let q = B.pairs c d (g.on c d n) i in
        let t = q.twins in
        record {
          here = q.here;
          there = q.there;
          is_here = q.is_here;
          is_there = q.is_there;
          order = q.order;
          twins = record {
            label = t.label;
            callee = t.callee;
            previous = named_back g (omega (arith, q.order, named_below n)) t.previous;
            sizes = t.sizes;
            entries = λ j. recalls_back g (t.entries j)
                (λ k x e. recalled_below k x (p.twins.entries j)
                (ap (λ (o : Option Cell). entry_of o j) (sym p.is_here)
                ∙ held c j k x (omega (arith, A.count, named_below n)) (ap (λ (o : Option Cell). entry_of o j) q.is_here ∙ e)));
          };
        }
