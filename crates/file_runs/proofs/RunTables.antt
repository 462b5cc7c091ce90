-- The tables of runs while they are filled, and laws of their turns.
use mathlib.Core.Path.{◌≡◌, refl, sym, ◌∙◌}
use Prim.Native.Nat.{ℕ, suc, ◌+◌, ◌≤◌, ◌<◌}
use mathlib.Core.List.{List}
use mathlib.Core.Bool.{Bool, true, false, cond}
use native.Mathlib.Omega.{arith}
use native.Mathlib.Nat.{not-suc-le-zero}
use native.Mathlib.Numerals.{add-one}
use native.Mathlib.Decide.{ℕ_discrete}
use lib.ListN.{length, get_or, set, length-set}
use lib.Seq.{get_or-set_same, get_or-set_other}
use lib.Dec.{leb}
use Rattle.definitions.specs.Sizes.{most_functions, most_nodes}
use borrow.Author.Tests.{le-leb, lt-leb, leb-true, leb-false}
use Rattle.definitions.specs.Records.{record_of, field}
use Rattle.definitions.specs.Lists.{sum_of}
use Rattle.definitions.specs.Layouts.{functions, nodes, first_function, due, count_field, node_count, run_end, owner_of}
use Rattle.definitions.specs.Shape.{file_shape}
use Rattle.definitions.specs.declared.Layout.{Layout}
use Rattle.definitions.specs.declared.Layout.TheVariants.{Sheet, Translation}
use Rattle.definitions.specs.Verdict.{Accepted}
use Rattle.laws.proofs.Lists.{below_suc}
use Rattle.laws.proofs.Runs.{Totalled, total_none, total_more, total_counts}
use Rattle.accepted.proofs.Head.{functions_limit, functions_least, nodes_limit}
use Rattle.accepted.proofs.Sections.{node_counts_sum}
use Rattle.accepted.proofs.Sums.{sum_rises}
use Rattle.accepted.proofs.Owners.{start_below_end, last_end, owner_unique}
use Rattle.file_records.specs.Index.{Indexed, Opened}
use Rattle.file_runs.specs.Runs.{RunEndTable, Owners, owner_after}
use Rattle.file_records.proofs.Indices.{fewer}

-- one entry more of a table whose first n entries are right
pub entry_more : (P : ℕ → ℕ → Type 0) (table : List ℕ) (n x : ℕ) → n < length table → ((i : ℕ) → i < n → P i (get_or table i 0)) → P n x
    → (i : ℕ) → i < n + 1 → P i (get_or (set table n x) i 0)
entry_more P table n x h f p i k =
    below_suc (λ j. P j (get_or (set table n x) j 0)) n
    (λ j q. rw (get_or-set_other table n j x 0 (λ e. omega (arith, e, q))) (f j q))
    (rw (get_or-set_same table n x 0 h) p) i (omega (arith, k))

-- the ends of the first f runs are in the table; the functions' records are the `count` from `first` on
pub record FillingEnds (b starts : List ℕ) (first count j : ℕ) (ends : List ℕ) (total f : ℕ) : Type 0 where
  pub reached : f ≤ count
  pub few : count ≤ most_functions
  pub small : sum_of count (λ g. field (record_of b (first + g)) j) ≤ most_nodes
  pub index : Indexed b starts (first + count)
  pub size : length ends ≡ most_functions
  pub summed : Totalled b first j f total
  pub total_small : total ≤ most_nodes
  pub entry : (i : ℕ) → i < f → Totalled b first j (suc i) (get_or ends i 0)

functions_due : (y : Layout) (b : List ℕ) → first_function y b + functions b ≤ due b
functions_due Sheet b = omega arith
functions_due Translation b = omega arith

pub ending_begins : {y : Layout} {b starts ends : List ℕ} {first count j : ℕ} → Opened y b starts → first ≡ first_function y b → count ≡ functions b
    → j ≡ count_field y → length ends ≡ most_functions → FillingEnds b starts first count j ends 0 0
ending_begins {y} {b} {starts} {first} {j} o e f g s =
    record {
      reached = omega arith;
      few = rw f (functions_limit y b o.accepted);
      small = rw (e, f, g, node_counts_sum y b o.accepted) (nodes_limit y b o.accepted);
      index = rw (e, f) (fewer b starts (due b) (first_function y b + functions b) (functions_due y b) o.index);
      size = s;
      summed = total_none b first j;
      total_small = omega arith;
      entry = λ i h. absurd (not-suc-le-zero h);
    }

module _ {b starts : List ℕ} {first count j : ℕ} {ends : List ℕ} {total f : ℕ} (w : FillingEnds b starts first count j ends total f) where
  pub next_fits : (x : ℕ) → f < count → x ≡ field (record_of b (first + f)) j → total + x ≤ most_nodes
  next_fits x h e =
      let t = total_more b first j f total x w.summed e in
      omega (arith, t.is, sum_rises (f + 1) count (λ g. field (record_of b (first + g)) j) (omega (arith, h)), w.small)

  pub ending_goes_on : (x : ℕ) → f < count → x ≡ field (record_of b (first + f)) j → FillingEnds b starts first count j (set ends f (total + x)) (total + x) (f + 1)
  ending_goes_on x h e =
      let t = total_more b first j f total x w.summed e in
      record {
        reached = omega (arith, h);
        few = w.few;
        small = w.small;
        index = w.index;
        size = length-set ends f (total + x) ∙ w.size;
        summed = t;
        total_small = next_fits x h e;
        entry = entry_more (λ i v. Totalled b first j (suc i) v) ends f (total + x) (omega (arith, w.size, w.few, h)) w.entry (rw add-one at t);
      }

  pub ending_done : {y : Layout} → first ≡ first_function y b → count ≡ functions b → j ≡ count_field y → count ≤ f → RunEndTable y b ends
  unfolding run_end
  ending_done {y} e g h k =
      record { entry = λ i q. total_counts y b first j (suc i) (suc i) (get_or ends i 0) (w.entry i (omega (arith, g, q, k))) e h refl }

-- the owners of the first k nodes are in the table; node k is owned by function f or the next one
pub record Owning (b ends : List ℕ) (count : ℕ) (owners : List ℕ) (f k : ℕ) : Type 0 where
  pub accepted : file_shape Sheet b ≡ Accepted
  pub runs : RunEndTable Sheet b ends
  pub counted : count ≡ nodes b
  pub room : count ≤ most_nodes
  pub reached : k ≤ count
  pub size : length owners ≡ most_nodes
  pub few : f < functions b
  pub narrow : f < most_functions
  pub started : sum_of f (node_count Sheet b) ≤ k
  pub soon : k ≤ run_end Sheet b f
  pub entry : (i : ℕ) → i < k → get_or owners i 0 ≡ owner_of Sheet b i

pub owning_begins : {b ends owners : List ℕ} {count : ℕ} → file_shape Sheet b ≡ Accepted → RunEndTable Sheet b ends → count ≡ nodes b → length owners ≡ most_nodes
    → Owning b ends count owners 0 0
unfolding sum_of
owning_begins {b} a r e s =
    record {
      accepted = a;
      runs = r;
      counted = e;
      room = rw e (nodes_limit Sheet b a);
      reached = omega arith;
      size = s;
      few = functions_least Sheet b a;
      narrow = omega arith;
      started = omega arith;
      soon = omega arith;
      entry = λ i h. absurd (not-suc-le-zero h);
    }

-- the owner of node k
pub record OwnedBy (b : List ℕ) (k g : ℕ) : Type 0 where
  pub few : g < functions b
  pub started : sum_of g (node_count Sheet b) ≤ k
  pub ends_later : k < run_end Sheet b g

end_sum : (b : List ℕ) (f : ℕ) → run_end Sheet b f ≡ sum_of (f + 1) (node_count Sheet b)
unfolding run_end
end_sum b f = rw add-one refl

module _ {b ends : List ℕ} {count : ℕ} {owners : List ℕ} {f k : ℕ} (w : Owning b ends count owners f k) where
  not_last : k < count → run_end Sheet b f ≤ k → Dec (suc f ≡ functions b) → f + 1 < functions b
  not_last h r (yes e) = absurd (omega (arith, last_end Sheet b w.accepted f e, w.counted, h, r))
  not_last h r (no n) = omega (arith, w.few, n)

  owned_next : k < count → run_end Sheet b f ≤ k → OwnedBy b k (f + 1)
  owned_next h r =
      let q : f + 1 < functions b = not_last h r (ℕ_discrete (suc f) (functions b)) in
      record {
        few = q;
        started = omega (arith, end_sum b f, r);
        ends_later = omega (arith, start_below_end Sheet b w.accepted (f + 1) q, end_sum b f, w.soon, r);
      }

  owned_by : (t : Bool) → k < count → leb (get_or ends f 0) k ≡ t → OwnedBy b k (cond t (f + 1) f)
  owned_by true h e = owned_next h (rw (w.runs.entry f w.few) at (leb-true (get_or ends f 0) k e))
  owned_by false h e =
      record { few = w.few; started = w.started; ends_later = rw (w.runs.entry f w.few) at (leb-false (get_or ends f 0) k e) }

  pub owner_of_next : (g : ℕ) → k < count → g ≡ owner_after ends f k → OwnedBy b k g
  unfolding owner_after
  owner_of_next g h e = rw e (owned_by (leb (get_or ends f 0) k) h refl)

  pub owner_small : (g : ℕ) → k < count → g ≡ owner_after ends f k → g < most_functions
  owner_small g h e = omega (arith, (owner_of_next g h e).few, functions_limit Sheet b w.accepted)

  pub owning_goes_on : (g : ℕ) → k < count → g ≡ owner_after ends f k → Owning b ends count (set owners k g) g (k + 1)
  owning_goes_on g h e =
      let o = owner_of_next g h e in
      record {
        accepted = w.accepted;
        runs = w.runs;
        counted = w.counted;
        room = w.room;
        reached = omega (arith, h);
        size = length-set owners k g ∙ w.size;
        few = o.few;
        narrow = owner_small g h e;
        started = omega (arith, o.started);
        soon = omega (arith, o.ends_later);
        entry =
            entry_more (λ i v. v ≡ owner_of Sheet b i) owners k g (omega (arith, w.size, w.room, h)) w.entry
            (sym (owner_unique Sheet b w.accepted k g o.few o.started o.ends_later));
      }

  pub owning_done : count ≤ k → Owners b owners
  owning_done h = record { entry = λ i q. w.entry i (omega (arith, w.counted, q, h)) }

pub owner_next : (ends : List ℕ) (f k x : ℕ) → x ≡ get_or ends f 0 → x ≤ k → f + 1 ≡ owner_after ends f k
unfolding owner_after
owner_next ends f k x e h = rw (← e, le-leb x k h) refl

pub owner_same : (ends : List ℕ) {f k x : ℕ} → x ≡ get_or ends f 0 → k < x → f ≡ owner_after ends f k
unfolding owner_after
owner_same ends {k} {x} e h = rw (← e, lt-leb x k h) refl
