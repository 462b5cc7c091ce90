-- Laws of the labels of calls and of the counts of each function's labels, while nodes are passed.
use mathlib.Core.Path.{◌≡◌, refl, sym, ap, ◌∙◌}
use Prim.Native.Nat.{ℕ, ◌+◌, ◌≤◌, ◌<◌}
use mathlib.Core.List.{List}
use mathlib.Core.Bool.{Bool, true, false, cond, and-eq-true_iff, true≢false}
use native.Mathlib.Omega.{arith}
use native.Mathlib.Nat.{not-suc-le-zero}
use native.Mathlib.Decide.{ℕ_discrete}
use lib.ListN.{get_or, set, replicate, length-set, get_or-replicate}
use lib.Seq.{get_or-set_same, get_or-set_other}
use lib.Dec.{ltb, eqb}
use borrow.Author.Tests.{eq-eqb, ne_eqb, eqb-true, ltb-true, ltb-false}
use Rattle.definitions.specs.Sizes.{most_functions, most_nodes}
use Rattle.definitions.specs.Records.{record_at, kind_of, field, field_count}
use Rattle.definitions.specs.SheetKinds
use Rattle.definitions.specs.Lists.{count_of}
use Rattle.definitions.specs.Layouts.{functions, nodes, first_node, node_record}
use Rattle.definitions.specs.References.{every_other, from_first, from_second}
use Rattle.definitions.specs.SheetNodes.{call}
use Rattle.definitions.specs.Checks.{sheet_verdict}
use Rattle.definitions.specs.Trees.{names_node, equal_trees}
use Rattle.definitions.specs.Labels.{Labelling, calls, first_call, is_first, label_of}
use Rattle.definitions.specs.declared.Layout.TheVariants.{Sheet}
use Rattle.definitions.specs.Verdict.{Verdict, Accepted}
use Rattle.laws.proofs.Lists.{below_suc, count_more, count_none}
use Rattle.laws.proofs.FirstPassing.{First, first_pass, first_found}
use Rattle.accepted.proofs.Counts.{count_limit}
use Rattle.accepted.proofs.Head.{nodes_limit, functions_limit}
use Rattle.accepted.proofs.Names.{call_below}
use Rattle.accepted.proofs.SheetRecords.{SheetRecord, is_call, node_is}
use Rattle.accepted.proofs.Checks.{sheet_shape}
use Rattle.trees.proofs.Equal.{equal_swap, equal_then, equal_unfolds}
use Rattle.readback.proofs.Labels.{calls_node}
use Rattle.readback.proofs.FirstCalls.{label_same}
use Rattle.file_records.specs.Index.{start_in}
use Rattle.file_records.proofs.Indices.{node_reached}
use Rattle.format.specs.Readers.{ReadSheet}
use Rattle.file_runs.proofs.RunTables.{entry_more}
use Rattle.tree_classes.specs.Keys.{entry_of}
use Rattle.tree_classes.specs.Classes.{AcceptedSheet, ReadTables, FirstNodes}
use Rattle.call_labels.specs.Tables.{Labels, Counts, Classed}

-- what a reader accepts
pub reader_accepts : {b starts ends owners : List ℕ} {v : Verdict} → ReadSheet b v starts ends owners → v ≡ Accepted → ReadTables b starts ends owners
reader_accepts {b} w e =
    let a : sheet_verdict b ≡ Accepted = sym w.verdict ∙ e in
    record {
      sheet = record { accepted = a; file = record { accepted = sheet_shape b a; index = w.index e } };
      runs = w.runs e;
      owned = w.owned e;
    }

-- a node's record calls the function that it names, and no other
pub calls_named : (b : List ℕ) (k kind f : ℕ) → kind ≡ kind_of (node_record b k) → kind ≡ SheetKinds.call → f ≡ field (node_record b k) 0 → calls b f k ≡ true
unfolding calls
calls_named b k kind f e g p = rw (← e, g, ← p, eq-eqb f f refl) refl

calls_none : (b : List ℕ) (k kind : ℕ) → kind ≡ kind_of (node_record b k) → (kind ≡ SheetKinds.call → ⊥) → (f : ℕ) → calls b f k ≡ false
unfolding calls
calls_none b k kind e g f = rw (← e, ne_eqb kind SheetKinds.call g) refl

-- the kind and the function of a call
call_kind : (b : List ℕ) (f k : ℕ) → calls b f k ≡ true → (kind_of (node_record b k) ≡ SheetKinds.call) × (field (node_record b k) 0 ≡ f)
unfolding calls
call_kind b f k p =
    let x = (and-eq-true_iff (eqb (kind_of (node_record b k)) SheetKinds.call) (eqb (field (node_record b k) 0) f)).0 p in
    (eqb-true (kind_of (node_record b k)) SheetKinds.call x.0, eqb-true (field (node_record b k) 0) f x.1)

pub calls_same : (b : List ℕ) (f g k : ℕ) → calls b f k ≡ true → calls b g k ≡ true → f ≡ g
calls_same b f g k p q = sym (call_kind b f k p).1 ∙ (call_kind b g k q).1

calls_other : (b : List ℕ) (f g k : ℕ) → calls b f k ≡ true → (g ≡ f → ⊥) → (t : Bool) → calls b g k ≡ t → t ≡ false
calls_other b f g k p h true e = absurd (h (calls_same b g f k e p))
calls_other b f g k p h false e = refl

-- node k of an accepted sheet is a call of function f
pub record CallOf (b : List ℕ) (f k : ℕ) : Type 0 where
  pub below : k < nodes b
  pub narrow : k < most_nodes
  pub test : calls b f k ≡ true
  pub function : f < functions b
  pub few : functions b ≤ most_functions

pub call_of : {b starts : List ℕ} (w : AcceptedSheet b starts) {f k : ℕ} → k < nodes b → calls b f k ≡ true → CallOf b f k
call_of {b} w {f} {k} h t =
    record {
      below = h;
      narrow = omega (arith, h, nodes_limit Sheet b w.file.accepted);
      test = t;
      function = call_below b w.accepted k h (calls_node b f k t);
      few = functions_limit Sheet b w.file.accepted;
    }

-- so says its record, or it is no call
module _ {b starts : List ℕ} {k first kind : ℕ} {rec : List ℕ} (w : AcceptedSheet b starts) (h : k < nodes b)
    (p : first ≡ first_node b) (q : rec ≡ record_at b (start_in starts (first + k))) (e : kind ≡ kind_of rec) where
  there : rec ≡ node_record b k
  there = node_reached Sheet b starts k first rec w.file h p q

  pub call_read : {x f : ℕ} → kind ≡ SheetKinds.call → x ≡ field rec 0 → f ≡ x → CallOf b f k
  call_read {f} g y z = call_of w h (calls_named b k kind f (e ∙ rw there refl) g (z ∙ y ∙ rw there refl))

  pub none_read : (kind ≡ SheetKinds.call → ⊥) → (f : ℕ) → calls b f k ≡ false
  none_read = calls_none b k kind (e ∙ rw there refl)

-- a node with the tree of a call is a call of the same function
call_some : {rec : List ℕ} {f : ℕ} {ns : List ℕ} → SheetRecord rec (call f ns) → 0 < field_count rec
call_some (is_call e l g) = omega (arith, l)

first_field : {kind : ℕ} → kind ≡ SheetKinds.call → names_node kind 0 ≡ false
unfolding names_node every_other from_first from_second
first_field e = rw e refl

equal_calls : (b : List ℕ) (accepted : sheet_verdict b ≡ Accepted) (f k m : ℕ) → k < nodes b → calls b f k ≡ true → equal_trees b m k ≡ true → calls b f m ≡ true
equal_calls b accepted f k m h t e =
    let s = equal_unfolds b m k e in
    let some = call_some (node_is b (sheet_shape b accepted) k h (calls_node b f k t)) in
    let is = call_kind b f k t in
    let kind = s.kinds ∙ is.0 in
    calls_named b m SheetKinds.call f (sym kind) refl (sym is.1 ∙ sym (s.numbers 0 (omega (arith, some, s.counts)) (first_field kind)))

-- node k is a call of function f, and the first node with its tree is its first call
module _ {b classes : List ℕ} {f k : ℕ} (accepted : sheet_verdict b ≡ Accepted) (n : FirstNodes b classes) (o : CallOf b f k) where
  abbrev same : Labelling
  same = equal_trees b

  abbrev first : ℕ
  first = entry_of classes k

  found : First k (λ m. same m k) first
  found = rw (n.entry k o.below) (first_pass k (λ m. same m k))

  call_too : (m : ℕ) → same m k ≡ true → calls b f m ≡ true
  call_too m e = equal_calls b accepted f k m o.below o.test e

  pub first_limit : first ≤ k
  first_limit = found.limit

  first_is : first ≡ first_call same b f k
  unfolding first_call
  first_is =
      first_found (record {
        limit = found.limit;
        passes = λ h. rw (call_too first (found.passes h), found.passes h) refl;
        least = λ i h e. found.least i h ((and-eq-true_iff (calls b f i) (same i k)).0 e).1;
      })

  pub first_here : k ≤ first → is_first same b f k ≡ true
  unfolding is_first
  first_here h = rw (o.test, eq-eqb (first_call same b f k) k (omega (arith, sym first_is, first_limit, h))) refl

  first_before : first < k → is_first same b f k ≡ false
  unfolding is_first
  first_before h = rw (o.test, ne_eqb (first_call same b f k) k (λ e. omega (arith, e, first_is, h))) refl

  pub label_here : k ≤ first → count_of k (is_first same b f) ≡ label_of same b f k
  unfolding label_of
  label_here h = let e : first_call same b f k ≡ k = omega (arith, first_is, first_limit, h) in rw e refl

  label_likewise : first < k → label_of same b f first ≡ label_of same b f k
  label_likewise h = label_same same (equal_swap b) (equal_then b) b f first k (call_too first (found.passes h)) o.test (found.passes h)

  -- it is labelled and counted
  module _ {labels counts : List ℕ} (w : Labels b labels k) (c : Counts b counts k) where
    abbrev count : ℕ
    count = get_or counts f 0

    counted_before : count ≡ count_of k (is_first same b f)
    counted_before = c.entry f o.function

    pub count_small : count ≤ most_nodes
    count_small = omega (arith, counted_before, count_limit k (is_first same b f), o.narrow)

    label_by : (t : Bool) → ltb first k ≡ t → cond t (get_or labels first 0) count ≡ label_of same b f k
    label_by true e =
        let h = ltb-true first k e in
        w.entry f first h (call_too first (found.passes h)) ∙ label_likewise h
    label_by false e = counted_before ∙ label_here (ltb-false first k e)

    labelled_here : {x : ℕ} → x ≡ cond (ltb first k) (get_or labels first 0) count → (g : ℕ) → calls b g k ≡ true → x ≡ label_of same b g k
    labelled_here e g q = e ∙ label_by (ltb first k) refl ∙ ap (λ (n : ℕ). label_of same b n k) (calls_same b f g k o.test q)

    pub call_labelled : {y : ℕ} → y ≡ first → Labels b (set labels k (cond (ltb y k) (get_or labels y 0) count)) (k + 1)
    call_labelled {y} z =
        let x = cond (ltb y k) (get_or labels y 0) count in
        let e : x ≡ cond (ltb first k) (get_or labels first 0) count = rw z refl in
        record {
          size = length-set labels k x ∙ w.size;
          entry =
              λ g i n q. entry_more (λ j v. (a : ℕ) → calls b a j ≡ true → v ≡ label_of same b a j) labels k x (omega (arith, w.size, o.narrow))
              (λ j r a. w.entry a j r) (labelled_here e) i n g q;
        }

    other_first : (g : ℕ) → (g ≡ f → ⊥) → is_first same b g k ≡ false
    unfolding is_first
    other_first g q = rw (calls_other b f g k o.test q (calls b g k) refl) refl

    counted_here : k ≤ first → count + 1 ≡ count_of (k + 1) (is_first same b f)
    counted_here h = rw (count_more k (is_first same b f), first_here h, counted_before) refl

    counted_elsewhere : (g : ℕ) → g < functions b → is_first same b g k ≡ false → get_or counts g 0 ≡ count_of (k + 1) (is_first same b g)
    counted_elsewhere g n q = rw (count_more k (is_first same b g), q) (c.entry g n)

    counted_by : (t : Bool) → ltb first k ≡ t → Counts b (cond t counts (set counts f (count + 1))) (k + 1)
    counted_by true e =
        let h = ltb-true first k e in
        record {
          size = c.size;
          entry = λ g n. counted_elsewhere g n (elim (ℕ_discrete g f) [ yes q ↦ rw q (first_before h) | no q ↦ other_first g q ]);
        }
    counted_by false e =
        let h = ltb-false first k e in
        record {
          size = length-set counts f (count + 1) ∙ c.size;
          entry =
              λ g n. elim (ℕ_discrete g f) [
                | yes q ↦ rw q (get_or-set_same counts f (count + 1) 0 (omega (arith, c.size, o.function, o.few)) ∙ counted_here h)
                | no q ↦ get_or-set_other counts f g (count + 1) 0 q ∙ counted_elsewhere g n (other_first g q)
              ];
        }

    pub call_counted : {y : ℕ} → y ≡ first → Counts b (cond (ltb y k) counts (set counts f (count + 1))) (k + 1)
    call_counted z = rw z (counted_by (ltb first k) refl)

-- node k is no call
module _ (b : List ℕ) (k : ℕ) (p : (f : ℕ) → calls b f k ≡ false) where
  never : {A : Type 0} (f : ℕ) → calls b f k ≡ true → A
  never f q = absurd (true≢false (sym q ∙ p f))

  pub other_labelled : (labels : List ℕ) → Labels b labels k → Labels b labels (k + 1)
  other_labelled labels w =
      record {
        size = w.size;
        entry = λ f i n. below_suc (λ j. calls b f j ≡ true → get_or labels j 0 ≡ label_of (equal_trees b) b f j) k (w.entry f) (never f) i (omega (arith, n));
      }

  pub none_first : (f : ℕ) → is_first (equal_trees b) b f k ≡ false
  unfolding is_first
  none_first f = rw (p f) refl

  pub other_counted : (counts : List ℕ) → Counts b counts k → Counts b counts (k + 1)
  other_counted counts c = record { size = c.size; entry = λ f n. rw (count_more k (is_first (equal_trees b) b f), none_first f) (c.entry f n) }

-- a node with the tree of an earlier one is no first call
module _ {b starts classes : List ℕ} (c : Classed b starts classes) {k x : ℕ} (h : k < nodes b) (e : x ≡ entry_of classes k) (l : x < k) (f : ℕ) where
  not_first_by : (t : Bool) → calls b f k ≡ t → is_first (equal_trees b) b f k ≡ false
  unfolding is_first
  not_first_by true t = first_before c.sheet.accepted c.found (call_of c.sheet h t) (rw (← e) l)
  not_first_by false t = rw t refl

  pub not_first : is_first (equal_trees b) b f k ≡ false
  not_first = not_first_by (calls b f k) refl

-- no node is passed: tables of zeros
pub none_passed : {b starts ends owners classes : List ℕ} → ReadTables b starts ends owners → FirstNodes b classes
    → Classed b starts classes × Labels b (replicate most_nodes 0) 0 × Counts b (replicate most_functions 0) 0
none_passed {b} w n =
    let few = functions_limit Sheet b w.sheet.file.accepted in (
      record { sheet = w.sheet; found = n },
      record { size = refl; entry = λ f k h. absurd (not-suc-le-zero h) },
      record { size = refl; entry = λ f h. get_or-replicate most_functions f 0 0 (omega (arith, h, few)) ∙ sym (count_none (is_first (equal_trees b) b f)) },
    )
