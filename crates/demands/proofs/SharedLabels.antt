-- Request 4 of document 02, in its words, over what the public calls promise: `Translates` of `translator::translate`, `Runs` of `run::run`,
-- and for callers in C `TranslatesC` and `RunsC`.
use mathlib.Core.Path.{◌≡◌, sym, ◌∙◌}
use mathlib.Core.Logic.{◌↔◌}
use Prim.Native.Nat.{ℕ, ◌≤◌, ◌<◌}
use mathlib.Core.List.{List}
use mathlib.Core.Option.{some}
use native.Mathlib.Omega.{arith}
use lib.IntN.{ℤ}
use lib.ListN.{length, take, drop}
use Rattle.definitions.specs.Sizes.{translation_bytes, answer_size}
use Rattle.definitions.specs.Layouts.{functions, nodes}
use Rattle.definitions.specs.References.{parameters}
use Rattle.definitions.specs.SheetNodes.{call, sheet_node_of}
use Rattle.definitions.specs.TranslationNodes
use Rattle.definitions.specs.TranslationNodes.{translation_node_of, actual}
use Rattle.definitions.specs.Checks.{translation_verdict}
use Rattle.definitions.specs.Lists.{count_of}
use Rattle.definitions.specs.Trees.{equal_trees}
use Rattle.definitions.specs.Labels.{never_shared, calls, label_of}
use Rattle.definitions.specs.Translate.{formal_of, translation, unshared_translation}
use Rattle.definitions.specs.Verdict.{Accepted}
use Rattle.definitions.specs.Written.{Length}
use Rattle.readback.specs.TranslatedNode.{translated_node}
use Rattle.readback.proofs.Nodes.{node_becomes}
use Rattle.readback.proofs.Records.{translation_nodes}
use Rattle.readback.proofs.Accepted.{translation_accepted_law}
use Rattle.readback.proofs.Size.{translation_limit}
use Rattle.readback.proofs.Unshared.{unshared_label}
use Rattle.shared_runs.specs.Reads.{EqualArguments}
use Rattle.shared_runs.specs.SameRuns.{SameAnswers}
use Rattle.shared_runs.specs.FileLabels.{FirstInOrder, LabelBefore, NewLabel}
use Rattle.shared_runs.proofs.Shared.{answers_kept}
use Rattle.shared_runs.proofs.FileLabels.{labels_equal, listed_label, label_new, label_alone}
use Rattle.translator.specs.Promise.{Translates}
use Rattle.answer.specs.declared.Answer.{Answer}
use Rattle.answer.specs.Answers.{answer_of}
use Rattle.run.specs.Promise.{Runs}
use Rattle.zifnora_c.specs.Codes.{code_number, code_value}
use Rattle.zifnora_c.specs.Promise.{TranslatesC, RunsC}
use Rattle.zifnora_c.proofs.Coding.{fits}
use Rattle.demands.specs.Demands as Demands
use Rattle.demands.specs.Demands.{WritingMet, Handed}
use Rattle.demands.specs.InC.{SameRecords}
use Rattle.demands.proofs.Meeting.{translating_met}
use Rattle.demands.proofs.Handing.{refused_length, handed}
use Rattle.demands.proofs.HandingInC.{handed_in_C}
use Rattle.demands.proofs.Recorded.{same_records}
use Rattle.demands.proofs.RunningInC.{record_where_fits}

length_by : {n m : ℕ} {done untouched : Type 0} → WritingMet (Length n) m done untouched → n ≡ m
length_by (Demands.WritingMet.writes e d) = cc e
length_by (Demands.WritingMet.refuses m p e k u) = absurd (refused_length (sym e))

-- "the old labelling" is document 01's: "Calls of one function are labelled 0, 1, .. in node order over the whole sheet"
pub request_4_old : (sheet : List ℕ) (f k : ℕ) → label_of never_shared sheet f k ≡ count_of k (calls sheet f)
request_4_old = unshared_label

-- "From now on labels follow section 3.4 of document 002.": whoever reads the bytes that the translator wrote
module _ (sheet out : List ℕ) (n : ℕ) (out' : List ℕ) (translated : Translates sheet out (Length n) out') where
  h : Handed sheet n out'
  h = handed sheet out n out' translated

  -- "Two calls of one function whose arguments are equal trees get one label.", and others do not. "In these trees a call counts as its
  -- function and arguments, a parameter as its function and position, a pattern variable as its scrutinee's tree and position."
  -- is `equal_trees`, of which `EqualArguments` speaks
  pub request_4_labels : (f k m l j : ℕ) {ns ms : List ℕ} → k < nodes sheet → m < nodes sheet
      → sheet_node_of sheet k ≡ call f ns → sheet_node_of sheet m ≡ call f ms
      → translation_node_of (take n out') k ≡ TranslationNodes.call l f → translation_node_of (take n out') m ≡ TranslationNodes.call j f
      → (l ≡ j) ↔ EqualArguments sheet ns ms
  request_4_labels = rw h.is (labels_equal sheet h.accepted)

  -- "A new label is the next number at its first call in node order, and the formal lists that call's argument nodes."
  pub request_4_new : (f k : ℕ) {ns : List ℕ} → k < nodes sheet → FirstInOrder sheet f k ns
      → (l : ℕ) → translation_node_of (take n out') k ≡ TranslationNodes.call l f → NewLabel sheet (take n out') f k ns l
  request_4_new = rw h.is (label_new sheet h.accepted)

  -- so all calls of a function without parameters have label 0
  pub request_4_without_parameters : (f k l : ℕ) {ns : List ℕ} → k < nodes sheet → sheet_node_of sheet k ≡ call f ns → parameters sheet f ≡ 0
      → translation_node_of (take n out') k ≡ TranslationNodes.call l f → l ≡ 0
  request_4_without_parameters = rw h.is (label_alone sheet h.accepted)

  -- and no others: what a formal lists in some place is for calls that have this label
  pub request_4_listed : (f i l : ℕ) {x : ℕ} → f < functions sheet → i < parameters sheet f → actual (take n out') (formal_of sheet f i) l ≡ some x
      → LabelBefore sheet (take n out') f (nodes sheet) l
  request_4_listed = rw h.is (listed_label sheet h.accepted)

  -- "All nodes stay in the file.", each in its place
  pub request_4_nodes : (nodes (take n out') ≡ nodes sheet)
      × ((k : ℕ) → k < nodes sheet → translation_node_of (take n out') k ≡ translated_node (equal_trees sheet) sheet k (sheet_node_of sheet k))
  unfolding translation
  request_4_nodes = rw h.is (translation_nodes (equal_trees sheet) sheet h.accepted, node_becomes (equal_trees sheet) sheet h.accepted)

  -- the file is read, and no longer than a translation may be
  pub request_4_read : (translation_verdict (take n out') ≡ Accepted) × (n ≤ translation_bytes)
  unfolding translation
  request_4_read =
      let l = length_by (translating_met sheet out (Length n) out' translated) in
      let t = translation_limit (equal_trees sheet) sheet h.accepted in
      (rw h.is (translation_accepted_law (equal_trees sheet) sheet h.accepted), omega (arith, l, t))

  -- "Outcome, value, steps and number of cells of any sheet's run are those of the old labelling.": whoever runs these bytes, and runs
  -- the translation by the old labelling with the same readings, allowances and as many lent cell bytes; refusals included
  pub request_4_runs : (rs : List ℤ) (steps nesting cells_allowed : ℕ) (before before' : List ℕ) → length before ≡ length before'
      → (r r' : Answer) (after after' : List ℕ)
      → Runs (unshared_translation sheet) rs steps nesting cells_allowed before r after → Runs (take n out') rs steps nesting cells_allowed before' r' after'
      → SameAnswers (answer_of r) (answer_of r')
  request_4_runs rs steps nesting cells_allowed before before' lent r r' after after' old new =
      rw (old.answer, new.answer, h.is, lent) (answers_kept sheet h.accepted rs steps nesting cells_allowed (length before'))

-- and for a caller in C, who reads the records
module _ (sheet out : List ℕ) (code : ℕ) (out' : List ℕ) (translated : TranslatesC sheet out code out') (not_refused : code_number code ≡ 0)
    (rs : List ℤ) (steps nesting cells_allowed : ℕ) where
  pub request_4_runs_in_C : (before before' room room' : List ℕ) → length before ≡ length before' → (c c' : ℕ) (after after' written written' : List ℕ)
      → RunsC (unshared_translation sheet) rs steps nesting cells_allowed before room c after written → c ≡ 0
      → RunsC (take (code_value code) out') rs steps nesting cells_allowed before' room' c' after' written' → c' ≡ 0
      → SameRecords written written'
  request_4_runs_in_C before before' room room' lent c c' after after' written written' old e new e' =
      let h = handed_in_C sheet out code out' translated not_refused in
      let x = old.written ∙ record_where_fits room (fits room c old.answer e) _ in
      let y = new.written ∙ record_where_fits room' (fits room' c' new.answer e') _ in
      rw (x, y)
      (same_records _ _ (drop answer_size room) (drop answer_size room')
      (rw (h.is, lent) (answers_kept sheet h.accepted rs steps nesting cells_allowed (length before'))))
