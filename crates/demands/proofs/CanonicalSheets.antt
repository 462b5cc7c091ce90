-- Request 13 of document 02, in its words, over what the public calls promise: `WritesCanonical` of `canonical_writer::write_canonical`,
-- `Translates` of `translator::translate`, and of the owner's runs `Runs` of `run::run`, `RunsRows` of `batch::run_rows` and `Joins` of
-- `join::translate_and_run`; and for callers in C `WritesCanonicalC`, `TranslatesC`, `RunsC`, `RunsRowsC` and `JoinsC`. None of these calls
-- has a `requires`. The bytes of a sheet are below 256 (`Bytes`), as those of every slice are.
use mathlib.Core.Path.{◌≡◌, refl, sym, ◌∙◌}
use mathlib.Core.Logic.{◌↔◌}
use Prim.Native.Nat.{ℕ, ◌*◌, ◌<◌}
use mathlib.Core.List.{List}
use lib.IntN.{ℤ}
use lib.ListN.{length, take, drop}
use lib.Dec.{leb}
use Rattle.definitions.specs.Sizes.{answer_size}
use Rattle.definitions.specs.Numbers.{short_output}
use Rattle.definitions.specs.Verdicts.{◌and_then◌, require}
use Rattle.definitions.specs.Output.{written_of}
use Rattle.definitions.specs.Layouts.{functions, body_of}
use Rattle.definitions.specs.Checks.{sheet_verdict}
use Rattle.definitions.specs.Translate.{translation}
use Rattle.definitions.specs.CanonicalSheet.{bodies, sections, canonical}
use Rattle.definitions.specs.declared.Layout.TheVariants.{Sheet}
use Rattle.definitions.specs.Verdict.{Accepted}
use Rattle.definitions.specs.Written.{Written, Length}
use Rattle.laws.proofs.ByteFiles.{Bytes}
use Rattle.shared_runs.specs.Reads.{EqualTrees}
use Rattle.shared_runs.specs.SameRuns.{SameAnswers}
use Rattle.canonical_sheets.proofs.EqualBodies.{bodies_exactly}
use Rattle.canonical_sheets.proofs.Accepted.{answers_kept}
use Rattle.canonical_writer.specs.Promise.{WritesCanonical}
use Rattle.translator.specs.Promise.{Translates}
use Rattle.answer.specs.declared.Answer.{Answer}
use Rattle.answer.specs.Answers.{answer_of}
use Rattle.run.specs.Promise.{Runs}
use Rattle.batch.specs.Promise.{RunsRows}
use Rattle.join.specs.Promise.{Joins}
use Rattle.zifnora_c.specs.Codes.{code_number, code_value}
use Rattle.zifnora_c.specs.Promise.{TranslatesC, WritesCanonicalC, RunsC, RunsRowsC, JoinsC}
use Rattle.zifnora_c.proofs.Coding.{fits}
use Rattle.demands.specs.InC.{SameRecords}
use Rattle.demands.specs.CanonicalSheets.{SameSheets, HandedCanonical, CanonicalMet, CanonicalMetInC}
use Rattle.demands.proofs.Refusals.{batch_numbered}
use Rattle.demands.proofs.Handing.{not_refused_by, handed}
use Rattle.demands.proofs.Recorded.{same_records}
use Rattle.demands.proofs.HandingInC.{not_refused_in_C, handed_in_C}
use Rattle.demands.proofs.RunningInC.{record_where_fits}
use Rattle.demands.proofs.Canonical.{answer_by_length, length_is, handed_canonical, canonical_met, canonical_met_in_C, value_length, handed_canonical_in_C}
use Rattle.demands.proofs.Canonical.{form_sections, form_accepted, form_again, forms_exactly}
use Rattle.demands.proofs.CanonicalRuns.{joined_same, rows_same, row_same}

-- demand 1 for this call: the sheet's length and its canonical form, or a numbered refusal that leaves the output as it was
pub request_13_met : (sheet out : List ℕ) (r : Written) (out' : List ℕ) → WritesCanonical sheet out r out' → CanonicalMet sheet out r out'
request_13_met = canonical_met

-- "Output too short is 8", after the refusals of the sheet's reader: "The output has the input's length; 8 is known before the first byte"
pub request_13_answer : (sheet out : List ℕ) (r : Written) (out' : List ℕ) → WritesCanonical sheet out r out'
    → r ≡ written_of (sheet_verdict sheet and_then require (leb (length sheet) (length out)) short_output 0) (length sheet)
request_13_answer sheet out r out' w = w.answer ∙ answer_by_length sheet (length out)

-- "Write any accepted sheet, typed or not, with each function's nodes in post-order, children left to right." is `canonical`: the bytes handed
-- over are these, and head, constructors and functions are the sheet's
module _ (sheet out : List ℕ) (n : ℕ) (out' : List ℕ) (writes : WritesCanonical sheet out (Length n) out') where
  h : HandedCanonical sheet n out'
  h = handed_canonical sheet out n out' writes

  pub request_13_bytes : (n ≡ length sheet) × (take n out' ≡ canonical sheet)
  request_13_bytes = (length_is sheet out n out' writes, h.is)

  pub request_13_sections : sections (take n out') ≡ sections sheet
  request_13_sections = form_sections h

  module _ (bytes : Bytes sheet) where
    -- what comes out is an accepted sheet
    pub request_13_accepted : sheet_verdict (take n out') ≡ Accepted
    request_13_accepted = form_accepted h bytes

    -- "Writing twice changes no byte."
    pub request_13_twice : (again : List ℕ) (m : ℕ) (again' : List ℕ) → WritesCanonical (take n out') again (Length m) again' → take m again' ≡ take n out'
    request_13_twice again m again' w = form_again h bytes (handed_canonical (take n out') again m again' w)

    -- "Outcome, value, steps and cell count of the owner's runs are kept; labels and node numbers may differ.": whoever translates both sheets and
    -- runs the bytes that the translator wrote, unchanged, with the same readings and allowances and as many lent cell bytes; stops and
    -- refusals included
    module _ (one two : List ℕ) (k l : ℕ) (one' two' : List ℕ) (first : Translates sheet one (Length k) one') (second : Translates (take n out') two (Length l) two')
        (rs : List ℤ) (steps nesting cells_allowed : ℕ) (before before' : List ℕ) (lent : length before ≡ length before') where
      of_sheet : take k one' ≡ translation sheet
      of_sheet = (handed sheet one k one' first).is

      of_form : take l two' ≡ translation (canonical sheet)
      of_form = rw h.is at (handed (take n out') two l two' second).is

      pub request_13_runs : (r r' : Answer) (after after' : List ℕ) → Runs (take k one') rs steps nesting cells_allowed before r after
          → Runs (take l two') rs steps nesting cells_allowed before' r' after' → SameAnswers (answer_of r) (answer_of r')
      request_13_runs r r' after after' x y =
          rw (x.answer, y.answer, of_sheet, of_form, lent) (answers_kept sheet bytes h.accepted rs steps nesting cells_allowed (length before'))

      -- and on rows: the batches answer the same, and where they wrote, the records of each row are the same
      module _ (rows : ℕ) (room room' : List ℕ) (as_long : length room ≡ length room') (r r' : Written) (after after' written written' : List ℕ)
          (x : RunsRows (take k one') rows rs steps nesting cells_allowed before room r after written)
          (y : RunsRows (take l two') rows rs steps nesting cells_allowed before' room' r' after' written') where
        pub request_13_batches : r ≡ r'
        request_13_batches =
            x.answer ∙ rw (of_sheet, of_form, lent, as_long, rows_same sheet bytes h.accepted rows rs nesting cells_allowed (length before') (length room')) refl
            ∙ sym y.answer

        pub request_13_rows : (m : ℕ) → r ≡ Length m → (i : ℕ) → i < rows → SameRecords (drop (i * answer_size) written) (drop (i * answer_size) written')
        request_13_rows m e i g =
            let u = rw of_sheet at x in
            let v = rw of_form at y in
            row_same sheet bytes h.accepted rows rs steps nesting cells_allowed before before' room room' (not_refused_by _ _ (sym e ∙ u.answer))
            (not_refused_by _ _ (sym e ∙ request_13_batches ∙ v.answer)) written written' u.records v.records i g

    -- and in one call, into outputs of one length: 8 is kept too, since the two translations have one length
    pub request_13_joined : (one two : List ℕ) → length one ≡ length two → (rs : List ℤ) (steps nesting cells_allowed : ℕ) (before before' : List ℕ)
        → length before ≡ length before' → (r r' : Answer) (one' two' after after' : List ℕ)
        → Joins sheet one rs steps nesting cells_allowed before r one' after → Joins (take n out') two rs steps nesting cells_allowed before' r' two' after'
        → SameAnswers (answer_of r) (answer_of r')
    request_13_joined one two as_long rs steps nesting cells_allowed before before' lent r r' one' two' after after' x y =
        rw (x.answer, y.answer, h.is, as_long, lent) (joined_same sheet bytes h.accepted (length two) rs steps nesting cells_allowed (length before'))

-- "Two accepted sheets come out as equal bytes exactly if their heads, constructors and functions are equal and their bodies are equal trees."
pub request_13_exactly : (a b out₁ out₂ : List ℕ) (n m : ℕ) (out₁' out₂' : List ℕ) → WritesCanonical a out₁ (Length n) out₁' → WritesCanonical b out₂ (Length m) out₂'
    → Bytes a → Bytes b → (take n out₁' ≡ take m out₂') ↔ SameSheets a b
request_13_exactly a b out₁ out₂ n m out₁' out₂' x y = forms_exactly (handed_canonical a out₁ n out₁' x) (handed_canonical b out₂ m out₂' y)

-- these trees are those of request 4, in which a parameter counts with its function and a pattern variable with its scrutinee's tree: in whole bodies,
-- of sheets with equal heads, constructors and functions, that is no more
pub request_13_trees : (a b : List ℕ) → sheet_verdict a ≡ Accepted → sheet_verdict b ≡ Accepted → sections a ≡ sections b → Bytes a → Bytes b
    → (bodies a ≡ bodies b) ↔ ((f : ℕ) → f < functions a → EqualTrees a b (body_of Sheet a f) (body_of Sheet b f))
request_13_trees = bodies_exactly

-- the same for a caller in C: number 0 in the code, and the value says how many bytes were handed over
pub request_13_met_in_C : (sheet out : List ℕ) (code : ℕ) (out' : List ℕ) → WritesCanonicalC sheet out code out' → CanonicalMetInC sheet out code out'
request_13_met_in_C = canonical_met_in_C

module _ (sheet out : List ℕ) (code : ℕ) (out' : List ℕ) (writes : WritesCanonicalC sheet out code out') (written : code_number code ≡ 0) where
  k : HandedCanonical sheet (code_value code) out'
  k = handed_canonical_in_C sheet out code out' writes written

  abbrev form : List ℕ
  form = take (code_value code) out'

  pub request_13_bytes_in_C : (code_value code ≡ length sheet) × (form ≡ canonical sheet)
  request_13_bytes_in_C = (value_length sheet out code out' writes written, k.is)

  module _ (bytes : Bytes sheet) where
    pub request_13_accepted_in_C : sheet_verdict form ≡ Accepted
    request_13_accepted_in_C = form_accepted k bytes

    pub request_13_twice_in_C : (again : List ℕ) (code' : ℕ) (again' : List ℕ) → WritesCanonicalC form again code' again' → code_number code' ≡ 0
        → take (code_value code') again' ≡ form
    request_13_twice_in_C again code' again' w e = form_again k bytes (handed_canonical_in_C form again code' again' w e)

    -- the records of the owner's runs: all bytes but those of node and context
    module _ (one two : List ℕ) (c d : ℕ) (one' two' : List ℕ) (first : TranslatesC sheet one c one') (wrote : code_number c ≡ 0)
        (second : TranslatesC form two d two') (wrote' : code_number d ≡ 0)
        (rs : List ℤ) (steps nesting cells_allowed : ℕ) (before before' : List ℕ) (lent : length before ≡ length before') where
      of_sheet_in_C : take (code_value c) one' ≡ translation sheet
      of_sheet_in_C = (handed_in_C sheet one c one' first wrote).is

      of_form_in_C : take (code_value d) two' ≡ translation (canonical sheet)
      of_form_in_C = rw k.is at (handed_in_C form two d two' second wrote').is

      pub request_13_runs_in_C : (room room' : List ℕ) (r r' : ℕ) (after after' recorded recorded' : List ℕ)
          → RunsC (take (code_value c) one') rs steps nesting cells_allowed before room r after recorded → r ≡ 0
          → RunsC (take (code_value d) two') rs steps nesting cells_allowed before' room' r' after' recorded' → r' ≡ 0
          → SameRecords recorded recorded'
      request_13_runs_in_C room room' r r' after after' recorded recorded' x e y e' =
          let u = x.written ∙ record_where_fits room (fits room r x.answer e) _ in
          let v = y.written ∙ record_where_fits room' (fits room' r' y.answer e') _ in
          rw (u, v)
          (same_records _ _ (drop answer_size room) (drop answer_size room')
          (rw (of_sheet_in_C, of_form_in_C, lent) (answers_kept sheet bytes k.accepted rs steps nesting cells_allowed (length before'))))

      module _ (rows : ℕ) (room room' : List ℕ) (as_long : length room ≡ length room') (r r' : ℕ) (after after' records records' : List ℕ)
          (x : RunsRowsC (take (code_value c) one') rows rs steps nesting cells_allowed before room r after records)
          (y : RunsRowsC (take (code_value d) two') rows rs steps nesting cells_allowed before' room' r' after' records') where
        pub request_13_batches_in_C : r ≡ r'
        request_13_batches_in_C =
            x.answer
            ∙ rw (of_sheet_in_C, of_form_in_C, lent, as_long, rows_same sheet bytes k.accepted rows rs nesting cells_allowed (length before') (length room')) refl
            ∙ sym y.answer

        pub request_13_rows_in_C : code_number r ≡ 0 → (i : ℕ) → i < rows → SameRecords (drop (i * answer_size) records) (drop (i * answer_size) records')
        request_13_rows_in_C e i g =
            let u = rw of_sheet_in_C at x in
            let v = rw of_form_in_C at y in
            let e' : code_number r' ≡ 0 = rw request_13_batches_in_C at e in
            row_same sheet bytes k.accepted rows rs steps nesting cells_allowed before before' room room'
            (not_refused_in_C _ _ (batch_numbered _ rows rs nesting cells_allowed (length before) (length room)) u.answer e)
            (not_refused_in_C _ _ (batch_numbered _ rows rs nesting cells_allowed (length before') (length room')) v.answer e')
            records records' u.records v.records i g

    pub request_13_joined_in_C : (one two : List ℕ) → length one ≡ length two → (rs : List ℤ) (steps nesting cells_allowed : ℕ) (before before' : List ℕ)
        → length before ≡ length before' → (room room' : List ℕ) (r r' : ℕ) (one' two' after after' recorded recorded' : List ℕ)
        → JoinsC sheet one rs steps nesting cells_allowed before room r one' after recorded → r ≡ 0
        → JoinsC form two rs steps nesting cells_allowed before' room' r' two' after' recorded' → r' ≡ 0 → SameRecords recorded recorded'
    request_13_joined_in_C one two as_long rs steps nesting cells_allowed before before' lent room room' r r' one' two' after after' recorded recorded' x e y e' =
        let u = x.written ∙ record_where_fits room (fits room r x.answer e) _ in
        let v = y.written ∙ record_where_fits room' (fits room' r' y.answer e') _ in
        rw (u, v)
        (same_records _ _ (drop answer_size room) (drop answer_size room')
        (rw (k.is, as_long, lent) (joined_same sheet bytes k.accepted (length two) rs steps nesting cells_allowed (length before'))))

pub request_13_exactly_in_C : (a b out₁ out₂ : List ℕ) (c d : ℕ) (out₁' out₂' : List ℕ) → WritesCanonicalC a out₁ c out₁' → code_number c ≡ 0
    → WritesCanonicalC b out₂ d out₂' → code_number d ≡ 0 → Bytes a → Bytes b → (take (code_value c) out₁' ≡ take (code_value d) out₂') ↔ SameSheets a b
request_13_exactly_in_C a b out₁ out₂ c d out₁' out₂' x e y f =
    forms_exactly (handed_canonical_in_C a out₁ c out₁' x e) (handed_canonical_in_C b out₂ d out₂' y f)
