-- The owner's runs of a sheet and of its canonical form: by single runs, on rows, and in one call with the translation.
use mathlib.Core.Path.{◌≡◌, refl, sym, ◌∙◌}
use Prim.Native.Nat.{ℕ, ◌*◌, ◌<◌}
use mathlib.Core.List.{List}
use lib.IntN.{ℤ}
use lib.ListN.{length, drop}
use Rattle.definitions.specs.Sizes.{answer_size}
use Rattle.definitions.specs.Layouts.{readings}
use Rattle.definitions.specs.Checks.{sheet_verdict, translation_verdict}
use Rattle.definitions.specs.Trees.{equal_trees}
use Rattle.definitions.specs.Translate.{translation}
use Rattle.definitions.specs.Run.{rule_answer, answer_after}
use Rattle.definitions.specs.RunsInTurn.{row_of}
use Rattle.definitions.specs.CanonicalSheet.{canonical}
use Rattle.definitions.specs.Verdict.{Accepted}
use Rattle.laws.proofs.ByteFiles.{Bytes}
use Rattle.readback.proofs.Records.{translation_readings}
use Rattle.readback.proofs.Accepted.{translation_accepted_law}
use Rattle.shared_runs.specs.SameRuns.{SameAnswers}
use Rattle.shared_runs.proofs.Shared.{answers_by}
use Rattle.canonical_sheets.proofs.ReadBack.{readings_read}
use Rattle.canonical_sheets.proofs.Accepted.{canonical_accepted, runs_kept}
use Rattle.canonical_sheets.proofs.SameLengths.{lengths_kept}
use Rattle.batch.specs.Promise.{rows_checks, rows_verdict, rows_records}
use Rattle.join.specs.Promise.{join_verdict, join_answer}
use Rattle.demands.specs.InC.{SameRecords}
use Rattle.demands.proofs.Recorded.{same_records}
use Rattle.demands.proofs.RunningRows.{in_place}

translated_accepted : (b : List ℕ) → sheet_verdict b ≡ Accepted → translation_verdict (translation b) ≡ Accepted
unfolding translation
translated_accepted b e = translation_accepted_law (equal_trees b) b e

module _ (sheet : List ℕ) (bytes : Bytes sheet) (accepted : sheet_verdict sheet ≡ Accepted) where
  abbrev form : List ℕ
  form = canonical sheet

  also : sheet_verdict form ≡ Accepted
  also = canonical_accepted sheet bytes accepted

  -- the joined call: into outputs of one length, so that 8 is kept too
  verdicts_same : (room : ℕ) (rs : List ℤ) (nesting cells_allowed lent : ℕ)
      → join_verdict sheet room rs nesting cells_allowed lent ≡ join_verdict form room rs nesting cells_allowed lent
  unfolding join_verdict
  verdicts_same room rs nesting cells_allowed lent = rw (accepted, also, lengths_kept sheet bytes accepted, readings_read sheet accepted) refl

  pub joined_same : (room : ℕ) (rs : List ℤ) (steps nesting cells_allowed lent : ℕ)
      → SameAnswers (join_answer sheet room rs steps nesting cells_allowed lent) (join_answer form room rs steps nesting cells_allowed lent)
  unfolding join_answer rule_answer
  joined_same room rs steps nesting cells_allowed lent =
      rw (← verdicts_same room rs nesting cells_allowed lent)
      (answers_by steps (join_verdict sheet room rs nesting cells_allowed lent) (runs_kept sheet bytes accepted rs steps nesting cells_allowed))

  -- rows
  readings_same : readings (translation form) ≡ readings (translation sheet)
  unfolding translation
  readings_same =
      translation_readings (equal_trees form) form also ∙ readings_read sheet accepted ∙ sym (translation_readings (equal_trees sheet) sheet accepted)

  pub rows_same : (rows : ℕ) (rs : List ℤ) (nesting cells_allowed lent room : ℕ)
      → rows_verdict (translation sheet) rows rs nesting cells_allowed lent room ≡ rows_verdict (translation form) rows rs nesting cells_allowed lent room
  unfolding rows_verdict rows_checks
  rows_same rows rs nesting cells_allowed lent room = rw (translated_accepted sheet accepted, translated_accepted form also, readings_same) refl

  rows_of : (rs : List ℤ) (i : ℕ) → row_of (translation form) rs i ≡ row_of (translation sheet) rs i
  unfolding row_of
  rows_of rs i = rw readings_same refl

  rule_same : (rs : List ℤ) (steps nesting cells_allowed : ℕ)
      → SameAnswers (rule_answer (translation sheet) rs steps nesting cells_allowed) (rule_answer (translation form) rs steps nesting cells_allowed)
  unfolding rule_answer answer_after
  rule_same rs steps nesting cells_allowed = answers_by steps Accepted (runs_kept sheet bytes accepted rs steps nesting cells_allowed)

  -- the records of row i, where the batches were not refused
  module _ (rows : ℕ) (rs : List ℤ) (steps nesting cells_allowed : ℕ) (before before' room room' : List ℕ)
      (one : rows_verdict (translation sheet) rows rs nesting cells_allowed (length before) (length room) ≡ Accepted)
      (two : rows_verdict (translation form) rows rs nesting cells_allowed (length before') (length room') ≡ Accepted)
      (written written' : List ℕ) (first : written ≡ rows_records (translation sheet) rows rs steps nesting cells_allowed before room)
      (second : written' ≡ rows_records (translation form) rows rs steps nesting cells_allowed before' room') (i : ℕ) (h : i < rows) where
    pub row_same : SameRecords (drop (i * answer_size) written) (drop (i * answer_size) written')
    row_same =
        let x = in_place (translation sheet) rows rs steps nesting cells_allowed before room one i h written first in
        let y = in_place (translation form) rows rs steps nesting cells_allowed before' room' two i h written' second in
        rw (x.is, y.is, rows_of rs i) (same_records _ _ x.rest y.rest (rule_same (row_of (translation sheet) rs i) steps nesting cells_allowed))
