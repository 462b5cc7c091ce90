-- How a batch is met: every row ends with an answer or a stop, or the batch is refused with a number and leaves both buffers.
use mathlib.Core.Path.{◌≡◌, refl, ◌∙◌}
use Prim.Native.Nat.{ℕ, ◌*◌, ◌<◌}
use mathlib.Core.List.{List, []}
use mathlib.Core.Bool.{true}
use native.Mathlib.Omega.{arith}
use native.Mathlib.Nat.{zero-mul}
use lib.IntN.{ℤ}
use lib.ListN.{length, drop}
use borrow.Author.Tests.{le-leb}
use Rattle.definitions.specs.Sizes.{answer_size}
use Rattle.definitions.specs.Lists.{joined}
use Rattle.definitions.specs.Layouts.{readings}
use Rattle.definitions.specs.Verdicts.{◌and_then◌, require}
use Rattle.definitions.specs.Checks.{translation_verdict}
use Rattle.definitions.specs.Output.{written_of, output_of}
use Rattle.definitions.specs.Run.{allowances_fit, answer_at, reached_answer, rule_answer, answer_after, bytes_after}
use Rattle.definitions.specs.RunsInTurn.{row_of, cells_in_turn, records_in_turn}
use Rattle.definitions.specs.Verdict.{Verdict}
use Rattle.definitions.specs.Verdict as verdicts
use Rattle.definitions.specs.Verdict.{Accepted}
use Rattle.definitions.specs.Written.{Written, Length}
use Rattle.agreement.proofs.KnownEnds.{rule_known}
use Rattle.batch.specs.Promise.{rows_checks, rows_verdict, rows_cells, rows_records, RunsRows}
use Rattle.zifnora_c.specs.Codes.{code_of}
use Rattle.zifnora_c.specs.Promise.{RunsRowsC}
use Rattle.demands.specs.Demands.{Met}
use Rattle.demands.specs.Rows.{AllEnded, RowsMet, RowsMetInC}
use Rattle.demands.proofs.Refusals.{NumberedIn, batch_numbered}
use Rattle.demands.proofs.Meeting.{writing_met, after_met}
use Rattle.demands.proofs.HandingInC.{writing_met_in_C}
use Rattle.demands.proofs.RunningInC.{outcome_is}
use Rattle.demands.proofs.RunningRows.{checks, in_place}

accepted_refused : {n p : ℕ} → ◌≡◌ {A = Verdict} Accepted (verdicts.Refused n p) → ⊥
accepted_refused e = let z : ◌≡◌ {A = ℕ} 0 1 = cc in omega arith

-- the rule's answer is an answer or a stop, and no refusal
pub rule_met : (b : List ℕ) (rs : List ℤ) (steps nesting cells_allowed : ℕ) → Met (answer_after Accepted (rule_answer b rs steps nesting cells_allowed)) ⊥
rule_met b rs steps nesting cells_allowed = after_met b rs steps nesting cells_allowed ⊥ Accepted tt (λ n p e. accepted_refused e)

module _ (b : List ℕ) (rows : ℕ) (rs : List ℤ) (steps nesting cells_allowed : ℕ) (before room after room' : List ℕ)
    (cells : after ≡ rows_cells b rows rs steps nesting cells_allowed before (length room)) (records : room' ≡ rows_records b rows rs steps nesting cells_allowed before room) where
  abbrev verdict : Verdict
  verdict = rows_verdict b rows rs nesting cells_allowed (length before) (length room)

  all_ended : verdict ≡ Accepted → AllEnded rows room'
  unfolding answer_after rule_answer reached_answer answer_at
  all_ended accepted =
      record {
        ends = λ i h.
            let s = in_place b rows rs steps nesting cells_allowed before room accepted i h room' records in
            rw (outcome_is _ ⊥ (rule_met b (row_of b rs i) steps nesting cells_allowed) (drop (i * answer_size) room') s.rest s.is)
            (rule_known b (row_of b rs i) cells_allowed steps nesting);
      }

  untouched : (n p : ℕ) → verdict ≡ verdicts.Refused n p → (after ≡ before) × (room' ≡ room)
  unfolding rows_cells rows_records bytes_after output_of
  untouched n p e = (cells ∙ rw e refl, records ∙ rw e refl)

  length_small : verdict ≡ Accepted → rows * answer_size < 4294967296
  length_small e = omega (arith, (checks b rows rs steps nesting cells_allowed before room e).rows_within)

  numbered : NumberedIn verdict
  numbered = batch_numbered b rows rs nesting cells_allowed (length before) (length room)

  met : (r : Written) → r ≡ written_of verdict (rows * answer_size) → RowsMet rows r room' ((after ≡ before) × (room' ≡ room))
  met r a = writing_met verdict numbered a all_ended untouched

  met_in_C : (c : ℕ) → c ≡ code_of verdict (rows * answer_size) → RowsMetInC rows c room' ((after ≡ before) × (room' ≡ room))
  met_in_C c a = writing_met_in_C verdict numbered a length_small all_ended untouched

pub batch_met : (b : List ℕ) (rows : ℕ) (rs : List ℤ) (steps nesting cells_allowed : ℕ) (before room : List ℕ) (r : Written) (after room' : List ℕ)
    → RunsRows b rows rs steps nesting cells_allowed before room r after room' → RowsMet rows r room' ((after ≡ before) × (room' ≡ room))
batch_met b rows rs steps nesting cells_allowed before room r after room' t = met b rows rs steps nesting cells_allowed before room after room' t.cells t.records r t.answer

pub batch_met_in_C : (b : List ℕ) (rows : ℕ) (rs : List ℤ) (steps nesting cells_allowed : ℕ) (before room : List ℕ) (code : ℕ) (after room' : List ℕ)
    → RunsRowsC b rows rs steps nesting cells_allowed before room code after room' → RowsMetInC rows code room' ((after ≡ before) × (room' ≡ room))
batch_met_in_C b rows rs steps nesting cells_allowed before room code after room' t =
    met_in_C b rows rs steps nesting cells_allowed before room after room' t.cells t.records code t.answer

-- no rows
module _ (b : List ℕ) (steps nesting cells_allowed : ℕ) (before room : List ℕ) (accepted : translation_verdict b ≡ Accepted)
    (fit : allowances_fit nesting cells_allowed (length before) ≡ true) where
  none_refused : rows_verdict b 0 [] nesting cells_allowed (length before) (length room) ≡ Accepted
  unfolding rows_verdict rows_checks ◌and_then◌ require
  none_refused = rw (accepted, zero-mul (readings b), fit, le-leb 0 (length room) (omega arith)) refl

  pub no_rows : {r : Written} {after room' : List ℕ} → RunsRows b 0 [] steps nesting cells_allowed before room r after room'
      → (r ≡ Length 0) × (after ≡ before) × (room' ≡ room)
  unfolding written_of rows_cells rows_records bytes_after output_of cells_in_turn records_in_turn joined
  no_rows t = (t.answer ∙ rw none_refused refl, t.cells ∙ rw none_refused refl, t.records ∙ rw none_refused refl)
