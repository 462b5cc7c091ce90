-- Removing types changes no byte of an accepted sheet that has none.
use mathlib.Core.Path.{◌≡◌, refl, sym, ap, ◌∙◌}
use Prim.Native.Nat.{ℕ, zero, suc, ◌≤◌, ◌<◌}
use mathlib.Core.List.{List}
use mathlib.Core.Bool.{true, false}
use native.Mathlib.Omega.{arith}
use lib.ListN.{take}
use lib.Seq.{take-add, take-length}
use Rattle.definitions.specs.Bytes.{word}
use Rattle.definitions.specs.Records.{start_of, record_of, kind_of}
use Rattle.definitions.specs.Lists.{joined}
use Rattle.definitions.specs.Layouts.{is_typed, due}
use Rattle.definitions.specs.Shape.{file_shape}
use Rattle.definitions.specs.Checks.{sheet_verdict}
use Rattle.definitions.specs.TypesRemoved.{untyped_record, types_removed}
use Rattle.definitions.specs.declared.Layout.TheVariants.{Sheet}
use Rattle.definitions.specs.Verdict.{Accepted}
use Rattle.laws.proofs.Joined.{joined_same}
use Rattle.laws.proofs.Records
use Rattle.accepted.proofs.Records.{records_fill, record_whole, kind_due}
use Rattle.accepted.proofs.Checks.{sheet_shape}
use Rattle.typed_sheets.proofs.UntypedKinds.{kept}
use Rattle.typed_sheets.proofs.ReadBefore.{due_untyped, same_due}

module _ (b : List ℕ) (shape : file_shape Sheet b ≡ Accepted) where
  -- the records of a sheet, joined, are the sheet
  records_joined : (r : ℕ) → r ≤ due b → joined r (record_of b) ≡ take (start_of b r) b
  unfolding joined record_of start_of
  records_joined zero h = refl
  records_joined (suc r) h =
      let at = start_of b r in
      let w = record_whole Sheet b shape r h in
      rw (records_joined r (omega arith), ← Records.record_whole b at w, ← Records.next_whole b at (word b at) true (sym w) refl refl)
      (sym (take-add at (word b at) b))

  all_joined : joined (due b) (record_of b) ≡ b
  all_joined = records_joined (due b) (omega arith) ∙ ap (λ n. take n b) (records_fill Sheet b shape) ∙ take-length b

  record_kept : is_typed b ≡ false → (r : ℕ) → r < due b → untyped_record (record_of b r) ≡ record_of b r
  record_kept free r h =
      let rec = record_of b r in
      kept rec (due_untyped b r (kind_of rec) (sym (same_due b free r (kind_of rec)) ∙ kind_due Sheet b shape r h))

pub untyped_unchanged : (b : List ℕ) → sheet_verdict b ≡ Accepted → is_typed b ≡ false → types_removed b ≡ b
unfolding types_removed
untyped_unchanged b accepted free =
    let s = sheet_shape b accepted in
    joined_same (λ r. untyped_record (record_of b r)) (record_of b) (due b) (record_kept b s free) ∙ all_joined b s
