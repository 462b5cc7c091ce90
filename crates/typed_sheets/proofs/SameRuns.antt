-- Sheets that are equal up to types have the same runs of nodes, bodies, owners and scrutinees.
use mathlib.Core.Path.{◌≡◌, ap, ap₂, ◌∙◌, fun_ext}
use Prim.Native.Nat.{ℕ, suc, pred}
use mathlib.Core.List.{List}
use lib.Dec.{leb}
use Rattle.definitions.specs.Records.{field}
use Rattle.definitions.specs.Lists.{sum_of, count_of}
use Rattle.definitions.specs.Layouts.{node_record, run_end, body_of, owner_of}
use Rattle.definitions.specs.SheetNodes.{scrutinee_of}
use Rattle.definitions.specs.declared.Layout.TheVariants.{Sheet}
use Rattle.typed_sheets.specs.UpToTypes.{EqualUpToTypes}

module _ {a b : List ℕ} (e : EqualUpToTypes a b) where
  same_end : (f : ℕ) → run_end Sheet a f ≡ run_end Sheet b f
  unfolding run_end
  same_end f = ap (sum_of (suc f)) (fun_ext e.counts)

  pub same_owner : (k : ℕ) → owner_of Sheet a k ≡ owner_of Sheet b k
  unfolding owner_of
  same_owner k = ap₂ count_of e.functions (fun_ext (λ f. ap (λ n. leb n k) (same_end f)))

  -- the body of node k's function
  pub same_body : (k : ℕ) → body_of Sheet a (owner_of Sheet a k) ≡ body_of Sheet b (owner_of Sheet b k)
  unfolding body_of
  same_body k = ap pred (same_end (owner_of Sheet a k) ∙ ap (run_end Sheet b) (same_owner k))

  pub same_scrutinee : (k : ℕ) → scrutinee_of a k ≡ scrutinee_of b k
  unfolding scrutinee_of
  same_scrutinee k =
      ap (λ (rec : List ℕ). field rec 0) (e.records (body_of Sheet a (owner_of Sheet a k)) ∙ ap (node_record b) (same_body k))
