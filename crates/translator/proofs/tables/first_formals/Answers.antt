-- `translator::tables::first_formals` meets its contract: the sums of the functions' parameters.
use mathlib.Core.Path.{◌≡◌, ◌∙◌}
use Prim.Native.Nat.{◌+◌}
use native.Mathlib.Omega.{arith}
use borrow.Author.Rules.{rules}
use Rattle.definitions.specs.Records.{record_at, field}
use Rattle.definitions.specs.Layouts.{first_function}
use Rattle.definitions.specs.References.{parameters}
use Rattle.definitions.specs.declared.Layout.TheVariants.{Sheet}
use Rattle.accepted.proofs.Head.{functions_limit}
use Rattle.file_records.specs.Index.{start_in}
use Rattle.sheet_rules.proofs.SheetTables.{opened_parameters}
use Rattle.translator.proofs.SheetTables.{formals_few}
use Rattle.translator.proofs.tables.first_formals.Goals as goal

pub sums-requires : goal.sums-requires
sums-requires c =
    let pre = c.requires in
    let count = c.from.ensures ∙ c.functions.ensures in
    let few = formals_few _ pre.accepted in
    record {
      few = omega (arith, count, functions_limit Sheet _ pre.accepted);
      callable = λ f h. search rules;
      at = parameters c.args.b.now;
      given = λ f x h p.
          let read : x ≡ field (record_at c.args.b.now (start_in c.args.starts.now (first_function Sheet c.args.b.now + f))) 0 = search rules in
          opened_parameters _ _ f x pre (omega (arith, h, count)) read;
      small = rw count (omega (arith, few));
    }

pub returns : goal.returns
returns c =
    let count = c.from.ensures ∙ c.functions.ensures in
    rw count at (c.sums.ensures (parameters c.args.b.now) (λ f x h p.
    let read : x ≡ field (record_at c.args.b.now (start_in c.args.starts.now (first_function Sheet c.args.b.now + f))) 0 = search rules in
    opened_parameters _ _ f x c.requires (omega (arith, h, count)) read))
