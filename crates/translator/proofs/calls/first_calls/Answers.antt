-- `translator::calls::first_calls` meets its contract: the sums of the functions' labels.
use mathlib.Core.Path.{◌≡◌, ◌∙◌}
use native.Mathlib.Omega.{arith}
use borrow.Author.Rules.{rules}
use lib.ListN.{get_or}
use Rattle.definitions.specs.declared.Layout.TheVariants.{Sheet}
use Rattle.accepted.proofs.Head.{functions_limit}
use Rattle.call_labels.specs.Tables.{label_count}
use Rattle.translator.proofs.CallOrder.{labels_few}
use Rattle.translator.proofs.calls.first_calls.Goals as goal

pub sums-requires : goal.sums-requires
sums-requires c =
    let pre = c.requires in
    let count = c.from.ensures ∙ c.functions.ensures in
    let few = labels_few _ pre.0 in
    let functions = functions_limit Sheet _ pre.0 in
    record {
      few = omega (arith, count, functions);
      callable = λ f h. search (rules, count, functions);
      at = label_count c.args.b.now;
      given = λ f x h p.
          let read : x ≡ get_or c.args.counts.now f 0 = search rules in
          read ∙ pre.1.entry f (omega (arith, h, count));
      small = rw count (omega (arith, few));
    }

pub returns : goal.returns
returns c =
    let count = c.from.ensures ∙ c.functions.ensures in
    rw count at (c.sums.ensures (label_count c.args.b.now) (λ f x h p.
    let read : x ≡ get_or c.args.counts.now f 0 = search rules in
    read ∙ c.requires.1.entry f (omega (arith, h, count))))
