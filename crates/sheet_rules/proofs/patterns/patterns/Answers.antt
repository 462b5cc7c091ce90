-- `sheet_rules::patterns::patterns` meets its contract. The loop's invariant: the rules of the nodes passed are accepted.
use borrow.Author.Rules.{rules}
use Rattle.sheet_rules.proofs.PatternSteps.{pattern_refused, pattern_accepted}
use Rattle.sheet_rules.proofs.Ruling.{ruling_begins, ruling_more, ruling_refused}
use mathlib.Core.Path.{◌∙◌, refl}
use Rattle.sheet_rules.proofs.patterns.patterns.Goals as goal

pub loop-k-init : goal.loop-k-init
loop-k-init c =
    let pre = c.requires in
    (ruling_begins pre.0 c.first_node-first.ensures (c.from-count.ensures ∙ c.nodes.ensures), pre.2, pre.1)

pub returns-then-not-pattern_right : goal.returns-then-not-pattern_right
returns-then-not-pattern_right c = search (rules, ruling_refused, pattern_refused)

pub loop-k-preserved : goal.loop-k-preserved
loop-k-preserved c =
    let loop = c.loop-k in
    let loop_test = c.loop-k-test in (
      ruling_more loop.invariant.0 loop_test.true
          (pattern_accepted _ _ _ c.pattern_right.ensures c.if-not-pattern_right.false) refl,
      loop.invariant.1,
      loop.invariant.2,
    )
