-- `sheet_rules::names::names_at` meets its contract: 5 and then 7, of the record that the index reaches.
use borrow.Author.Rules.{rules}
use Rattle.file_records.proofs.Indices.{opened_record}
use Rattle.laws.proofs.Arguments.{out_of_range_law, mismatched, matched}
use Rattle.laws.proofs.Names.{children_out, names_out, all_in}
use mathlib.Core.Path.{◌∙◌}
use Rattle.sheet_rules.proofs.names.names_at.Goals as goal

pub returns-then-not-children_below : goal.returns-then-not-children_below
returns-then-not-children_below c =
    let pre = c.requires in
    let own = opened_record _ _ _ _ _ pre.file pre.below c.indexed-rec.ensures in
    out_of_range_law _ _ (children_out _ _ own (c.from.ensures ∙ c.nodes.ensures) c.children_below.ensures c.if-not-children_below.true)

pub names_in_range-requires : goal.names_in_range-requires
names_in_range-requires c = search (rules, opened_record)

pub returns-then-not-names_in_range : goal.returns-then-not-names_in_range
returns-then-not-names_in_range c =
    let pre = c.requires in
    let own = opened_record _ _ _ _ _ pre.file pre.below c.indexed-rec.ensures in
    out_of_range_law _ _
    (names_out _ _ own (c.from.ensures ∙ c.nodes.ensures) c.children_below.ensures c.if-not-children_below.false c.names_in_range.ensures c.if-not-names_in_range.true)

pub returns-then-not-arguments_match : goal.returns-then-not-arguments_match
returns-then-not-arguments_match c =
    let pre = c.requires in
    let own = opened_record _ _ _ _ _ pre.file pre.below c.indexed-rec.ensures in
    mismatched _ _ _ own
    (all_in _ _ own (c.from.ensures ∙ c.nodes.ensures) c.children_below.ensures c.if-not-children_below.false c.names_in_range.ensures c.if-not-names_in_range.false)
    _ c.arguments_match.ensures c.if-not-arguments_match.true

pub returns : goal.returns
returns c =
    let pre = c.requires in
    let own = opened_record _ _ _ _ _ pre.file pre.below c.indexed-rec.ensures in
    matched _ _ _ own
    (all_in _ _ own (c.from.ensures ∙ c.nodes.ensures) c.children_below.ensures c.if-not-children_below.false c.names_in_range.ensures c.if-not-names_in_range.false)
    _ c.arguments_match.ensures c.if-not-arguments_match.false
