-- `format::translation::references_at` meets its contract: the record that the index reaches is the record of that number.
use Rattle.file_records.proofs.Indices.{opened_record, opened_translation_kind}
use Rattle.laws.proofs.Names.{children_out, names_out, all_in}
use mathlib.Core.Path.{◌∙◌}
use Rattle.format.proofs.translation.references_at.Goals as goal

pub returns-then-not-children_below : goal.returns-then-not-children_below
returns-then-not-children_below c =
    let pre = c.requires in
    let indexed = c.indexed-rec in
    let limit = c.from.ensures ∙ c.nodes.ensures in
    children_out _ _ (opened_record _ _ _ _ _ pre.0 pre.1 indexed.ensures) limit c.children_below.ensures
    c.if-not-children_below.true

pub names_in_range-requires : goal.names_in_range-requires
names_in_range-requires c =
    let pre = c.requires in
    let indexed = c.indexed-rec in
    opened_translation_kind pre.0 pre.1 indexed.ensures

pub returns-then-not-names_in_range : goal.returns-then-not-names_in_range
returns-then-not-names_in_range c =
    let pre = c.requires in
    let indexed = c.indexed-rec in
    let limit = c.from.ensures ∙ c.nodes.ensures in
    let children_below = c.children_below in
    let if1 = c.if-not-children_below in
    names_out _ _ (opened_record _ _ _ _ _ pre.0 pre.1 indexed.ensures) limit children_below.ensures
    if1.false c.names_in_range.ensures c.if-not-names_in_range.true

pub returns : goal.returns
returns c =
    let pre = c.requires in
    let indexed = c.indexed-rec in
    let limit = c.from.ensures ∙ c.nodes.ensures in
    let children_below = c.children_below in
    let if1 = c.if-not-children_below in
    all_in _ _ (opened_record _ _ _ _ _ pre.0 pre.1 indexed.ensures) limit children_below.ensures
    if1.false c.names_in_range.ensures c.if-not-names_in_range.false
