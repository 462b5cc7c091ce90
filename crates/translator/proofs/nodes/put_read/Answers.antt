-- `translator::nodes::put_read` meets its contract: kind by kind the words are those of the definition.
use native.Mathlib.Omega.{arith}
use borrow.Author.Rules.{rules}
use Rattle.translator.proofs.NodeSteps.{number_words, parameter_words, pattern_words, call_words, copy_words, fields_few}
use Rattle.translation_words.proofs.Writing.{wrote_as}
use Rattle.translator.proofs.nodes.put_read.Goals as goal

pub returns-in-16 : goal.returns-in-16
returns-in-16 c =
    let pre = c.requires in
    let kind = c.kind.ensures in
    let value = c.field-value.ensures in
    let words = number_words pre kind value c.in-16.is c.field.ensures c.from.ensures c.from-in-16.ensures in
    wrote_as (words (omega arith) (omega arith)) c.put_two.ensures

pub returns-in-18 : goal.returns-in-18
returns-in-18 c =
    let pre = c.requires in
    let kind = c.kind.ensures in
    let value = c.field-value.ensures in
    wrote_as (parameter_words pre kind value c.in-18.is c.formal.ensures) c.put_one.ensures

pub returns-in-19 : goal.returns-in-19
returns-in-19 c =
    let pre = c.requires in
    let kind = c.kind.ensures in
    let value = c.field-value.ensures in
    let words = pattern_words pre kind value c.in-19.is c.scrutinee-tested.ensures c.from-in-19.ensures c.from-in-19-2.ensures in
    wrote_as words c.put_two-in-19.ensures

pub returns-in-22 : goal.returns-in-22
returns-in-22 c =
    let pre = c.requires in
    let kind = c.kind.ensures in
    let value = c.field-value.ensures in
    wrote_as (call_words pre kind value c.in-22.is c.from-in-22.ensures c.from-in-22-2.ensures) c.put_two-in-22.ensures

pub put_copy-requires : goal.put_copy-requires
put_copy-requires c = fields_few c.requires c.kind.ensures c.field-value.ensures

pub returns-in_default : goal.returns-in_default
returns-in_default c =
    let pre = c.requires in
    let kind = c.kind.ensures in
    let value = c.field-value.ensures in
    wrote_as (copy_words pre kind value (search rules) (search rules) (search rules) (search rules)) c.put_copy.ensures
