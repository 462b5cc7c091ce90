-- By the outcome's number, the bytes that are written are the line.
use Rattle.std.proofs.Common.{rules, sym, ◌∙◌}
use Rattle.report.specs.Lines.{number_word, constructor_word, end_word}
use Rattle.report.proofs.Lines.{puts_number, puts_constructor, puts_refusal, puts_end}
use Rattle.report.proofs.line_writer.LineWriter.answer.Goals as goal

pub returns-then-s-eq-NUMBER : goal.returns-then-s-eq-NUMBER
unfolding number_word
returns-then-s-eq-NUMBER c = puts_number c.show-s.ensures (search rules) c.if-s-eq-NUMBER.true c.counted.ensures

pub returns-then-s-eq-CONSTRUCTOR : goal.returns-then-s-eq-CONSTRUCTOR
unfolding constructor_word
returns-then-s-eq-CONSTRUCTOR c =
    puts_constructor c.show-s.ensures (search rules) c.if-s-eq-CONSTRUCTOR.true c.counted-then-s-eq-CONSTRUCTOR.ensures

pub returns-then-is_refusal : goal.returns-then-is_refusal
returns-then-is_refusal c =
    puts_refusal c.show-s.ensures (search rules) c.if-s-eq-NUMBER.false c.if-s-eq-CONSTRUCTOR.false
    (sym c.is_refusal.ensures ∙ c.if-is_refusal.true) c.refusal.ensures

pub returns-else-is_refusal : goal.returns-else-is_refusal
unfolding end_word
returns-else-is_refusal c =
    puts_end c.show-s.ensures (search rules) c.if-s-eq-NUMBER.false c.if-s-eq-CONSTRUCTOR.false
    (sym c.is_refusal.ensures ∙ c.if-is_refusal.false)
    (rw (c.from-else-is_refusal.ensures, c.from.ensures) at c.counted-else-is_refusal.ensures)
