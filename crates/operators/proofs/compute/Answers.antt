-- `operators::compute` meets its contract: each code's operator has its own.
use Rattle.operators.proofs.Answers.{number_answer, read_both, code_add, code_subtract, code_multiply, code_divide, code_less, code_equal, code_none}
use Rattle.operators.specs.Results.{computed_of}
use Rattle.definitions.specs.Operators.{reduced, product, quotient, truth, equal}
use lib.Signed.{lt_z}
use Rattle.std.proofs.Common.{◌+ℤ◌, ◌-ℤ◌, ◌∙◌, w32}
use Rattle.operators.proofs.compute.Goals as goal

pub returns-then-code-eq-MULTIPLY : goal.returns-then-code-eq-MULTIPLY
returns-then-code-eq-MULTIPLY c =
    let fits = c.ranges in
    c.multiply.ensures ∙ read_both w32 _ _ fits.x fits.y (product w32) ∙ code_multiply _ _ _ c.if-code-eq-MULTIPLY.true

pub returns-then-code-eq-DIVIDE : goal.returns-then-code-eq-DIVIDE
returns-then-code-eq-DIVIDE c =
    let fits = c.ranges in
    c.divide.ensures ∙ read_both w32 _ _ fits.x fits.y (quotient w32) ∙ code_divide _ _ _ c.if-code-eq-DIVIDE.true

pub returns-then-code-eq-ADD : goal.returns-then-code-eq-ADD
unfolding computed_of
returns-then-code-eq-ADD c =
    let fits = c.ranges in
    let add = c.add in
    number_answer w32 (λ a b. reduced w32 (a +ℤ b)) fits.x fits.y add.type_inv add.ensures ∙ code_add _ _ _ c.if-code-eq-ADD.true

pub returns-then-code-eq-SUBTRACT : goal.returns-then-code-eq-SUBTRACT
unfolding computed_of
returns-then-code-eq-SUBTRACT c =
    let fits = c.ranges in
    let subtract = c.subtract in
    number_answer w32 (λ a b. reduced w32 (a -ℤ b)) fits.x fits.y subtract.type_inv subtract.ensures
    ∙ code_subtract _ _ _ c.if-code-eq-SUBTRACT.true

pub returns-then-code-eq-LESS : goal.returns-then-code-eq-LESS
unfolding computed_of
returns-then-code-eq-LESS c =
    let fits = c.ranges in
    let less = c.less in
    number_answer w32 (λ a b. truth (lt_z a b)) fits.x fits.y less.type_inv less.ensures ∙ code_less _ _ _ c.if-code-eq-LESS.true

pub returns-then-code-eq-EQUAL : goal.returns-then-code-eq-EQUAL
unfolding computed_of
returns-then-code-eq-EQUAL c =
    let fits = c.ranges in
    let equal' = c.equal in
    number_answer w32 (λ a b. truth (equal a b)) fits.x fits.y equal'.type_inv equal'.ensures
    ∙ code_equal _ _ _ c.if-code-eq-EQUAL.true

pub returns : goal.returns
unfolding computed_of
returns c =
    let multiply = c.if-code-eq-MULTIPLY in
    let divide = c.if-code-eq-DIVIDE in
    let add = c.if-code-eq-ADD in
    let subtract = c.if-code-eq-SUBTRACT in
    code_none _ _ _ add.false subtract.false multiply.false divide.false c.if-code-eq-LESS.false c.if-code-eq-EQUAL.false
