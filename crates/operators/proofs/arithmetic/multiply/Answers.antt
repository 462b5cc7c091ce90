-- `operators::arithmetic::multiply` meets its contract: the exact product, or the fault where it is out of range.
use Rattle.operators.proofs.Products.{range_cast, product_given, product_overflows}
use Rattle.operators.specs.Results.{computed_of}
use Rattle.std.proofs.Common.{w32, w64}
use Rattle.operators.proofs.arithmetic.multiply.Goals as goal

pub overflow_cast-result : goal.overflow_cast-result
overflow_cast-result c =
    let fits = c.ranges in
    let exact = c.exact_product-exact in
    range_cast w32 w64 fits.x fits.y exact.type_inv exact.ensures c.in_signed_range.ensures c.if-in_signed_range.true

pub returns-then-in_signed_range : goal.returns-then-in_signed_range
unfolding computed_of
returns-then-in_signed_range c =
    let fits = c.ranges in
    let exact = c.exact_product-exact in
    product_given w32 w64 fits.x fits.y exact.type_inv exact.ensures c.in_signed_range.ensures c.if-in_signed_range.true

pub returns : goal.returns
unfolding computed_of
returns c =
    let fits = c.ranges in
    let exact = c.exact_product-exact in
    product_overflows w32 w64 fits.x fits.y exact.type_inv exact.ensures c.in_signed_range.ensures c.if-in_signed_range.false
