-- `operators::arithmetic::exact_product` meets its contract: 64 bits hold the product.
use Rattle.operators.proofs.Conversions.{widened}
use Rattle.operators.proofs.Products.{product_fits, exact}
use Rattle.std.proofs.Common.{arith, w32, w64}
use Rattle.operators.proofs.arithmetic.exact_product.Goals as goal

pub overflow_cast-result : goal.overflow_cast-result
overflow_cast-result c = widened w32 w64 (omega arith) _ c.ranges.x

pub overflow_cast-result-2 : goal.overflow_cast-result-2
overflow_cast-result-2 c = widened w32 w64 (omega arith) _ c.ranges.y

pub overflow_mul-result : goal.overflow_mul-result
overflow_mul-result c = product_fits w32 w64 (omega arith) (omega arith) _ _ c.ranges.x c.ranges.y

pub returns : goal.returns
returns c = exact w32 w64 (omega arith) (omega arith) _ _ c.ranges.x c.ranges.y
