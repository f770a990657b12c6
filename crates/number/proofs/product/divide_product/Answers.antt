-- `number::product::divide_product` meets its contract. Assumes nothing.
use native.Mathlib.Omega.{arith}
use Rattle.number.proofs.Products.{product_divided, product_fits}
use Rattle.number.proofs.product.divide_product.Goals as goal

pub overflow_mul-result : goal.overflow_mul-result
overflow_mul-result c =
    omega (arith, product_fits _ _ c.requires)

pub overflow_add-result : goal.overflow_add-result
overflow_add-result c =
    omega (arith, product_fits _ _ c.requires)

pub overflow_add-result-2 : goal.overflow_add-result-2
overflow_add-result-2 c =
    omega (arith, product_fits _ _ c.requires)

pub returns : goal.returns
returns c = product_divided _ _
