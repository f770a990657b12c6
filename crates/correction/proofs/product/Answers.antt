-- `correction::product` meets its contract. Assumes nothing.
use Rattle.correction.specs.Correction.{product_of}
use Rattle.correction.proofs.Products.{product_scalable}
use Rattle.correction.proofs.product.Goals as goal

pub scaled-f-requires : goal.scaled-f-requires
scaled-f-requires c =
    let given = c.requires in
    rw (c.squared.ensures, c.scaled.ensures) (product_scalable given.1 given.2 given.0)

pub returns : goal.returns
unfolding product_of
returns c =
    let all = c in
    rw (c.min.ensures, c.min-2.ensures, all.scaled-f.ensures, all.scaled.ensures, all.squared.ensures)
