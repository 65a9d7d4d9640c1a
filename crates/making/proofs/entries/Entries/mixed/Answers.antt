use Rattle.making.proofs.Filled.{mixed_is}
use Rattle.making.proofs.entries.Entries.mixed.Goals as goal

pub returns : goal.returns
returns c =
    let e = c.args.self.now in
    mixed_is e.random.parameters.set e.random.bytes.now e.blocks.now _ _ _ c.permuted-x.result c.element-y.result _ _ c.permuted-x.ensures c.element-y.ensures c.product.ensures.value c.product-2.ensures.value
