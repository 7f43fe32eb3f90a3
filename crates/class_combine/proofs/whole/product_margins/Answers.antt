use Rattle.simm_params.specs.SimmKinds.declared.kinds.ProductClass.TheVariants as product
use Rattle.class_combine.proofs.whole.product_margins.Goals as goal

pub product_margin-requires : goal.product_margin-requires
product_margin-requires c = c.requires product.RatesFX

pub product_margin-requires-2 : goal.product_margin-requires-2
product_margin-requires-2 c = c.requires product.Credit

pub product_margin-requires-3 : goal.product_margin-requires-3
product_margin-requires-3 c = c.requires product.Equity

pub product_margin-requires-4 : goal.product_margin-requires-4
product_margin-requires-4 c = c.requires product.Commodity
