use Rattle.std.proofs.lemmas.Int.{to_z-of_z}
use Rattle.kinds.proofs.Steps.{product_test}
use Rattle.kinds.proofs.step.product_fits.Goals as goal

pub returns : goal.returns
returns c = let fk = c.ranges.k in simp to_z-of_z (product_test c.args.k c.requires c.args.v c.ranges.k c.ranges.v)
