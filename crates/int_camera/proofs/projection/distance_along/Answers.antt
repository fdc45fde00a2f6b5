use Rattle.std.proofs.Common.{arith}
use Rattle.std.proofs.lemmas.Int.{to_z-of_z}
use Rattle.int_camera.proofs.projection.distance_along.Goals as goal

pub returns-clause-value : goal.returns-clause-value
returns-clause-value c = grind (arith, to_z-of_z, c.sum.ensures.value, c.product.ensures.value, c.product-2.ensures.value, c.product-3.ensures.value, c.difference.ensures.value, c.difference-2.ensures.value, c.difference-3.ensures.value, c.from.ensures, c.from-2.ensures, c.from-3.ensures)
