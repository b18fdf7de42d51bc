use native.Mathlib.Omega.{arith}
use lib.Count.{ones-le}
use Rattle.masks.proofs.Counts.{held_ones}
use Rattle.masks.proofs.role_count.Goals as goal

-- `masks::role_count` meets its contract: the count of ones is the number of items.
pub overflow_cast-result : goal.overflow_cast-result
overflow_cast-result c = omega (arith, ones-le 16 c.args.mask c.ranges.mask.fits)

pub returns : goal.returns
returns c = held_ones 16 c.args.mask c.ranges.mask.fits
