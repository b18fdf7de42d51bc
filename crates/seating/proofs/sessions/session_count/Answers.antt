use native.Mathlib.Omega.{arith}
use lib.Count.{ones-le}
use Rattle.masks.proofs.Counts.{held_ones}
use Rattle.seating.proofs.sessions.session_count.Goals as goal

pub overflow_cast-result : goal.overflow_cast-result
overflow_cast-result c = omega (arith, ones-le 32 c.args.mask c.ranges.mask.fits)

pub returns : goal.returns
returns c = held_ones 32 c.args.mask c.ranges.mask.fits
