use mathlib.Core.Path.{refl, sym}
use native.Mathlib.Omega.{arith}
use native.Mathlib.Nat.{lt_of_lt_of_le}
use lib.Pow.{pow_mono}
use Rattle.masks.specs.Mask.{names_only}
use Rattle.masks.proofs.Bounds.{names_only_lt}
use Rattle.masks.proofs.names_only.Goals as goal

-- `masks::names_only` meets its contract: a mask of 32 bits names nothing above 32, and the rest is the definition.
pub returns-then-n-ge32 : goal.returns-then-n-ge32
returns-then-n-ge32 c = let a = c.args in sym ((names_only_lt a.n a.mask).1 (lt_of_lt_of_le c.ranges.mask.fits (pow_mono {i = 32} (omega arith))))

pub returns : goal.returns
unfolding names_only
returns c = refl
