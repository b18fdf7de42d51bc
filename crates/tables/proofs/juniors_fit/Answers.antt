use Prim.Native.Nat.{◌-◌}
use mathlib.Core.Path.{ap, ◌∙◌}
use Rattle.masks.specs.Mask.{names_only}
use Rattle.tables.specs.Records.{record_fits}
use Rattle.tables.proofs.juniors_fit.Goals as goal

pub returns : goal.returns
unfolding record_fits
returns c = c.names_only.ensures ∙ ap (names_only (c.args.n - 1)) (c.from.ensures ∙ c.juniors.ensures)
