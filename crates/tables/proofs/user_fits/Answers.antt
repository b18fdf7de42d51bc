use mathlib.Core.Path.{ap, ◌∙◌}
use Rattle.masks.specs.Mask.{names_only}
use Rattle.format.proofs.ContentsLaws.{roles_held}
use Rattle.tables.specs.Records.{record_fits}
use Rattle.tables.proofs.user_fits.Goals as goal

pub returns : goal.returns
unfolding record_fits
returns c =
    let a = c.args in
    rw (roles_held a.file.now a.head) (c.names_only.ensures ∙ ap (names_only a.head.count.roles) (c.from.ensures ∙ c.user_roles.ensures))
