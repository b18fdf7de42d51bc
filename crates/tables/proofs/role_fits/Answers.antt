use Rattle.format.specs.declared.Role.{Role}
use Rattle.masks.specs.Mask.{names_only}
use mathlib.Core.Bool.{◌&&◌}
use mathlib.Core.Path.{ap, ap₂, ◌∙◌}
use Rattle.format.proofs.ContentsLaws.{kinds_held}
use Rattle.tables.specs.Records.{record_fits}
use Rattle.tables.proofs.role_fits.Goals as goal

pub returns : goal.returns
unfolding record_fits
returns c =
    let a = c.args in
    let kinds = a.head.count.kinds in
    rw (kinds_held a.file.now a.head)
    (ap₂ ◌&&◌ (c.names_only.ensures ∙ ap (λ (x : Role). names_only kinds x.sends) c.role-it.ensures)
    (c.names_only-2.ensures ∙ ap (λ (x : Role). names_only kinds x.receives) c.role-it.ensures))
