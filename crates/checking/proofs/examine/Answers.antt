use mathlib.Core.Path.{sym, ◌∙◌}
use Rattle.checking.proofs.CheckLaws.{admitted, examined_from_lem, surveyed_from_lem}
use Rattle.checking.proofs.examine.Goals as goal

pub examine_opened-requires : goal.examine_opened-requires
examine_opened-requires c = (admitted c.args.file.now _ (sym c.open.ensures), c.requires)

pub returns : goal.returns
returns c =
    let a = c.args in
    let is = sym c.open.ensures in
    let e = c.examine_opened.ensures in
    (e.0 ∙ examined_from_lem a.file.now _ is, e.1 ∙ surveyed_from_lem a.file.now _ is a.roles.now)
