use mathlib.Core.Path.{sym, ◌∙◌}
use native.Mathlib.Omega.{arith}
use Rattle.format.specs.Contents.{contents_at}
use Rattle.format.proofs.ContentsLaws.{roles_held}
use Rattle.seated.proofs.EntryLaws.{fits_short, test_is, bar_table, bar_none, bar_start}
use Rattle.seated.proofs.table.seats_bar.Goals as goal

pub returns-then-not-fits : goal.returns-then-not-fits
returns-then-not-fits c =
    let a = c.args in
    bar_table (contents_at a.file.now a.head) a.seats.now (sym (test_is (contents_at a.file.now a.head) a.seats.now a.head.count.roles c.fits.result (roles_held a.file.now a.head) c.fits.ensures) ∙ c.if-not-fits.true)

pub overfilled_at-k-requires : goal.overfilled_at-k-requires
overfilled_at-k-requires c =
    let a = c.args in
    (c.requires, omega (arith, fits_short a.seats.now a.head.count.roles (sym c.fits.ensures ∙ c.if-not-fits.false), c.requires.roles))

pub returns-then-k-eq0 : goal.returns-then-k-eq0
returns-then-k-eq0 c =
    let a = c.args in
    bar_none (contents_at a.file.now a.head) a.seats.now (sym (test_is (contents_at a.file.now a.head) a.seats.now a.head.count.roles c.fits.result (roles_held a.file.now a.head) c.fits.ensures) ∙ c.if-not-fits.false) c.overfilled_at-k.result c.overfilled_at-k.ensures c.if-k-eq0.true

pub returns : goal.returns
returns c =
    let a = c.args in
    bar_start (contents_at a.file.now a.head) a.seats.now (sym (test_is (contents_at a.file.now a.head) a.seats.now a.head.count.roles c.fits.result (roles_held a.file.now a.head) c.fits.ensures) ∙ c.if-not-fits.false) c.overfilled_at-k.result c.overfilled_at-k.ensures c.if-k-eq0.false
