use Rattle.masks.specs.Mask.{within}
use Rattle.format.specs.Contents.{in_count, item, contents_at, no_session}
use Rattle.format.specs.declared.Session.{Session}
use mathlib.Core.Bool.{Bool}
use Rattle.tables.specs.Records.{record_fits}
use Rattle.format.proofs.ContentsLaws.{users_held}
use mathlib.Core.Path.{◌≡◌, sym, ap, ◌∙◌}
use Rattle.tables.proofs.session_fits.Goals as goal
use Rattle.tables.proofs.session_fits.Lts as lts
use Rattle.tables.proofs.session_fits.Tie as tie
use Rattle.tables.proofs.session_fits.Reads as reads

-- what was found of the session's user
seated : (c : lts.After-in_count tie.the-claims reads.Pre reads.Post) {b : Bool} → c.in_count.result ≡ b
    → in_count c.args.head.count.users (item no_session (contents_at c.args.file.now c.args.head).sessions c.args.n).user ≡ b
seated c h = sym (ap (λ (x : Session). in_count c.args.head.count.users x.user) c.session-it.ensures) ∙ sym c.in_count.ensures ∙ h

pub returns-then-not-in_count : goal.returns-then-not-in_count
unfolding record_fits
returns-then-not-in_count c = rw (users_held c.args.file.now c.args.head, seated c.before.before c.if-not-in_count.true)

pub returns : goal.returns
unfolding record_fits
returns c =
    let a = c.args in
    let s = c.session-it in
    rw (users_held a.file.now a.head, seated c.before.before.before.before c.if-not-in_count.false)
    (c.roles_within.ensures ∙ ap (within s.result.mask) c.user_roles.ensures
    ∙ ap (λ (x : Session). within x.mask (item 0 (contents_at a.file.now a.head).users x.user)) s.ensures)
