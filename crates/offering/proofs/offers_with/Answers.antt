use mathlib.Core.Path.{◌≡◌, sym, ap, ◌∙◌}
use native.Mathlib.Omega.{arith}
use Rattle.format.specs.Contents.{contents_at}
use Rattle.format.specs.declared.Verdict.{Verdict}
use Rattle.format.proofs.ContentsLaws.{roles_held}
use Rattle.seated.proofs.EntryLaws.{bar_clear}
use Rattle.offering.specs.Offers.{Offering}
use Rattle.offering.proofs.EntryLaws.{barred, not_barred}
use borrow.Author.Rules.{rules}
use Rattle.offering.proofs.offers_with.Goals as goal

pub returns-then-bar-ne0 : goal.returns-then-bar-ne0
returns-then-bar-ne0 c =
    let a = c.args in
    let refused = barred (contents_at a.file.now a.head) a.seats.now a.state.now a.out.now c.seats_bar-bar.result c.seats_bar-bar.ensures c.if-bar-ne0.true in
    (c.none.ensures ∙ ap (λ (x : Offering). x.answer) refused, ap (λ (x : Offering). x.out) refused)

pub offers_in-requires : goal.offers_in-requires
offers_in-requires c =
    let a = c.args in
    let q = c.requires in
    let clear = bar_clear (contents_at a.file.now a.head) a.seats.now (sym (ap (λ (v : Verdict). v.number) c.seats_bar-bar.ensures) ∙ c.if-bar-ne0.false) in
    (q, omega (arith, clear.0, roles_held a.file.now a.head, q.roles))

pub returns : goal.returns
returns c =
    let a = c.args in
    let same = not_barred (contents_at a.file.now a.head) a.seats.now a.state.now a.out.now c.seats_bar-bar.result c.seats_bar-bar.ensures c.if-bar-ne0.false in
    (c.offers_in.ensures.0 ∙ ap (λ (x : Offering). x.answer) same, c.offers_in.ensures.1 ∙ ap (λ (x : Offering). x.out) same)
