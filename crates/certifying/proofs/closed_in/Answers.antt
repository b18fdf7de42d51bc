use mathlib.Core.Path.{sym, ap, ◌∙◌}
use Rattle.format.specs.Contents.{contents_at}
use Rattle.format.specs.declared.Verdict.{Verdict}
use Rattle.format.proofs.ContentsLaws.{roles_held}
use Rattle.seated.proofs.EntryLaws.{bar_clear}
use Rattle.seats.specs.Seats.{seated_start}
use Rattle.certifying.specs.Kept.{certificate_at}
use Rattle.certifying.specs.Parts.{asked_fault}
use Rattle.certifying.proofs.EntryLaws.{barred, not_barred}
use native.Mathlib.Omega.{arith}
use Rattle.certifying.proofs.closed_in.Goals as goal

pub returns-then-bar-ne0 : goal.returns-then-bar-ne0
returns-then-bar-ne0 c =
    let a = c.args in
    barred (contents_at a.file.now a.head) a.seats.now c.seats_bar-bar.result c.seats_bar-bar.ensures (asked_fault (certificate_at a.file.now a.head a.seats.now a.states.now a.places.now a.next.now) (seated_start (contents_at a.file.now a.head)) a.asked) c.if-bar-ne0.true

pub row_at_fault-requires : goal.row_at_fault-requires
row_at_fault-requires c =
    let a = c.args in
    let q = c.requires in
    let clear = bar_clear (contents_at a.file.now a.head) a.seats.now (sym (ap (λ (v : Verdict). v.number) c.seats_bar-bar.ensures) ∙ c.if-bar-ne0.false) in
    (q.0, omega (arith, clear.0, roles_held a.file.now a.head, q.0.roles), q.1, clear.1)

pub returns : goal.returns
returns c =
    let a = c.args in
    c.fault_at.ensures ∙ not_barred (contents_at a.file.now a.head) a.seats.now c.seats_bar-bar.result c.seats_bar-bar.ensures (asked_fault (certificate_at a.file.now a.head a.seats.now a.states.now a.places.now a.next.now) (seated_start (contents_at a.file.now a.head)) a.asked) c.if-bar-ne0.false c.row_at_fault.result c.row_at_fault.ensures.0
