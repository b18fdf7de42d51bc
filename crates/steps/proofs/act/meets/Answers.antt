use mathlib.Core.Path.{◌≡◌, sym, ap, ap₂, ◌∙◌}
use mathlib.Core.Bool.{Bool}
use lib.ListN.{get_or}
use Rattle.format.specs.Contents.{contents_at}
use Rattle.rules.specs.Schema.{schema_of}
use Rattle.rules.specs.declared.Way.TheVariants.{Sends, Receives}
use Rattle.steps.specs.declared.Thread.{Thread}
use Rattle.steps.specs.declared.Outcome.TheVariants.{Meets}
use Rattle.steps.specs.Threads.{value, bound}
use Rattle.steps.specs.Choice.{clinic_of, is_allowed}
use Rattle.steps.specs.Beside.{made_in}
use Rattle.steps.specs.Acted.{acted_of}
use Rattle.steps.proofs.ActLaws.{answered, able_by, meeting_sender, meeting_receiver, meeting_apart, meeting_both}
use Rattle.steps.proofs.act.meets.Goals as goal
use Rattle.steps.proofs.act.meets.Lts as lts
use Rattle.steps.proofs.act.meets.Tie as tie
use Rattle.steps.proofs.act.meets.Reads as reads

-- what a test says of rule 6: for the sender; for the receiver on a channel of its own; for the receiver on the sender's channel
sent : (c : lts.After-may tie.the-claims reads.Pre reads.Post) {b : Bool} → c.may.result ≡ b
    → let a = c.args in is_allowed (clinic_of (contents_at a.file.now a.head)) (made_in a.beside.now 2 (get_or a.beside.now 1 0)) a.own Sends a.it.f1 ≡ b
sent c h =
    let a = c.args in
    able_by (schema_of (contents_at a.file.now a.head)) Sends a.sends.now a.own.mask (made_in a.beside.now 2 (get_or a.beside.now 1 0)) c.kind_held-kind.result.0 c.value-over.result (value a.own a.it.f1) c.may.result _ c.requires.3 c.kind_held-kind.ensures c.value-over.ensures c.may.ensures.0 h

apart : (c : lts.After-may2 tie.the-claims reads.Pre reads.Post) {b : Bool} → c.may-then-over-at.result ≡ b
    → let a = c.args in is_allowed (clinic_of (contents_at a.file.now a.head)) (made_in a.beside.now 2 (get_or a.beside.now 1 0)) a.other Receives a.theirs.f1 ≡ b
apart c h =
    let a = c.args in
    able_by (schema_of (contents_at a.file.now a.head)) Receives a.receives.now a.other.mask (made_in a.beside.now 2 (get_or a.beside.now 1 0)) c.kind_held.result.0 c.value-at.result (value a.other a.theirs.f1) c.may-then-over-at.result _ c.requires.4 c.kind_held.ensures c.value-at.ensures c.may-then-over-at.ensures.0 h

same : (c : lts.Else2 tie.the-claims reads.Pre reads.Post) → let a = c.args in value a.own a.it.f1 ≡ value a.other a.theirs.f1
same c = sym c.value-over.ensures ∙ c.if-over-at.false ∙ c.value-at.ensures

received : (c : lts.After-may3 tie.the-claims reads.Pre reads.Post) {b : Bool} → c.may-2.result ≡ b
    → let a = c.args in is_allowed (clinic_of (contents_at a.file.now a.head)) (made_in a.beside.now 2 (get_or a.beside.now 1 0)) a.other Receives a.theirs.f1 ≡ b
received c h =
    let a = c.args in
    able_by (schema_of (contents_at a.file.now a.head)) Receives a.receives.now a.other.mask (made_in a.beside.now 2 (get_or a.beside.now 1 0)) c.kind_held-kind.result.0 c.value-over.result (value a.other a.theirs.f1) c.may-2.result _ c.requires.4 c.kind_held-kind.ensures (c.value-over.ensures ∙ same c.before) c.may-2.ensures.0 h

pub returns-then-not-may : goal.returns-then-not-may
returns-then-not-may c =
    let a = c.args in
    answered (meeting_sender (clinic_of (contents_at a.file.now a.head)) (made_in a.beside.now 2 (get_or a.beside.now 1 0)) a.own a.it a.other a.theirs (sent c.before.before.before c.if-not-may.true)) c.refused.ensures

pub returns-then-may : goal.returns-then-may
returns-then-may c =
    let a = c.args in
    answered (meeting_apart (clinic_of (contents_at a.file.now a.head)) (made_in a.beside.now 2 (get_or a.beside.now 1 0)) a.own a.it a.other a.theirs (sent c.before.before.before.before.before.before.before.before c.if-not-may.false) (apart c.before.before.before c.if-may.true) (λ e. c.if-over-at.true (c.value-over.ensures ∙ e ∙ sym c.value-at.ensures))) c.refused-then-may.ensures

pub returns-then-over-at : goal.returns-then-over-at
returns-then-over-at c =
    let a = c.args in
    answered (meeting_receiver (clinic_of (contents_at a.file.now a.head)) (made_in a.beside.now 2 (get_or a.beside.now 1 0)) a.own a.it a.other a.theirs (sent c.before.before.before.before.before.before.before.before c.if-not-may.false) (apart c.before.before.before c.if-may.false)) c.refused-then-over-at.ensures

pub returns-then-not-may-2 : goal.returns-then-not-may-2
returns-then-not-may-2 c =
    let a = c.args in
    answered (meeting_receiver (clinic_of (contents_at a.file.now a.head)) (made_in a.beside.now 2 (get_or a.beside.now 1 0)) a.own a.it a.other a.theirs (sent c.before.before.before.before.before.before.before c.if-not-may.false) (received c.before.before.before c.if-not-may-2.true)) c.refused-then-not-may-2.ensures

pub returns : goal.returns
returns c =
    let a = c.args in
    answered (meeting_both (clinic_of (contents_at a.file.now a.head)) (made_in a.beside.now 2 (get_or a.beside.now 1 0)) a.own a.it a.other a.theirs (sent c.before.before.before.before.before.before.before.before.before c.if-not-may.false) (received c.before.before.before.before.before c.if-not-may-2.false) (same c.before.before.before.before.before.before)) (ap₂ (λ (x y : Thread). acted_of (Meets (record { first = x; second = y }))) c.onward.ensures (c.bound.ensures ∙ ap (bound a.other) c.value.ensures))
