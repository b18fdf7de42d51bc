use mathlib.Core.Path.{◌≡◌, sym, ◌∙◌}
use mathlib.Core.Bool.{Bool}
use native.Mathlib.Omega.{arith}
use lib.ListN.{length, get_or}
use Rattle.format.specs.Contents.{in_count, contents_at}
use Rattle.format.proofs.ContentsLaws.{in_count_lem, nodes_held, nodes_counted}
use Rattle.steps.specs.Choice.{clinic_of}
use Rattle.steps.specs.Beside.{made_in}
use Rattle.steps.proofs.ActLaws.{answered, sending_alone, sending_missing, sending_out, sending_elsewhere, sending_received}
use Rattle.steps.proofs.act.send.Goals as goal
use Rattle.steps.proofs.act.send.Lts as lts
use Rattle.steps.proofs.act.send.Tie as tie
use Rattle.steps.proofs.act.send.Reads as reads

-- the partner's node is in count, or not
counted : (c : lts.After-in_count tie.the-claims reads.Pre reads.Post) {b : Bool} → c.in_count.result ≡ b
    → let a = c.args in in_count (length (contents_at a.file.now a.head).nodes) a.other.node ≡ b
counted c h = let a = c.args in sym (nodes_counted a.file.now a.head a.other.node) ∙ sym c.in_count.ensures ∙ h

pub returns-then-partner-eq0 : goal.returns-then-partner-eq0
returns-then-partner-eq0 c =
    let a = c.args in
    answered (sending_alone (clinic_of (contents_at a.file.now a.head)) (made_in a.beside.now 2 (get_or a.beside.now 1 0)) a.own a.it (get_or a.beside.now 0 0) a.partner a.other c.if-partner-eq0.true) c.refused.ensures

pub returns-then-thread_count-partner : goal.returns-then-thread_count-partner
returns-then-thread_count-partner c =
    let a = c.args in
    answered (sending_missing (clinic_of (contents_at a.file.now a.head)) (made_in a.beside.now 2 (get_or a.beside.now 1 0)) a.own a.it (get_or a.beside.now 0 0) a.partner a.other c.if-partner-eq0.false (omega (arith, c.if-thread_count-partner.true, c.thread_count.ensures))) c.refused-then-thread_count-partner.ensures

pub returns-then-not-in_count : goal.returns-then-not-in_count
returns-then-not-in_count c =
    let a = c.args in
    answered (sending_out (clinic_of (contents_at a.file.now a.head)) (made_in a.beside.now 2 (get_or a.beside.now 1 0)) a.own a.it (get_or a.beside.now 0 0) a.partner a.other c.if-partner-eq0.false (omega (arith, c.if-thread_count-partner.false, c.thread_count.ensures)) (counted c.before.before.before c.if-not-in_count.true)) c.refused-then-not-in_count.ensures

pub returns-then-theirs-ne5 : goal.returns-then-theirs-ne5
returns-then-theirs-ne5 c =
    let a = c.args in
    answered (sending_elsewhere (clinic_of (contents_at a.file.now a.head)) (made_in a.beside.now 2 (get_or a.beside.now 1 0)) a.own a.it (get_or a.beside.now 0 0) a.partner a.other c.single_node-theirs.result c.single_node-theirs.ensures c.if-partner-eq0.false (omega (arith, c.if-thread_count-partner.false, c.thread_count.ensures)) (counted c.before.before.before.before.before.before c.if-not-in_count.false) c.if-theirs-ne5.true) c.refused-then-theirs-ne5.ensures

pub meets-requires : goal.meets-requires
meets-requires c =
    let a = c.args in
    let w = in_count_lem (length (contents_at a.file.now a.head).nodes) a.other.node (counted c.before.before.before.before.before c.if-not-in_count.false) in
    let p = c.requires in
    (p.0, p.1, omega (arith, p.0.nodes, nodes_held a.file.now a.head, w.1), p.2, p.3, p.4, p.5)

pub returns : goal.returns
returns c =
    let a = c.args in
    answered (sending_received (clinic_of (contents_at a.file.now a.head)) (made_in a.beside.now 2 (get_or a.beside.now 1 0)) a.own a.it (get_or a.beside.now 0 0) a.partner a.other c.single_node-theirs.result c.single_node-theirs.ensures c.if-partner-eq0.false (omega (arith, c.if-thread_count-partner.false, c.thread_count.ensures)) (counted c.before.before.before.before.before.before c.if-not-in_count.false) c.if-theirs-ne5.false) c.meets.ensures
