use Prim.Native.Nat.{ℕ}
use mathlib.Core.Path.{◌≡◌, sym, ap₂, ◌∙◌}
use mathlib.Core.Bool.{Bool}
use native.Mathlib.Omega.{arith}
use lib.ListN.{length, get_or}
use Rattle.format.specs.Contents.{in_count, contents_at}
use Rattle.format.proofs.ContentsLaws.{in_count_lem, nodes_held, nodes_counted}
use Rattle.steps.specs.Choice.{clinic_of, lone}
use Rattle.steps.specs.Acted.{acted_of}
use Rattle.steps.specs.Beside.{made_in}
use Rattle.steps.proofs.ActLaws.{answered, length_made, acting_out, acting_send, acting_receive, acting_partner, acting_lone}
use Rattle.steps.proofs.act.act.Goals as goal
use Rattle.steps.proofs.act.act.Lts as lts
use Rattle.steps.proofs.act.act.Tie as tie
use Rattle.steps.proofs.act.act.Reads as reads

-- the thread's node is in count, or not
counted : (c : lts.After-in_count tie.the-claims reads.Pre reads.Post) {b : Bool} → c.in_count.result ≡ b
    → let a = c.args in in_count (length (contents_at a.file.now a.head).nodes) a.own.node ≡ b
counted c h = let a = c.args in sym (nodes_counted a.file.now a.head a.own.node) ∙ sym c.in_count.ensures ∙ h

pub returns-then-not-in_count : goal.returns-then-not-in_count
returns-then-not-in_count c =
    let a = c.args in
    answered (acting_out (clinic_of (contents_at a.file.now a.head)) (get_or a.beside.now 0 0) (made_in a.beside.now 2 (get_or a.beside.now 1 0)) a.own a.partner a.other (counted c.before.before.before c.if-not-in_count.true)) c.refused.ensures

pub send-requires : goal.send-requires
send-requires c =
    let a = c.args in
    let w = in_count_lem (length (contents_at a.file.now a.head).nodes) a.own.node (counted c.before.before.before.before.before c.if-not-in_count.false) in
    let p = c.requires in
    (p.0, omega (arith, p.0.nodes, nodes_held a.file.now a.head, w.1), p.1, p.2, p.3, p.4)

pub returns-then-it-eq6 : goal.returns-then-it-eq6
returns-then-it-eq6 c =
    let a = c.args in
    answered (acting_send (clinic_of (contents_at a.file.now a.head)) (get_or a.beside.now 0 0) (made_in a.beside.now 2 (get_or a.beside.now 1 0)) a.own a.partner a.other c.single_node-it.result c.single_node-it.ensures (counted c.before.before.before.before.before.before c.if-not-in_count.false) c.if-it-eq6.true) c.send.ensures

pub returns-then-it-eq5 : goal.returns-then-it-eq5
returns-then-it-eq5 c =
    let a = c.args in
    answered (acting_receive (clinic_of (contents_at a.file.now a.head)) (get_or a.beside.now 0 0) (made_in a.beside.now 2 (get_or a.beside.now 1 0)) a.own a.partner a.other c.single_node-it.result c.single_node-it.ensures (counted c.before.before.before.before.before.before.before.before c.if-not-in_count.false) c.if-it-eq5.true) c.refused-then-it-eq5.ensures

pub returns-then-partner-ne0 : goal.returns-then-partner-ne0
returns-then-partner-ne0 c =
    let a = c.args in
    answered (acting_partner (clinic_of (contents_at a.file.now a.head)) (get_or a.beside.now 0 0) (made_in a.beside.now 2 (get_or a.beside.now 1 0)) a.own a.partner a.other c.single_node-it.result c.single_node-it.ensures (counted c.before.before.before.before.before.before.before.before.before c.if-not-in_count.false) c.if-it-eq6.false c.if-it-eq5.false c.if-partner-ne0.true) c.refused-then-partner-ne0.ensures

pub step-requires : goal.step-requires
step-requires c =
    let a = c.args in
    let w = in_count_lem (length (contents_at a.file.now a.head).nodes) a.own.node (counted c.before.before.before.before.before.before.before.before.before.before c.if-not-in_count.false) in
    let p = c.requires in
    (p.0, omega (arith, p.0.nodes, nodes_held a.file.now a.head, w.1))

pub returns : goal.returns
returns c =
    let a = c.args in
    answered (acting_lone (clinic_of (contents_at a.file.now a.head)) (get_or a.beside.now 0 0) (made_in a.beside.now 2 (get_or a.beside.now 1 0)) a.own a.partner a.other c.single_node-it.result (get_or a.beside.now 1 0) c.single_node-it.ensures (length_made a.beside.now 2 (get_or a.beside.now 1 0)) (counted c.before.before.before.before.before.before.before.before.before.before.before c.if-not-in_count.false) c.if-it-eq6.false c.if-it-eq5.false c.if-partner-ne0.false) (c.step.ensures ∙ ap₂ (λ (n m : ℕ). acted_of (lone (clinic_of (contents_at a.file.now a.head)) n m a.own c.single_node-it.result)) c.thread_count.ensures c.made_count.ensures)
