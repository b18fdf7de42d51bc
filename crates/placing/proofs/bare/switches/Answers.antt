use Prim.Native.Nat.{◌+◌, ◌-◌}
use mathlib.Core.Path.{◌≡◌, sym, ◌∙◌}
use native.Mathlib.Omega.{arith}
use borrow.Author.Tests.{lt-ltb, le-ltb}
use Rattle.format.specs.Contents.{item, no_node, contents_at}
use Rattle.format.proofs.AnswerLaws.{first_stops, first_goes_on, first_ends, first_last}
use Rattle.format.proofs.ContentsLaws.{nodes_held}
use Rattle.placing.specs.Placing.{switches_answer}
use Rattle.placing.proofs.bare.switches.Goals as goal

pub loop-n-init : goal.loop-n-init
unfolding switches_answer
loop-n-init c =
    let all : c.args.head.count.nodes + 1 - 1 ≡ c.args.head.count.nodes = omega arith in
    rw (all, nodes_held c.args.file.now c.args.head)

pub returns-then-node_tag-gt6 : goal.returns-then-node_tag-gt6
returns-then-node_tag-gt6 c =
    let a = c.args in
    let wrong = le-ltb (item no_node (contents_at a.file.now a.head).nodes c.loop-n.n).tag 7 (omega (arith, c.if-node_tag-gt6.true, c.node_tag.ensures)) in
    sym (first_stops _ _ c.loop-n.n a.head.count.nodes (omega arith) wrong) ∙ c.loop-n.invariant

pub loop-n-preserved : goal.loop-n-preserved
loop-n-preserved c =
    let a = c.args in
    let right = lt-ltb (item no_node (contents_at a.file.now a.head).nodes c.loop-n.n).tag 7 (omega (arith, c.if-node_tag-gt6.false, c.node_tag.ensures)) in
    sym (first_goes_on _ _ c.loop-n.n a.head.count.nodes (omega arith) right) ∙ c.loop-n.invariant

pub returns : goal.returns
returns c = sym (first_ends _ _ c.loop-n.n c.args.head.count.nodes (omega arith)) ∙ c.loop-n.invariant

pub returns-else-node_tag-gt6 : goal.returns-else-node_tag-gt6
returns-else-node_tag-gt6 c =
    let a = c.args in
    let right = lt-ltb (item no_node (contents_at a.file.now a.head).nodes c.loop-n.n).tag 7 (omega (arith, c.if-node_tag-gt6.false, c.node_tag.ensures)) in
    sym (first_last _ _ c.loop-n.n a.head.count.nodes (omega arith) right) ∙ c.loop-n.invariant
