use Prim.Native.Nat.{◌+◌, ◌-◌}
use mathlib.Core.Bool.{not}
use mathlib.Core.Path.{◌≡◌, sym, ap, ◌∙◌}
use native.Mathlib.Omega.{arith}
use Rattle.format.specs.Contents.{item, no_node, contents_at}
use Rattle.format.proofs.AnswerLaws.{first_stops, first_goes_on, first_ends, first_last}
use Rattle.format.proofs.ContentsLaws.{nodes_held}
use Rattle.checking_at.specs.CheckAt.{opens_shut, shut_answer}
use Rattle.checking_at.proofs.shut_on.shut_on.Goals as goal
use Rattle.checking_at.proofs.shut_on.shut_on.Goals.{After-opens_shut}

pub loop-n-init : goal.loop-n-init
unfolding shut_answer
loop-n-init c =
    let all : c.args.head.count.nodes + 1 - 1 ≡ c.args.head.count.nodes = omega arith in
    rw (all, nodes_held c.args.file.now c.args.head)

-- the test of the node in hand
tested : (c : After-opens_shut) → not (opens_shut c.args.shut (item no_node (contents_at c.args.file.now c.args.head).nodes c.loop-n.n)) ≡ not c.opens_shut.result
tested c = ap not (sym (c.opens_shut.ensures ∙ ap (opens_shut c.args.shut) c.node.ensures))

pub returns-then-opens_shut : goal.returns-then-opens_shut
returns-then-opens_shut c =
    let a = c.args in
    sym (first_stops _ _ c.loop-n.n a.head.count.nodes (omega arith) (tested (goal.at.returns-then-opens_shut c).After-opens_shut ∙ ap not c.if-opens_shut.true)) ∙ c.loop-n.invariant

pub loop-n-preserved : goal.loop-n-preserved
loop-n-preserved c =
    let a = c.args in
    sym (first_goes_on _ _ c.loop-n.n a.head.count.nodes (omega arith) (tested (goal.at.loop-n-preserved c).After-opens_shut ∙ ap not c.if-opens_shut.false)) ∙ c.loop-n.invariant

pub returns : goal.returns
returns c = sym (first_ends _ _ c.loop-n.n c.args.head.count.nodes (omega arith)) ∙ c.loop-n.invariant

pub returns-else-opens_shut : goal.returns-else-opens_shut
returns-else-opens_shut c =
    let a = c.args in
    sym (first_last _ _ c.loop-n.n a.head.count.nodes (omega arith) (tested (goal.at.returns-else-opens_shut c).After-opens_shut ∙ ap not c.if-opens_shut.false)) ∙ c.loop-n.invariant
