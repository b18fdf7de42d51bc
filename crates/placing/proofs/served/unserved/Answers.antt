use Prim.Native.Nat.{◌+◌, ◌-◌}
use mathlib.Core.Bool.{not, ◌&&◌}
use mathlib.Core.Path.{◌≡◌, sym, ap, ap₂, ◌∙◌}
use native.Mathlib.Omega.{arith}
use lib.Dec.{eqb}
use lib.ListN.{length, get_or}
use Rattle.format.specs.Contents.{contents_at}
use Rattle.format.proofs.AnswerLaws.{first_stops, first_goes_on, first_ends, first_last}
use Rattle.format.proofs.ContentsLaws.{nodes_held}
use Rattle.states.specs.States.{needs as needy}
use Rattle.placing.proofs.ServedLaws.{served_at, first_unserved}
use Rattle.placing.proofs.served.unserved.Goals as goal
use Rattle.placing.proofs.served.unserved.Goals.{After-is_unserved}

pub loop-n-init : goal.loop-n-init
loop-n-init c =
    let a = c.args in
    let all : a.head.count.nodes + 1 - 1 ≡ length (contents_at a.file.now a.head).nodes = omega (arith, nodes_held a.file.now a.head) in
    rw all (sym (first_unserved (contents_at a.file.now a.head).nodes a.roles.now (omega (arith, nodes_held a.file.now a.head, c.requires))))

-- the test of the node in hand
tested : (c : After-is_unserved) → served_at (contents_at c.args.file.now c.args.head).nodes c.args.roles.now c.loop-n.n ≡ not c.is_unserved.result
tested c =
    ap not (sym (c.is_unserved.ensures ∙ ap₂ (λ t j. needy t && eqb (get_or c.args.roles.now j 0) 0) c.node_tag.ensures c.from.ensures))

pub returns-then-is_unserved : goal.returns-then-is_unserved
returns-then-is_unserved c =
    let a = c.args in
    sym (first_stops _ _ c.loop-n.n a.head.count.nodes (omega arith) (tested (goal.at.returns-then-is_unserved c).After-is_unserved ∙ ap not c.if-is_unserved.true)) ∙ c.loop-n.invariant

pub loop-n-preserved : goal.loop-n-preserved
loop-n-preserved c =
    let a = c.args in
    sym (first_goes_on _ _ c.loop-n.n a.head.count.nodes (omega arith) (tested (goal.at.loop-n-preserved c).After-is_unserved ∙ ap not c.if-is_unserved.false)) ∙ c.loop-n.invariant

pub returns : goal.returns
returns c = sym (first_ends _ _ c.loop-n.n c.args.head.count.nodes (omega arith)) ∙ c.loop-n.invariant

pub returns-else-is_unserved : goal.returns-else-is_unserved
returns-else-is_unserved c =
    let a = c.args in
    sym (first_last _ _ c.loop-n.n a.head.count.nodes (omega arith) (tested (goal.at.returns-else-is_unserved c).After-is_unserved ∙ ap not c.if-is_unserved.false)) ∙ c.loop-n.invariant
