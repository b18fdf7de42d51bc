use native.Mathlib.Omega.{arith}
use borrow.Author.Rules.{rules}
use Rattle.format.specs.Contents.{contents_at}
use Rattle.format.proofs.ContentsLaws.{nodes_held}
use Rattle.turning.proofs.TurnLaws.{nodes_turn, nodes_end}
use Rattle.turning.proofs.put_nodes.Goals as goal

pub loop-i-preserved : goal.loop-i-preserved
loop-i-preserved c =
    let a = c.args in
    let l = c.loop-i in
    let g = c.put_node in (
      search rules,
      nodes_turn a.whole (contents_at a.file.now a.head).nodes l.out g.new.out _ l.i c.node.result (omega (arith, nodes_held a.file.now a.head)) c.node.ensures g.ensures l.invariant.1,
    )

pub returns : goal.returns
returns c =
    let a = c.args in
    let l = c.loop-i in
    nodes_end a.whole (contents_at a.file.now a.head).nodes l.out _ l.i (omega (arith, nodes_held a.file.now a.head)) l.invariant.1
