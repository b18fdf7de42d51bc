use Prim.Native.Nat.{◌+◌}
use mathlib.Core.Path.{ap, ◌∙◌}
use native.Mathlib.Omega.{arith}
use borrow.Author.Rules.{rules}
use Rattle.format.specs.Sections.{by_column}
use Rattle.format.specs.Contents.{contents_at}
use Rattle.format.proofs.ContentsLaws.{nodes_held}
use Rattle.format.proofs.NodesPut.{row_put}
use Rattle.merging.specs.Merged.{moved_node}
use Rattle.merging.specs.Writers.{shifts_by}
use Rattle.merging.proofs.SectionLaws.{nodes_turn, nodes_end}
use Rattle.merging.proofs.writers.put_nodes.Goals as goal

pub loop-i-preserved : goal.loop-i-preserved
loop-i-preserved c =
    let a = c.args in
    let l = c.loop-i in
    let g = c.put_node in
    let moved = c.moved_node in (
      search rules,
      nodes_turn (shifts_by a.by) (contents_at a.file.now a.head).nodes a.whole.at.nodes a.others l.out g.new.out _ l.i moved.result
          (omega (arith, nodes_held a.file.now a.head)) (moved.ensures ∙ ap (moved_node (shifts_by a.by)) c.node-it.ensures)
          (g.ensures ∙ row_put a.whole (a.others + (l.i + 1)) moved.result l.out (ap by_column c.requires.4)) l.invariant.1,
    )

pub returns : goal.returns
returns c =
    let a = c.args in
    let l = c.loop-i in
    nodes_end (shifts_by a.by) (contents_at a.file.now a.head).nodes a.whole.at.nodes a.others l.out _ l.i (omega (arith, nodes_held a.file.now a.head)) l.invariant.1
