use mathlib.Core.Path.{sym, ◌∙◌}
use mathlib.Core.Logic.{◌≢◌}
use native.Mathlib.Omega.{arith}
use Rattle.format.specs.Sections.{node_of}
use Rattle.format.specs.Contents.{no_node, contents_at}
use Rattle.format.proofs.ContentsLaws.{item_there, item_none}
use Rattle.format.proofs.SpotLaws.{row_spot, column_spot, stepped}
use Rattle.format.proofs.sections.single_node.Goals as goal

pub returns-then-not-in_count : goal.returns-then-not-in_count
unfolding contents_at
returns-then-not-in_count c =
    let a = c.args in
    sym (item_none no_node (node_of a.file.now a.head) a.head.count.nodes a.n (sym c.in_count.ensures ∙ c.if-not-in_count.true))

pub returns-then-head-eq3 : goal.returns-then-head-eq3
unfolding contents_at
returns-then-head-eq3 c =
    let a = c.args in
    let spot = column_spot a.head c.if-head-eq3.true a.n in
    c.stepped_node.ensures
    ∙ stepped a.file.now a.head a.n _ _ (omega (arith, spot 0, c.from.ensures)) (omega (arith, spot 1, c.from.ensures)) (omega (arith, spot 2, c.from.ensures))
    ∙ sym (item_there no_node (node_of a.file.now a.head) a.head.count.nodes a.n (sym c.in_count.ensures ∙ c.if-not-in_count.false))

pub returns : goal.returns
unfolding contents_at
returns c =
    let a = c.args in
    let other : a.head.version ≢ 3 = c.if-head-eq3.false in
    let spot = row_spot a.head other a.n in
    c.stepped_node-2.ensures
    ∙ stepped a.file.now a.head a.n _ _ (omega (arith, spot 0)) (omega (arith, spot 1)) (omega (arith, spot 2))
    ∙ sym (item_there no_node (node_of a.file.now a.head) a.head.count.nodes a.n (sym c.in_count.ensures ∙ c.if-not-in_count.false))
