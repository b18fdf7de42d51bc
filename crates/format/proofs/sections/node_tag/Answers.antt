use mathlib.Core.Path.{◌≡◌, sym, ap, ◌∙◌}
use mathlib.Core.Bool.{false}
use native.Mathlib.Omega.{arith}
use Rattle.format.specs.Words.{word_at}
use Rattle.format.specs.Sections.{node_of}
use Rattle.format.specs.Contents.{in_count, no_node, contents_at}
use Rattle.format.specs.declared.Node.{Node}
use Rattle.format.proofs.ContentsLaws.{in_count_lem, item_there, item_none}
use Rattle.format.proofs.SpotLaws.{node_there}
use Rattle.format.proofs.sections.node_tag.Goals as goal

pub returns-then-not-in_count : goal.returns-then-not-in_count
unfolding contents_at
returns-then-not-in_count c =
    let a = c.args in
    let out : in_count a.head.count.nodes a.n ≡ false = sym c.in_count.ensures ∙ c.if-not-in_count.true in
    sym (ap (λ (x : Node). x.tag) (item_none no_node (node_of a.file.now a.head) a.head.count.nodes a.n out))

pub node_spot-requires : goal.node_spot-requires
node_spot-requires c =
    let a = c.args in
    let (pos, le) = in_count_lem a.head.count.nodes a.n (sym c.in_count.ensures ∙ c.if-not-in_count.false) in
    (pos, omega arith)

pub inner_word-requires : goal.inner_word-requires
inner_word-requires c =
    let a = c.args in
    let (pos, le) = in_count_lem a.head.count.nodes a.n (sym c.in_count.ensures ∙ c.if-not-in_count.false) in
    omega (arith, c.node_spot.ensures.0, node_there a.file.now a.head c.requires a.n 0 pos le (omega arith))

pub returns : goal.returns
unfolding contents_at
returns c =
    let a = c.args in
    c.inner_word.ensures ∙ ap (word_at a.file.now) c.node_spot.ensures.0
    ∙ sym (ap (λ (x : Node). x.tag) (item_there no_node (node_of a.file.now a.head) a.head.count.nodes a.n (sym c.in_count.ensures ∙ c.if-not-in_count.false)))
