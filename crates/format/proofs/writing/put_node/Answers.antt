use mathlib.Core.Path.{ap, ◌∙◌}
use native.Mathlib.Omega.{arith}
use Rattle.format.specs.Writing.{word_put}
use Rattle.format.proofs.SpotLaws.{spot_within}
use Rattle.format.proofs.writing.put_node.Goals as goal

pub put_word-requires : goal.put_word-requires
put_word-requires c =
    let a = c.args in
    let p = c.requires in
    omega (arith, p, c.node_spot.ensures.0, spot_within a.head.version a.head.count.nodes a.n 0 p.0 p.1 (omega arith))

pub put_word-requires-2 : goal.put_word-requires-2
put_word-requires-2 c =
    let a = c.args in
    let p = c.requires in
    omega (arith, p, c.node_spot-2.ensures.0, spot_within a.head.version a.head.count.nodes a.n 1 p.0 p.1 (omega arith))

pub put_word-requires-3 : goal.put_word-requires-3
put_word-requires-3 c =
    let a = c.args in
    let p = c.requires in
    omega (arith, p, c.node_spot-3.ensures.0, spot_within a.head.version a.head.count.nodes a.n 2 p.0 p.1 (omega arith))

pub returns : goal.returns
returns c =
    let a = c.args in
    let one = c.put_word.ensures ∙ ap (λ p. word_put p a.it.tag a.out.now) c.node_spot.ensures.0 in
    let two = c.put_word-2.ensures ∙ (λ i. word_put (c.node_spot-2.ensures.0 i) a.it.f1 (one i)) in
    c.put_word-3.ensures ∙ (λ i. word_put (c.node_spot-3.ensures.0 i) a.it.f2 (two i))
