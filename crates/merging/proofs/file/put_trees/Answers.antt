use Prim.Native.Nat.{◌*◌}
use mathlib.Core.Path.{ap}
use native.Mathlib.Omega.{arith}
use Rattle.merging.proofs.JoinLaws.{sessions_fit, second_sessions, nodes_fit, second_nodes, trees_put}
use Rattle.merging.proofs.file.put_trees.Goals as goal

pub move_words-requires : goal.move_words-requires
move_words-requires c =
    let a = c.args in
    let p = c.requires in
    sessions_fit a.first.now a.second.now a.one a.two p.0 a.whole p.1 _ (omega arith) _ _ _ c.from-2.ensures c.from.ensures (ap (λ x. 3 * x) c.from-sessions.ensures)

pub put_sessions-requires : goal.put_sessions-requires
put_sessions-requires c =
    let a = c.args in
    let p = c.requires in
    second_sessions a.first.now a.second.now a.one a.two p.0 a.whole p.1 _ (omega (arith, p.2)) _ c.shift_after-by.ensures

pub move_words-requires-2 : goal.move_words-requires-2
move_words-requires-2 c =
    let a = c.args in
    let p = c.requires in
    nodes_fit a.first.now a.second.now a.one a.two p.0 a.whole p.1 _ (omega (arith, p.2)) _ _ _ c.from-4.ensures c.from-3.ensures (ap (λ x. 3 * x) c.from-nodes.ensures)

pub put_nodes-requires : goal.put_nodes-requires
put_nodes-requires c =
    let a = c.args in
    let p = c.requires in
    second_nodes a.first.now a.second.now a.one a.two p.0 a.whole p.1 _ (omega (arith, p.2)) _ c.shift_after-by.ensures

pub returns : goal.returns
returns c =
    let a = c.args in
    let p = c.requires in
    let one = c.move_words in
    let two = c.put_sessions in
    let three = c.move_words-2 in
    let four = c.put_nodes in
    trees_put a.first.now a.second.now a.one a.two p.0 a.whole p.1 a.out.now one.new.out two.new.out three.new.out four.new.out _ _ _ _ _ _ _
    c.shift_after-by.ensures c.from-2.ensures c.from.ensures (ap (λ x. 3 * x) c.from-sessions.ensures) c.from-4.ensures c.from-3.ensures (ap (λ x. 3 * x) c.from-nodes.ensures)
    one.ensures two.ensures three.ensures four.ensures
