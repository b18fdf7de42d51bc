use mathlib.Core.Path.{refl}
use Rattle.turning.proofs.TurnLaws.{turned_put}
use Rattle.turning.proofs.put_turned.Goals as goal

pub returns : goal.returns
returns c =
    let a = c.args in
    let p = c.requires in
    let one = c.put_head in
    let two = c.put_tables in
    let three = c.put_sessions in
    let four = c.put_nodes in
    turned_put a.file.now a.head a.to p.0 p.1 p.2 _ a.out.now one.new.out two.new.out three.new.out four.new.out
    refl p.3 one.ensures two.ensures three.ensures four.ensures
