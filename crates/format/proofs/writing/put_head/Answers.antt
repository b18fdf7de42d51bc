use Rattle.format.proofs.WriteLaws.{head_put}
use Rattle.format.proofs.writing.put_head.Goals as goal

pub returns : goal.returns
returns c =
    let a = c.args in
    let one = c.put_word in
    let two = c.put_three in
    let three = c.put_three-2 in
    let four = c.put_offsets in
    head_put a.out.now one.new.out two.new.out three.new.out four.new.out a.head
    one.ensures two.ensures three.ensures four.ensures
