use Rattle.merging.proofs.JoinLaws.{file_put}
use Rattle.merging.proofs.file.put_file.Goals as goal

pub returns : goal.returns
returns c =
    let a = c.args in
    let one = c.put_head in
    let two = c.put_tables in
    let three = c.put_trees in
    file_put a.first.now a.second.now a.one a.two c.requires.0 a.whole c.requires.1 a.out.now one.new.out two.new.out three.new.out one.ensures two.ensures three.ensures
