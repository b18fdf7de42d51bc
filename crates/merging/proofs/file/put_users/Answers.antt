use Rattle.merging.proofs.JoinLaws.{users_put}
use native.Mathlib.Omega.{arith}
use Rattle.format.proofs.HeadLaws.{some_there}
use Rattle.merging.proofs.file.put_users.Goals as goal

pub move_words-requires : goal.move_words-requires
move_words-requires c =
    let a = c.args in
    (λ some. omega (arith, some, c.requires.0.first, some_there a.first.now a.one c.requires.0.first (omega (arith, some, c.requires.0.first))), omega (arith, c.requires.0.first))

pub move_words-requires-2 : goal.move_words-requires-2
move_words-requires-2 c =
    let a = c.args in
    (λ some. omega (arith, some, c.requires.0.second, some_there a.second.now a.two c.requires.0.second (omega (arith, some, c.requires.0.second))), omega (arith, c.requires.0.first, c.requires.0.second))

pub returns : goal.returns
returns c =
    let a = c.args in
    let one = c.move_words in
    let two = c.move_words-2 in
    users_put a.first.now a.second.now a.one a.two c.requires.0 a.out.now one.new.out two.new.out _ _ _ _
    (λ x. (c.shared_slice_known-1.given x).fits) (λ x. (c.shared_slice_known-2-1.given x).fits)
    c.from.ensures c.from-users.ensures c.from-2.ensures c.from-3.ensures one.ensures two.ensures
