use mathlib.Core.Path.{◌≡◌}
use lib.ListN.{length}
use Rattle.running.proofs.PutLaws.{thread_put}
use borrow.Author.Rules.{rules}
use Rattle.running.proofs.out.put_thread.Goals as goal

pub returns : goal.returns
returns c =
    let a = c.args in
    let one = c.put_four in
    let two = c.put_four-2 in
    let three = c.put_four-3 in
    let roles = c.role_count in
    let long : length a.it.vars ≡ 8 = search rules in
    thread_put a.it a.out.now one.new.out two.new.out three.new.out a.at roles.result long roles.ensures one.ensures two.ensures three.ensures
