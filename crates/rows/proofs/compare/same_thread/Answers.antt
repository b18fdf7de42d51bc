use mathlib.Core.Path.{◌≡◌, ◌∙◌}
use lib.ListN.{length}
use Rattle.rows.proofs.StandLaws.{thread_stands}
use borrow.Author.Rules.{rules}
use borrow.Author.Rules.{rules}
use Rattle.rows.proofs.compare.same_thread.Goals as goal

pub returns : goal.returns
returns c =
    let a = c.args in
    let long : length a.it.vars ≡ 8 = search rules in
    c.same_words.ensures ∙ thread_stands a.states.now a.at a.it c.role_count.result long c.role_count.ensures
