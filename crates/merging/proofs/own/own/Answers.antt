use mathlib.Core.Path.{sym, ap, ◌∙◌}
use mathlib.Core.Bool.{cond, ◌||◌}
use lib.Dec.{eqb}
use Rattle.format.specs.Answers.{refused}
use Rattle.std.specs.Prelude.{Err}
use Rattle.merging.proofs.OwnLaws.{own_refused, own_headed}
use Rattle.merging.proofs.own.own.Goals as goal

pub returns-in-Err : goal.returns-in-Err
returns-in-Err c =
    let w = c.in-Err.first in
    ap Err (c.own_refusal.ensures ∙ ap (λ k. cond (eqb w.number 1 || eqb k 1) w (refused 2 0)) c.word.ensures)
    ∙ own_refused c.args.file.now w (sym c.in-Err.ensures)

pub returns-in-Ok : goal.returns-in-Ok
returns-in-Ok c = c.own_head.ensures ∙ own_headed c.args.file.now _ (sym c.in-Ok.ensures)
