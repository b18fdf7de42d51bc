use mathlib.Core.Path.{ap, ◌∙◌}
use native.Mathlib.Omega.{arith}
use borrow.Author.Rules.{rules}
use Rattle.format.specs.Contents.{contents_at}
use Rattle.format.proofs.ContentsLaws.{sessions_held}
use Rattle.merging.specs.Merged.{moved_session}
use Rattle.merging.specs.Writers.{shifts_by}
use Rattle.merging.proofs.SectionLaws.{sessions_turn, sessions_end}
use Rattle.merging.proofs.writers.put_sessions.Goals as goal

pub loop-i-preserved : goal.loop-i-preserved
loop-i-preserved c =
    let a = c.args in
    let l = c.loop-i in
    let g = c.put_session in
    let moved = c.moved_session in (
      search rules,
      sessions_turn (shifts_by a.by) (contents_at a.file.now a.head).sessions a.whole.at.sessions a.others l.out g.new.out _ l.i moved.result
          (omega (arith, sessions_held a.file.now a.head)) (moved.ensures ∙ ap (moved_session (shifts_by a.by)) c.session-it.ensures) g.ensures l.invariant.1,
    )

pub returns : goal.returns
returns c =
    let a = c.args in
    let l = c.loop-i in
    sessions_end (shifts_by a.by) (contents_at a.file.now a.head).sessions a.whole.at.sessions a.others l.out _ l.i (omega (arith, sessions_held a.file.now a.head)) l.invariant.1
