use mathlib.Core.Path.{ap, ◌∙◌}
use native.Mathlib.Omega.{arith}
use borrow.Author.Rules.{rules}
use Rattle.format.specs.Contents.{contents_at}
use Rattle.format.proofs.ContentsLaws.{channels_held}
use Rattle.merging.specs.Merged.{moved_channel}
use Rattle.merging.specs.Writers.{shifts_by}
use Rattle.merging.proofs.SectionLaws.{channels_turn, channels_end}
use Rattle.merging.proofs.writers.put_channels.Goals as goal

pub loop-i-preserved : goal.loop-i-preserved
loop-i-preserved c =
    let a = c.args in
    let l = c.loop-i in
    let g = c.put_channel in
    let moved = c.moved_channel in (
      search rules,
      channels_turn (shifts_by a.by) (contents_at a.file.now a.head).channels a.whole.at.channels a.others l.out g.new.out _ l.i moved.result
          (omega (arith, channels_held a.file.now a.head)) (moved.ensures ∙ ap (moved_channel (shifts_by a.by)) c.channel-it.ensures) g.ensures l.invariant.1,
    )

pub returns : goal.returns
returns c =
    let a = c.args in
    let l = c.loop-i in
    channels_end (shifts_by a.by) (contents_at a.file.now a.head).channels a.whole.at.channels a.others l.out _ l.i (omega (arith, channels_held a.file.now a.head)) l.invariant.1
