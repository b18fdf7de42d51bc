use Rattle.format.specs.Contents.{in_count}
use Rattle.format.specs.declared.Channel.{Channel}
use mathlib.Core.Bool.{◌&&◌}
use mathlib.Core.Path.{ap, ap₂, ◌∙◌}
use Rattle.format.proofs.ContentsLaws.{users_held, kinds_held}
use Rattle.tables.specs.Records.{record_fits}
use Rattle.tables.proofs.channel_fits.Goals as goal

pub returns : goal.returns
unfolding record_fits
returns c =
    let a = c.args in
    rw (users_held a.file.now a.head, kinds_held a.file.now a.head)
    (ap₂ ◌&&◌ (c.in_count.ensures ∙ ap (λ (x : Channel). in_count a.head.count.users x.owner) c.channel-it.ensures)
    (c.in_count-2.ensures ∙ ap (λ (x : Channel). in_count a.head.count.kinds x.kind.0) c.channel-it.ensures))
