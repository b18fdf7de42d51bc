use mathlib.Core.Path.{ap, ap₂, ◌∙◌}
use Rattle.format.specs.Contents.{contents_at}
use Rattle.steps.specs.Choice.{clinic_of}
use Rattle.steps.specs.Beside.{totals_in}
use Rattle.choices.specs.Choices.{start, run}
use Rattle.running.specs.Run.{totals_of}
use Rattle.running.proofs.EntryLaws.{place_word, stopped_by}
use Rattle.running.proofs.totals_in.Goals as goal

pub stopped_at-verdict-requires : goal.stopped_at-verdict-requires
stopped_at-verdict-requires c =
    let a = c.args in
    let done = c.run_list-progress in
    place_word (clinic_of (contents_at a.file.now a.head)) (start (contents_at a.file.now a.head)) a.choices.now done.result done.ensures.0 c.requires.1

pub returns : goal.returns
returns c =
    let a = c.args in
    let done = c.run_list-progress in
    let v = c.stopped_at-verdict in
    let R = run (clinic_of (contents_at a.file.now a.head)) (start (contents_at a.file.now a.head)) a.choices.now in
    ap₂ totals_of (stopped_by R done.result done.ensures.0 v.result v.ensures) (c.totals_of-totals.ensures ∙ ap totals_in done.ensures.3)
