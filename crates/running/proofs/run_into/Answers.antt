use Rattle.format.specs.Contents.{contents_at}
use Rattle.steps.specs.Choice.{clinic_of}
use Rattle.choices.specs.Choices.{start, run}
use Rattle.running.proofs.EntryLaws.{place_word, stopped_by, put_by}
use Rattle.running.proofs.run_into.Goals as goal

pub stopped_at-requires : goal.stopped_at-requires
stopped_at-requires c =
    let a = c.args in
    let done = c.run_list-progress in
    place_word (clinic_of (contents_at a.file.now a.head)) (start (contents_at a.file.now a.head)) a.choices.now done.result done.ensures.0 c.requires.1

pub returns : goal.returns
returns c =
    let a = c.args in
    let done = c.run_list-progress in
    let put = c.put_state in
    let R = run (clinic_of (contents_at a.file.now a.head)) (start (contents_at a.file.now a.head)) a.choices.now in (
      stopped_by R done.result done.ensures.0 c.stopped_at.result c.stopped_at.ensures,
      put_by R done.result done.ensures.0 _ a.out.now put.new.out done.ensures.1 put.ensures,
    )
