use Rattle.format.specs.Contents.{contents_at}
use Rattle.steps.specs.Choice.{clinic_of}
use Rattle.choices.specs.Choices.{start, run}
use Rattle.running.proofs.EntryLaws.{place_word, stopped_by, pair_stopped, pair_found}
use Rattle.running.proofs.ready_in.Goals as goal

pub stopped_at-verdict-requires : goal.stopped_at-verdict-requires
stopped_at-verdict-requires c =
    let a = c.args in
    let done = c.run_by-progress in
    place_word (clinic_of (contents_at a.file.now a.head)) (start (contents_at a.file.now a.head)) a.choices.now done.result done.ensures.0.0 c.requires.1

pub returns-then-verdict-ne0 : goal.returns-then-verdict-ne0
returns-then-verdict-ne0 c =
    let a = c.args in
    let done = c.run_by-progress in
    let v = c.stopped_at-verdict in
    let R = run (clinic_of (contents_at a.file.now a.head)) (start (contents_at a.file.now a.head)) a.choices.now in
    pair_stopped R v.result (stopped_by R done.result done.ensures.0.0 v.result v.ensures) _ c.no_pair.result c.if-verdict-ne0.true c.no_pair.ensures

pub returns : goal.returns
returns c =
    let a = c.args in
    let done = c.run_by-progress in
    let v = c.stopped_at-verdict in
    let C = clinic_of (contents_at a.file.now a.head) in
    let R = run C (start (contents_at a.file.now a.head)) a.choices.now in
    pair_found R v.result (stopped_by R done.result done.ensures.0.0 v.result v.ensures) C _ c.ready_pair-pair.result c.if-verdict-ne0.false done.ensures.0.1 c.ready_pair-pair.ensures
