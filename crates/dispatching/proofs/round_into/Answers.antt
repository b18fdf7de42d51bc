use mathlib.Core.Path.{refl}
use mathlib.Core.List.{[]}
use native.Mathlib.Omega.{arith}
use lib.ListN.{replicate}
use Rattle.format.specs.Contents.{contents_at}
use Rattle.naming.specs.Scopes.{awaited_by}
use Rattle.steps.specs.Choice.{clinic_of}
use Rattle.steps.specs.Beside.{beside_words}
use Rattle.choices.specs.Choices.{start}
use Rattle.choices.proofs.TriedLaws.{gone_from}
use Rattle.running.proofs.EntryLaws.{stopped_by, put_by}
use Rattle.dispatching.specs.Dispatch.{both_by}
use Rattle.dispatching.proofs.EntryLaws.{both_fit, both_place, both_is, both_state, answer_is}
use Rattle.dispatching.proofs.round_into.Goals as goal

pub go_through-own-requires : goal.go_through-own-requires
go_through-own-requires c =
    let q = c.requires in
    let opened = c.open_run.ensures in
    (q.0, opened.3, opened.4, omega (arith, q.1), opened.1)

pub add_round-more-requires : goal.add_round-more-requires
add_round-more-requires c =
    let opened = c.open_run.ensures in
    (c.requires.0, opened.3, opened.4, c.go_through-own.ensures.3, refl)

pub overflow_add-both : goal.overflow_add-both
overflow_add-both c =
    let a = c.args in
    let F = contents_at a.file.now a.head in
    let opened = c.open_run.ensures in
    let went = c.go_through-own in
    let own = gone_from (awaited_by []) (clinic_of F) (start F) (replicate beside_words 0) a.choices.now _ _ _ _ went.result opened.0 opened.2 went.ensures in
    let more = c.add_round-more in
    let fit = both_fit F a.choices.now (record { count = went.result.count; refusal = went.result.refusal }) _ _ _ own more.result _ _ _ more.ensures c.requires.1 in
    omega (arith, fit)

pub put_state-requires : goal.put_state-requires
put_state-requires c =
    (c.add_round-more.ensures.sized, c.requires.2)

pub stopped_at-verdict-requires : goal.stopped_at-verdict-requires
stopped_at-verdict-requires c =
    let a = c.args in
    let F = contents_at a.file.now a.head in
    let opened = c.open_run.ensures in
    let went = c.go_through-own in
    let own = gone_from (awaited_by []) (clinic_of F) (start F) (replicate beside_words 0) a.choices.now _ _ _ _ went.result opened.0 opened.2 went.ensures in
    let more = c.add_round-more in
    both_place F a.choices.now (record { count = went.result.count; refusal = went.result.refusal }) _ _ _ own more.result _ _ _ more.ensures c.requires.1

pub returns : goal.returns
returns c =
    let a = c.args in
    let F = contents_at a.file.now a.head in
    let opened = c.open_run.ensures in
    let went = c.go_through-own in
    let own = gone_from (awaited_by []) (clinic_of F) (start F) (replicate beside_words 0) a.choices.now _ _ _ _ went.result opened.0 opened.2 went.ensures in
    let more = c.add_round-more in
    let B = both_by F a.choices.now in
    let is = both_is F a.choices.now (record { count = went.result.count; refusal = went.result.refusal }) _ _ _ own more.result _ _ _ more.ensures in (
      answer_is F a.choices.now (record { count = went.result.count; refusal = went.result.refusal }) _ _ _ own more.result _ _ _ more.ensures c.stopped_at-verdict.result c.output_length.result
          (stopped_by B _ is c.stopped_at-verdict.result c.stopped_at-verdict.ensures) c.output_length.ensures,
      put_by B _ is _ a.out.now _ (both_state F a.choices.now (record { count = went.result.count; refusal = went.result.refusal }) _ _ _ own more.result _ _ _ more.ensures) c.put_state.ensures,
    )
