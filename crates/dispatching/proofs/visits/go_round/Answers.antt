use mathlib.Core.Path.{sym, ap, ◌∙◌}
use native.Mathlib.Omega.{arith}
use lib.ListN.{length}
use Rattle.format.specs.Contents.{contents_at}
use Rattle.steps.specs.Choice.{clinic_of}
use Rattle.dispatching.proofs.RoundLaws.{left_begin, length_left, room_for, left_more, left_less, left_ends}
use Rattle.dispatching.proofs.visits.go_round.Goals as goal

pub loop-i-init : goal.loop-i-init
loop-i-init c =
    let a = c.args in
    let q = c.requires in
    left_begin (clinic_of (contents_at a.file.now a.head)) a.threads.now a.beside.now a.words.now c.thread_count-there.result q.3 q.4 c.thread_count-there.ensures

pub visit-seen-requires : goal.visit-seen-requires
visit-seen-requires c =
    let q = c.requires in
    let l = c.loop-i in
    (q.0, q.1, q.2, l.invariant.sized, l.invariant.pos, c.loop-i-test.true, l.invariant.few)

pub put_choice-n-requires : goal.put_choice-n-requires
put_choice-n-requires c =
    let l = c.loop-i in
    room_for _ _ _ _ _ _ _ _ _ l.invariant c.loop-i-test.true

pub loop-i-smaller : goal.loop-i-smaller
loop-i-smaller c =
    let l = c.loop-i in
    let v = c.visit-seen in
    left_less _ _ _ _ _ _ _ _ _ l.invariant v.result _ _ c.loop-i-test.true v.ensures

pub loop-i-preserved : goal.loop-i-preserved
loop-i-preserved c =
    let l = c.loop-i in
    let v = c.visit-seen in
    let p = c.put_choice-n in
    left_more _ _ _ _ _ _ _ _ _ l.invariant v.result _ _ _ p.result c.loop-i-test.true v.ensures p.ensures.0 p.ensures.1

pub narrow-requires : goal.narrow-requires
narrow-requires c = let l = c.loop-i in omega (arith, l.invariant.room)

pub shape_of-words : goal.shape_of-words
shape_of-words c = length_left _ _ _ _ _ _ _ _ _ c.loop-i.invariant ∙ sym (ap length c.requires.4)

pub returns : goal.returns
returns c =
    let l = c.loop-i in
    left_ends _ _ _ _ _ _ _ _ _ l.invariant c.narrow.result c.loop-i-test.false c.narrow.ensures
