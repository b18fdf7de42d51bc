use Prim.Native.Nat.{suc, ◌-◌}
use mathlib.Core.Path.{sym, ap, ◌∙◌}
use native.Mathlib.Omega.{arith}
use lib.ListN.{length}
use Rattle.format.specs.Contents.{contents_at}
use Rattle.seats.specs.Seats.{limited_of}
use Rattle.seating.specs.SeatedRound.{seated_round_of}
use Rattle.seated.specs.SeatedTables.{seated_in}
use Rattle.seated_rounds.proofs.SeatedRoundLaws.{Left, left_begin, length_left, room_for, left_more, left_less, left_ends}
use borrow.Author.Rules.{rules}
use Rattle.seated_rounds.proofs.visits.go_round_seated.Goals as goal

pub loop-i-init : goal.loop-i-init
loop-i-init c =
    let a = c.args in
    let q = c.requires in
    left_begin (limited_of (contents_at a.file.now a.head) a.seats.now) a.threads.now a.beside.now a.owners.now a.lines.now a.words.now c.thread_count-there.result q.4 q.5 c.thread_count-there.ensures

pub visit_seated-seen-requires : goal.visit_seated-seen-requires
visit_seated-seen-requires c =
    let q = c.requires in
    let l = c.loop-i in
    (q.0, q.1, q.2, q.3, l.invariant.kept, l.invariant.pos, c.loop-i-test.true, l.invariant.few)

pub put_choice-n-requires : goal.put_choice-n-requires
put_choice-n-requires c = room_for _ _ _ _ _ _ _ _ _ _ _ c.loop-i.invariant c.loop-i-test.true

pub loop-i-smaller : goal.loop-i-smaller
loop-i-smaller c = left_less _ _ _ _ _ _ _ _ _ _ _ c.loop-i.invariant c.visit_seated-seen.result _ _ _ _ c.loop-i-test.true c.visit_seated-seen.ensures

pub loop-i-preserved : goal.loop-i-preserved
loop-i-preserved c = left_more _ _ _ _ _ _ _ _ _ _ _ c.loop-i.invariant c.visit_seated-seen.result _ _ _ _ _ c.put_choice-n.result c.loop-i-test.true c.visit_seated-seen.ensures c.put_choice-n.ensures.0 c.put_choice-n.ensures.1

pub narrow-requires : goal.narrow-requires
narrow-requires c = omega (arith, c.loop-i.invariant.room)

pub shape_of-threads : goal.shape_of-threads
shape_of-threads c = c.loop-i.invariant.kept.sized.words ∙ sym c.requires.4.sized.words

pub shape_of-beside : goal.shape_of-beside
shape_of-beside c = c.loop-i.invariant.kept.sized.beside ∙ sym c.requires.4.sized.beside

pub shape_of-owners : goal.shape_of-owners
shape_of-owners c = c.loop-i.invariant.kept.owners ∙ sym c.requires.4.owners

pub shape_of-lines : goal.shape_of-lines
shape_of-lines c = c.loop-i.invariant.kept.rows.words ∙ sym c.requires.4.rows.words

pub shape_of-words : goal.shape_of-words
shape_of-words c = length_left _ _ _ _ _ _ _ _ _ _ _ c.loop-i.invariant ∙ sym (ap length c.requires.5)

pub returns : goal.returns
returns c = left_ends _ _ _ _ _ _ _ _ _ _ _ c.loop-i.invariant c.narrow.result c.loop-i-test.false c.narrow.ensures
