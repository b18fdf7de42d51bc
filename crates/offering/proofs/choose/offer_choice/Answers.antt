use Rattle.format.specs.Contents.{contents_at}
use Rattle.naming.specs.Scopes.{awaited_by}
use Rattle.seats.specs.Seats.{limited_of}
use lib.ListN.{length}
use Rattle.offering.specs.Offers.{output_of}
use Rattle.offering.proofs.OfferLaws.{put_full, choice_none, choice_done, held_again}
use native.Mathlib.Omega.{arith}
use Rattle.offering.proofs.choose.offer_choice.Goals as goal

pub returns-then-noted : goal.returns-then-noted
returns-then-noted c =
    let a = c.args in
    let q = c.requires in
    (put_full (length a.seats.now) (output_of a.noted a.out.now) _ c.if-noted.true, q.5, record { few = omega arith; short = omega arith; within = q.7 })

pub go_seated-went-requires : goal.go_seated-went-requires
go_seated-went-requires c = let q = c.requires in (q.0, q.1, q.2, q.3, omega arith, q.5.seated)

pub returns-then-went-eq0 : goal.returns-then-went-eq0
returns-then-went-eq0 c =
    let a = c.args in
    let q = c.requires in
    let none = choice_none (awaited_by a.table.now) (limited_of (contents_at a.file.now a.head) a.seats.now) (length a.seats.now) a.state.now a.i a.p
    a.threads.now a.beside.now a.owners.now a.lines.now q.5 c.go_seated-went.result _ _ _ _ c.go_seated-went.ensures (output_of a.noted a.out.now) c.if-went-eq0.true in
    (none.0, none.1, record { few = omega arith; short = omega arith; within = q.7 })

pub put_offer-on-requires : goal.put_offer-on-requires
put_offer-on-requires c =
    let q = c.requires in
    let Z = c.go_seated-went.ensures.kept in
    (q.6, q.7, q.3, Z.sized, Z.owners, Z.rows)

pub load_row-requires : goal.load_row-requires
load_row-requires c =
    let q = c.requires in
    let Z = c.go_seated-went.ensures.kept in
    (omega arith, q.3, q.4, Z.sized.words, Z.sized.beside, Z.owners, Z.rows.words)

pub shape_of-threads : goal.shape_of-threads
shape_of-threads c = omega (arith, c.load_row.ensures.sized.words, c.requires.5.seated.sized.words)

pub returns : goal.returns
returns c =
    let a = c.args in
    let q = c.requires in
    let L = limited_of (contents_at a.file.now a.head) a.seats.now in
    let done = choice_done (awaited_by a.table.now) L (length a.seats.now) a.state.now a.i a.p
    a.threads.now a.beside.now a.owners.now a.lines.now q.5 c.go_seated-went.result _ _ _ _ c.go_seated-went.ensures (output_of a.noted a.out.now) c.if-went-eq0.false c.if-noted.false _ c.put_offer-on.ensures.0 in
    (done, held_again L (length a.seats.now) a.state.now a.threads.now a.beside.now a.owners.now a.lines.now _ _ _ _ q.5 c.load_row.ensures, c.put_offer-on.ensures.1)
