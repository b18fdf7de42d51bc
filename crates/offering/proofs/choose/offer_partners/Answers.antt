use Prim.Native.Nat.{◌+◌}
use lib.ListN.{length}
use Rattle.format.specs.Contents.{contents_at}
use Rattle.seats.specs.Seats.{limited_of}
use Rattle.rows.specs.Rows.{seated_at}
use Rattle.offering.proofs.OfferLaws.{partners_turn, partners_end}
use native.Mathlib.Omega.{arith}
use Rattle.offering.proofs.choose.offer_partners.Goals as goal

pub loop-p-preserved : goal.loop-p-preserved
loop-p-preserved c =
    let a = c.args in
    let l = c.loop-p in
    let e = c.offer_choice-on.ensures in (
      e.1,
      omega (arith, e.2.few, l.invariant.1),
      omega (arith, e.2.short, l.invariant.2),
      e.2.within,
      partners_turn (length a.seats.now) (limited_of (contents_at a.file.now a.head) a.seats.now) (seated_at (length a.seats.now) a.state.now 0) a.i l.p a.count _ _ _ (omega arith) e.0 l.invariant.4,
    )

pub returns-2 : goal.returns-2
returns-2 c =
    let a = c.args in
    let q = c.requires in
    let l = c.loop-p in
    let e = c.offer_choice-on.ensures in
    let L = limited_of (contents_at a.file.now a.head) a.seats.now in
    let S = seated_at (length a.seats.now) a.state.now 0 in
    let last = partners_turn (length a.seats.now) L S a.i l.p a.count _ _ _ (omega arith) e.0 l.invariant.4 in (
      partners_end (length a.seats.now) L S a.i (l.p + 1) a.count _ _ (omega arith) last,
      e.1,
      record { few = omega (arith, e.2.few, l.invariant.1, q.8); short = omega (arith, e.2.short, l.invariant.2, q.8); within = e.2.within },
    )
