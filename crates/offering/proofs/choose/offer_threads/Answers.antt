use Prim.Native.Nat.{◌+◌}
use lib.ListN.{length}
use Rattle.format.specs.Contents.{contents_at}
use Rattle.seats.specs.Seats.{limited_of}
use Rattle.rows.specs.Rows.{seated_at}
use Rattle.offering.proofs.OfferLaws.{threads_turn, threads_end}
use native.Mathlib.Omega.{arith}
use Rattle.offering.proofs.choose.offer_threads.Goals as goal

pub loop-i-preserved : goal.loop-i-preserved
loop-i-preserved c =
    let a = c.args in
    let l = c.loop-i in
    let e = c.offer_partners-on.ensures in (
      omega arith,
      l.invariant.1,
      l.invariant.2,
      e.1,
      omega (arith, e.2.few, l.invariant.4),
      omega (arith, e.2.short, l.invariant.5),
      e.2.within,
      threads_turn (length a.seats.now) (limited_of (contents_at a.file.now a.head) a.seats.now) (seated_at (length a.seats.now) a.state.now 0) l.i c.thread_count-count.result _ _ _ (omega arith) l.invariant.2 e.0 l.invariant.7,
    )

pub returns : goal.returns
returns c =
    let a = c.args in
    let l = c.loop-i in (
      threads_end (length a.seats.now) (limited_of (contents_at a.file.now a.head) a.seats.now) (seated_at (length a.seats.now) a.state.now 0) l.i c.thread_count-count.result _ _ (omega arith) l.invariant.7,
      omega (arith, l.invariant.5, l.invariant.1, l.invariant.0),
    )

pub returns-2 : goal.returns-2
returns-2 c =
    let a = c.args in
    let l = c.loop-i in
    let e = c.offer_partners-on.ensures in
    let L = limited_of (contents_at a.file.now a.head) a.seats.now in
    let S = seated_at (length a.seats.now) a.state.now 0 in
    let last = threads_turn (length a.seats.now) L S l.i c.thread_count-count.result _ _ _ (omega arith) l.invariant.2 e.0 l.invariant.7 in (
      threads_end (length a.seats.now) L S (l.i + 1) c.thread_count-count.result _ _ (omega arith) last,
      omega (arith, e.2.short, l.invariant.5, l.invariant.1),
    )
