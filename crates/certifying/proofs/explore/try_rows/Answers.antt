use Prim.Native.Nat.{ℕ, ◌≤◌, ◌<◌}
use mathlib.Core.Path.{sym, ap, ◌∙◌}
use lib.ListN.{length}
use Rattle.format.specs.Contents.{contents_at}
use Rattle.format.proofs.ContentsLaws.{sessions_held}
use Rattle.rows.specs.Rows.{seated_at}
use Rattle.certifying.specs.Certificate.{row_tried}
use Rattle.certifying.specs.Kept.{certificate_at}
use Rattle.certifying.proofs.ExploreLaws.{row_fails, row_passes, row_unknown, rows_end}
use Rattle.certifying.proofs.KnownLaws.{rows-known, row_grows}
use native.Mathlib.Omega.{arith}
use Rattle.certifying.proofs.explore.try_rows.Goals as goal

pub returns-in-None : goal.returns-in-None
returns-in-None c =
    let a = c.args in
    let l = c.loop-j in
    let t = c.try_threads-trial in (
      c.index_after-j.ensures ∙ row_fails (certificate_at a.file.now a.head a.seats.now a.states.now a.places.now a.next.now) l.j (length a.places.now) l.on (omega (arith, c.loop-j-test.true, l.invariant.5.within)) (omega (arith, c.loop-j-test.true)) t.result
          (t.ensures.answered ∙ ap (λ (x : ℕ). row_tried (certificate_at a.file.now a.head a.seats.now a.states.now a.places.now a.next.now) (seated_at (length a.seats.now) a.states.now x) l.on) c.number_at-at.ensures.0) c.in-None.is ∙ sym l.invariant.6,
      omega (arith, c.index_after-j.ensures, c.loop-j-test.true, l.invariant.5.within, c.requires.5),
    )

pub loop-j-preserved : goal.loop-j-preserved
loop-j-preserved c =
    let a = c.args in
    let l = c.loop-j in
    let t = c.try_threads-trial in
    let Z = t.ensures.trying.seated in
    let low : l.j < l.on.known = omega (arith, c.loop-j-test.true) in
    let tried = t.ensures.answered ∙ ap (λ (x : ℕ). row_tried (certificate_at a.file.now a.head a.seats.now a.states.now a.places.now a.next.now) (seated_at (length a.seats.now) a.states.now x) l.on) c.number_at-at.ensures.0 in
    let passed = sym tried ∙ c.in-Some.is in
    let sessions : length (contents_at a.file.now a.head).sessions ≤ 32 = omega (arith, sessions_held a.file.now a.head, c.requires.0.laid.sessions) in (
      omega (arith, c.index_after-j.ensures, c.loop-j-test.true, row_grows (certificate_at a.file.now a.head a.seats.now a.states.now a.places.now a.next.now) _ l.on _ passed),
      Z.sized.words,
      Z.sized.beside,
      Z.owners,
      Z.rows.words,
      rows-known (contents_at a.file.now a.head) a.seats.now a.states.now a.places.now a.next.now sessions l.on _ l.j l.invariant.5 low passed,
      l.invariant.6 ∙ row_passes (certificate_at a.file.now a.head a.seats.now a.states.now a.places.now a.next.now) l.j (length a.places.now) l.on (omega (arith, c.loop-j-test.true, l.invariant.5.within)) low t.result _ tried c.in-Some.is c.index_after-j.result c.index_after-j.ensures,
    )

pub returns-then-j-places : goal.returns-then-j-places
returns-then-j-places c =
    let a = c.args in
    let l = c.loop-j in (
      row_unknown (certificate_at a.file.now a.head a.seats.now a.states.now a.places.now a.next.now) l.j (length a.places.now) l.on (omega (arith, c.if-j-places.true)) (omega (arith, c.loop-j-test.false)) l.invariant.0 ∙ sym l.invariant.6,
      omega (arith, c.if-j-places.true, c.requires.5),
    )

pub returns : goal.returns
returns c =
    let a = c.args in
    let l = c.loop-j in
    (rows_end (certificate_at a.file.now a.head a.seats.now a.states.now a.places.now a.next.now) l.j (length a.places.now) l.on (omega (arith, c.if-j-places.false)) ∙ sym l.invariant.6, omega arith)
