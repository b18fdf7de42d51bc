use Prim.Native.Nat.{◌+◌, ◌-◌}
use mathlib.Core.Path.{◌≡◌, sym, ap, ◌∙◌}
use native.Mathlib.Omega.{arith}
use lib.ListN.{length}
use Rattle.format.specs.Contents.{contents_at}
use Rattle.format.proofs.ContentsLaws.{sessions_held}
use Rattle.seats.specs.Seats.{limited_of, seated_start, overfills, lowest_to}
use Rattle.seated.proofs.StartLaws.{lowest_none, lowest_not, lowest_here}
use Rattle.seated.proofs.start.overfilled_at.Goals as goal

pub loop-k-init : goal.loop-k-init
loop-k-init c = (omega arith, lowest_none _)

pub loop-k-preserved : goal.loop-k-preserved
loop-k-preserved c =
    let a = c.args in
    let l = c.loop-k in
    let back : l.k + 1 - 1 ≡ l.k = omega arith in
    let q = overfills (limited_of (contents_at a.file.now a.head) a.seats.now) (seated_start (contents_at a.file.now a.head)) (length a.seats.now) in
    (omega arith, ap (lowest_to q) back ∙ lowest_not q l.k (omega arith) l.invariant.1 (sym c.overfill.ensures ∙ c.if-overfill.false))

pub returns : goal.returns
returns c =
    let a = c.args in
    let l = c.loop-k in
    let none : length (contents_at a.file.now a.head).sessions ≡ l.k - 1 = omega (arith, sessions_held a.file.now a.head, l.invariant.0) in
    sym (ap (lowest_to (overfills (limited_of (contents_at a.file.now a.head) a.seats.now) (seated_start (contents_at a.file.now a.head)) (length a.seats.now))) none ∙ l.invariant.1)

pub returns-then-overfill : goal.returns-then-overfill
returns-then-overfill c =
    let a = c.args in
    let l = c.loop-k in
    lowest_here _ l.k _ (omega arith) (omega (arith, sessions_held a.file.now a.head)) l.invariant.1 (sym c.overfill.ensures ∙ c.if-overfill.true)

pub returns-else-overfill : goal.returns-else-overfill
returns-else-overfill c =
    let a = c.args in
    let l = c.loop-k in
    let last : length (contents_at a.file.now a.head).sessions ≡ l.k = omega (arith, sessions_held a.file.now a.head) in
    let q = overfills (limited_of (contents_at a.file.now a.head) a.seats.now) (seated_start (contents_at a.file.now a.head)) (length a.seats.now) in
    sym (ap (lowest_to q) last ∙ lowest_not q l.k (omega arith) l.invariant.1 (sym c.overfill.ensures ∙ c.if-overfill.false))
