use Prim.Native.Nat.{ℕ, ◌+◌, ◌-◌}
use mathlib.Core.Path.{◌≡◌, ap, ◌∙◌}
use native.Mathlib.Omega.{arith}
use lib.ListN.{length}
use Rattle.format.specs.Contents.{contents_at}
use Rattle.seats.specs.Seats.{limited_of, seated_start, overfills}
use Rattle.seated.proofs.StartLaws.{over_none, over_next}
use Rattle.seated.proofs.start.overfill.Goals as goal

pub loop-r-init : goal.loop-r-init
loop-r-init c = let a = c.args in (omega arith, over_none (limited_of (contents_at a.file.now a.head) a.seats.now) (seated_start (contents_at a.file.now a.head)) a.k)

pub loop-r-preserved : goal.loop-r-preserved
loop-r-preserved c =
    let a = c.args in
    let l = c.loop-r in
    let back : l.r ≡ l.r + 1 - 1 = omega arith in (
      omega arith,
      over_next (limited_of (contents_at a.file.now a.head) a.seats.now) (seated_start (contents_at a.file.now a.head)) a.k c.seats_of.result l.r l.over c.is_over-over.result (omega arith) l.invariant.1 c.seats_of.ensures c.is_over-over.ensures
          ∙ ap (λ (x : ℕ). overfills (limited_of (contents_at a.file.now a.head) a.seats.now) (seated_start (contents_at a.file.now a.head)) x a.k) back,
    )

pub returns : goal.returns
returns c =
    let a = c.args in
    let l = c.loop-r in
    let none : l.r - 1 ≡ length a.seats.now = omega (arith, c.narrow-r-end.ensures, l.invariant.0) in
    l.invariant.1 ∙ ap (λ (x : ℕ). overfills (limited_of (contents_at a.file.now a.head) a.seats.now) (seated_start (contents_at a.file.now a.head)) x a.k) none

pub returns-2 : goal.returns-2
returns-2 c =
    let a = c.args in
    let l = c.loop-r in
    let last : l.r ≡ length a.seats.now = omega (arith, c.narrow-r-end.ensures) in
    over_next (limited_of (contents_at a.file.now a.head) a.seats.now) (seated_start (contents_at a.file.now a.head)) a.k c.seats_of.result l.r l.over c.is_over-over.result (omega arith) l.invariant.1 c.seats_of.ensures c.is_over-over.ensures
    ∙ ap (λ (x : ℕ). overfills (limited_of (contents_at a.file.now a.head) a.seats.now) (seated_start (contents_at a.file.now a.head)) x a.k) last
