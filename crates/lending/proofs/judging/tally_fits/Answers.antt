use Prim.Native.Nat.{ℕ}
use mathlib.Core.Path.{◌≡◌, refl, sym, ap, ◌∙◌}
use mathlib.Core.Bool.{◌&&◌}
use mathlib.Core.List.{List}
use native.Mathlib.Omega.{arith}
use lib.ListN.{length, drop, length-drop}
use lib.Seq.{length-take-le}
use Rattle.lending.specs.Lent.{same}
use Rattle.lending.proofs.TotalsLaws.{same_step, same_end}
use Rattle.lending.proofs.judging.tally_fits.Goals as goal

pub loop-k-init : goal.loop-k-init
loop-k-init c =
    let b = c.args.beside.now in
    let long : length c.totals_of-lent.result ≡ 32 = ap length c.totals_of-lent.ensures ∙ length-take-le 32 (drop 130 b) (omega (arith, length-drop 130 b, c.requires.0)) in
    (long, c.requires.1, refl)

pub loop-k-preserved : goal.loop-k-preserved
loop-k-preserved c =
    let l = c.loop-k in
    (l.invariant.0, l.invariant.1, same_step _ _ l.alike l.k (omega (arith, l.invariant.0, c.loop-k-test.true)) (l.invariant.0 ∙ sym l.invariant.1) ∙ l.invariant.2)

pub returns : goal.returns
returns c =
    let l = c.loop-k in
    let a = c.args in
    same_end _ _ l.alike l.k (omega (arith, l.invariant.0, c.loop-k-test.false)) (omega (arith, l.invariant.1, c.loop-k-test.false)) ∙ l.invariant.2
    ∙ ap (λ (x : List ℕ). a.it.fits && same x a.it.totals) c.totals_of-lent.ensures
