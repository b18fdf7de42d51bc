use Prim.Native.Nat.{◌+◌}
use mathlib.Core.Path.{◌≡◌, refl}
use native.Mathlib.Omega.{arith}
use Rattle.seated.proofs.StartLaws.{numbered_none, numbered_more, kept_more, numbered_all}
use Rattle.seated.proofs.start.number_owners.Goals as goal

pub loop-k-init : goal.loop-k-init
loop-k-init c = (numbered_none c.args.owners.now, refl)

pub loop-k-preserved : goal.loop-k-preserved
loop-k-preserved c =
    let l = c.loop-k in
    let at : c.from.result ≡ l.k = c.from.ensures in
    rw at (numbered_more l.owners l.k (l.k + 1) (omega (arith, c.requires.0)) refl l.invariant.0, kept_more l.owners _ l.k (l.k + 1) l.invariant.1)

pub returns : goal.returns
returns c =
    let a = c.args in
    let l = c.loop-k in
    let all : a.n ≡ l.k = omega arith in
    numbered_all l.owners a.owners.now a.n l.k all l.invariant.0 l.invariant.1
