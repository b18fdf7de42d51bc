use Prim.Native.Nat.{◌+◌, ◌-◌}
use mathlib.Core.Path.{◌≡◌, ap, ◌∙◌}
use native.Mathlib.Omega.{arith}
use lib.ListN.{drop}
use lib.Seq.{paste-zero}
use Rattle.steps.proofs.TableLaws.{down, down_more}
use Rattle.seated.proofs.choice.move_down.Goals as goal

pub loop-k-init : goal.loop-k-init
loop-k-init c =
    let a = c.args in
    let l = a.owners.now in
    let none : 0 ≡ a.at - a.at = omega arith in
    (omega arith, paste-zero l a.at (drop (a.at + 1) l) ∙ ap (down l a.at 1) none)

pub loop-k-preserved : goal.loop-k-preserved
loop-k-preserved c =
    let a = c.args in
    let l = c.loop-k in
    (omega arith, down_more a.owners.now l.owners a.at 1 l.k 0 l.invariant.0 (omega arith) l.invariant.1)

pub returns : goal.returns
returns c =
    let a = c.args in
    let l = c.loop-k in
    let all : l.k - a.at ≡ a.count - 1 - a.at = omega arith in
    l.invariant.1 ∙ ap (down a.owners.now a.at 1) all
