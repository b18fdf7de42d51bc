use mathlib.Core.Path.{◌≡◌, refl, ap, sym, ◌∙◌}
use mathlib.Core.Bool.{Bool, cond, ◌&&◌}
use native.Mathlib.Omega.{arith}
use lib.Dec.{eqb}
use lib.ListN.{get_or, length-set}
use Rattle.steps.proofs.ThreadLaws.{pass_more}
use Rattle.steps.proofs.Thread.bound.Goals as goal
use Rattle.steps.proofs.Thread.bound.Goals.{then-free, else-free}

pub loop-k-preserved : goal.loop-k-preserved
loop-k-preserved c =
    let a = c.args in
    let l = c.loop-k in
    let v = get_or l.self.vars l.k 0 in
    let free : Bool = l.«open» && eqb v 0 in
    let chosen : c.if-free.self ≡ cond free a.given v =
    elim c.if-free.branch [ then-free w ↦ w.self-is ∙ sym (ap (λ (b : Bool). cond b a.given v) w.if-free.true) | else-free w ↦ w.self-is ∙ sym (ap (λ (b : Bool). cond b a.given v) w.if-free.false) ] in (
      l.invariant.0,
      length-set l.self.vars l.k c.if-free.self ∙ l.invariant.1,
      pass_more a.self.vars a.given l.k l.«open» free l.self.vars c.if-free.self (omega (arith, l.invariant.0)) refl chosen l.invariant.2,
      l.invariant.3,
      l.invariant.4,
      l.invariant.5,
    )
