use Prim.Native.Nat.{◌+◌, ◌/◌}
use mathlib.Core.Path.{ap, ap₂, ◌∙◌}
use mathlib.Core.Bool.{Bool, cond, not, ◌&&◌}
use lib.Dec.{eqb, leb, ltb}
use Rattle.trees.specs.Shape.{binds, used}
use Rattle.trees.proofs.SumLaws.{sum_exact}
use Rattle.trees.proofs.sound.goes_on.Goals as goal

pub returns : goal.returns
returns c =
    let n = c.args.n in
    let bound = c.args.bound in
    let k = c.used_by-k.ensures in
    let first = c.left_over-first.ensures.0 ∙ ap (λ x. cond (ltb 0 x) 0 n.f1) k in
    let second = c.left_over-second.ensures.0 ∙ ap (λ x. cond (ltb 1 x) 0 n.f2) k in
    let full = c.left_over-full.ensures.0 ∙ ap (λ (b : Bool). cond (not b) 0 (bound / 8)) c.binds_one.ensures in
    ap (λ x. leb n.tag 8 && eqb x 0) (ap₂ ◌+◌ (ap₂ ◌+◌ first second) full)
    ∙ sum_exact (leb n.tag 8) (ltb 0 (used n.tag)) (ltb 1 (used n.tag)) (binds n.tag) n.f1 n.f2 bound
