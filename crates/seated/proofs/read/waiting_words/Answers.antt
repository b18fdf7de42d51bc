use Prim.Native.Nat.{ℕ, ◌+◌, ◌*◌, ◌-◌}
use mathlib.Core.List.{[]}
use mathlib.Core.Path.{◌≡◌, refl, ap, ◌∙◌}
use native.Mathlib.Omega.{arith}
use lib.ListN.{get_or, length-set}
use Rattle.seated.proofs.ReadLaws.{filled_none, filled_more, filled_all}
use Rattle.seated.proofs.read.waiting_words.Goals as goal

pub loop-k-init : goal.loop-k-init
loop-k-init c = (refl, filled_none (λ role. get_or c.args.lines.now (33 * (role - 1)) 0) 1 [])

pub loop-k-preserved : goal.loop-k-preserved
loop-k-preserved c =
    let same : c.loop-k.k ≡ 1 + c.loop-k.k - 1 = omega arith in
    let l = c.loop-k in
    (length-set l.all l.k _ ∙ l.invariant.0, filled_more (λ role. get_or c.args.lines.now (33 * (role - 1)) 0) 1 l.all l.k _ (omega (arith, l.invariant.0)) (ap (λ (x : ℕ). get_or c.args.lines.now (33 * x) 0) same) l.invariant.1)

pub returns : goal.returns
returns c =
    let l = c.loop-k in
    filled_all (λ role. get_or c.args.lines.now (33 * (role - 1)) 0) 1 l.all l.k 16 l.invariant.0 (omega arith) l.invariant.1
