use Prim.Native.Nat.{ℕ, ◌+◌}
use mathlib.Core.Path.{ap}
use Rattle.notices.proofs.NoticeLaws.{of_first, of_second}
use Rattle.notices.proofs.in_force.Goals as goal

pub slice_bounds-result-end : goal.slice_bounds-result-end
slice_bounds-result-end c =
    let a = c.args in
    let p = c.plan_in_force-plan in
    let x = c.from-at in
    let y = c.from in
    (of_second a.first.now a.second.now a.day p.result p.ensures x.result (x.result + y.result)
    x.ensures (ap (λ (l : ℕ). x.result + l) y.ensures) a.first.ref_ptr a.second.ref_ptr c.if-plan-eq2.true).0

pub returns-then-plan-eq2 : goal.returns-then-plan-eq2
returns-then-plan-eq2 c =
    let a = c.args in
    let p = c.plan_in_force-plan in
    let x = c.from-at in
    let y = c.from in
    (of_second a.first.now a.second.now a.day p.result p.ensures x.result (x.result + y.result)
    x.ensures (ap (λ (l : ℕ). x.result + l) y.ensures) a.first.ref_ptr a.second.ref_ptr c.if-plan-eq2.true).1

pub slice_bounds-result-end-2 : goal.slice_bounds-result-end-2
slice_bounds-result-end-2 c =
    let a = c.args in
    let p = c.plan_in_force-plan in
    let x = c.from-at in
    let y = c.from in
    (of_first a.first.now a.second.now a.day p.result p.ensures x.result (x.result + y.result)
    x.ensures (ap (λ (l : ℕ). x.result + l) y.ensures) a.first.ref_ptr a.second.ref_ptr c.if-plan-eq2.false).0

pub returns : goal.returns
returns c =
    let a = c.args in
    let p = c.plan_in_force-plan in
    let x = c.from-at in
    let y = c.from in
    (of_first a.first.now a.second.now a.day p.result p.ensures x.result (x.result + y.result)
    x.ensures (ap (λ (l : ℕ). x.result + l) y.ensures) a.first.ref_ptr a.second.ref_ptr c.if-plan-eq2.false).1
