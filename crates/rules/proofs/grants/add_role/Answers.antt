use mathlib.Core.Path.{sym, ap, ◌∙◌}
use Prim.Native.Nat.{ℕ}
use native.Mathlib.Omega.{arith}
use lib.ListN.{get_or, length-set}
use Rattle.rules.specs.Kept.{joined}
use Rattle.rules.proofs.GrantLaws.{add_next, add_done}
use Rattle.rules.proofs.grants.add_role.Goals as goal

pub loop-k-preserved : goal.loop-k-preserved
loop-k-preserved c =
    let a = c.args in
    let l = c.loop-k in
    let here = c.narrow.ensures in
    let s = c.joined.ensures ∙ ap (λ (k : ℕ). joined a.it.sends a.juniors a.role.0 k (get_or l.sends l.k 0)) here in
    let r = c.joined-in-loop-k.ensures ∙ ap (λ (k : ℕ). joined a.it.receives a.juniors a.role.0 k (get_or l.receives l.k 0)) here in (
      simp length-set l.invariant.0,
      simp length-set l.invariant.1,
      add_next a.it.sends a.juniors a.role.0 l.sends l.k c.joined.result (omega arith) s ∙ l.invariant.2,
      add_next a.it.receives a.juniors a.role.0 l.receives l.k c.joined-in-loop-k.result (omega arith) r ∙ l.invariant.3,
    )

pub returns : goal.returns
returns c =
    let a = c.args in
    let l = c.loop-k in (
      sym (add_done a.it.sends a.juniors a.role.0 l.sends l.k (omega arith)) ∙ l.invariant.2,
      sym (add_done a.it.receives a.juniors a.role.0 l.receives l.k (omega arith)) ∙ l.invariant.3,
    )
