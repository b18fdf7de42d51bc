use Prim.Native.Nat.{◌+◌}
use mathlib.Core.Path.{sym, ◌∙◌}
use native.Mathlib.Omega.{arith}
use Rattle.certifying.proofs.ExploreLaws.{partner_fails, partner_passes, partners_end}
use Rattle.certifying.proofs.explore.try_partners.Goals as goal

pub returns-in_err-on : goal.returns-in_err-on
returns-in_err-on c =
    let l = c.loop-p in
    let t = c.try_choice in
    rw c.from_residual.ensures (record {
      answered = partner_fails _ _ _ l.p (c.args.count + 1) l.on (omega arith) t.result t.ensures.answered c.in_err-on.was ∙ sym l.invariant.1;
      trying = t.ensures.trying;
    })

pub loop-p-preserved : goal.loop-p-preserved
loop-p-preserved c =
    let l = c.loop-p in
    let t = c.try_choice in
    (t.ensures.trying, l.invariant.1 ∙ partner_passes _ _ _ l.p (c.args.count + 1) l.on (omega arith) t.result _ t.ensures.answered c.in_ok-on.was)

pub returns-in_ok-on : goal.returns-in_ok-on
returns-in_ok-on c =
    let l = c.loop-p in
    let t = c.try_choice in
    record {
      answered = partners_end _ _ _ (l.p + 1) (c.args.count + 1) _ (omega arith) ∙ sym (l.invariant.1 ∙ partner_passes _ _ _ l.p (c.args.count + 1) l.on (omega arith) t.result _ t.ensures.answered c.in_ok-on.was);
      trying = t.ensures.trying;
    }
