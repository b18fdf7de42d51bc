use Prim.Native.Nat.{◌+◌}
use mathlib.Core.Path.{◌≡◌, refl, sym, ap, ◌∙◌}
use mathlib.Core.Bool.{Bool, cond, not}
use native.Mathlib.Omega.{arith}
use lib.ListN.{get_or, length-set}
use borrow.Author.Tests.{eq-eqb, ne_eqb}
use Rattle.states.specs.States.{up}
use Rattle.states.specs.Kept.{worth_at}
use Rattle.states.proofs.LaneLaws.{fill_more, lane_test}
use Rattle.states.proofs.costs.worths.Goals as goal
use Rattle.states.proofs.costs.worths.Goals.{then-roles-bits-ne0, else-roles-bits-ne0}

pub loop-q-init : goal.loop-q-init
unfolding up
loop-q-init c = (refl, refl)

pub loop-q-preserved : goal.loop-q-preserved
loop-q-preserved c =
    let l = c.loop-q in
    let a = c.args in
    let worth = λ (t : Bool). cond t (get_or a.saving.now l.q 0 + a.more) 0 in
    let test = lane_test a.bits.now c.requires.2 a.roles l.q (omega arith) in
    let is : c.if-roles-bits-ne0.us ≡ worth_at a.roles a.saving.now a.more l.q =
    elim c.if-roles-bits-ne0.branch [
      | then-roles-bits-ne0 w ↦ w.us-is ∙ ap worth (sym (ap not (ne_eqb _ _ w.if-roles-bits-ne0.true)) ∙ test)
      | else-roles-bits-ne0 w ↦ w.us-is ∙ ap worth (sym (ap not (eq-eqb _ _ w.if-roles-bits-ne0.false)) ∙ test)
    ] in
    (simp length-set l.invariant.0, fill_more l.us l.q _ (worth_at a.roles a.saving.now a.more) (omega arith) l.invariant.1 is)
