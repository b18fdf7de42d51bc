use mathlib.Core.Path.{◌≡◌, ap, ◌∙◌}
use mathlib.Core.Bool.{cond}
use lib.Dec.{eqb}
use lib.ListN.{get_or}
use borrow.Author.Tests.{eq-eqb, ne_eqb}
use native.Mathlib.Omega.{arith}
use Rattle.format.specs.Writing.{node_put}
use Rattle.states.specs.declared.Turn.{Turn}
use Rattle.states.specs.States.{unpacked}
use Rattle.groups.specs.Groups.{moved}
use Rattle.groups.proofs.WriteLaws.{size_switches, group_put}
use Rattle.groups.proofs.put_group.Goals as goal
use Rattle.groups.proofs.put_group.Goals.{then-it-eq1, else-it-eq1}

pub put_switch-on-requires : goal.put_switch-on-requires
put_switch-on-requires c = omega (arith, c.put_switch-off.ensures.0, size_switches (unpacked c.args.turn))

pub put_node-requires : goal.put_node-requires
put_node-requires c = omega (arith, c.put_switch-off.ensures.0, c.put_switch-on.ensures.0, size_switches (unpacked c.args.turn))

pub returns : goal.returns
returns c =
    let a = c.args in
    let one = c.put_switch-off in
    let two = c.put_switch-on in
    let three = c.put_node in
    let t : Turn = unpacked a.turn in
    let named : c.if-it-eq1.f1 ≡ cond (eqb a.it.tag 1) (get_or a.starts.now a.it.f1 0) a.it.f1 =
    elim c.if-it-eq1.branch [
      | then-it-eq1 w ↦ rw (eq-eqb _ _ w.if-it-eq1.true) (w.f1-is ∙ w.renamed-f1.ensures)
      | else-it-eq1 w ↦ rw (ne_eqb _ _ w.if-it-eq1.false) w.f1-is
    ] in
    let put = three.ensures ∙ ap (λ f1. node_put a.head two.result (record { tag = a.it.tag; f1 = f1; f2 = a.it.f2 }) two.new.out) named in (
      omega (arith, one.ensures.0, two.ensures.0, size_switches t),
      group_put a.head a.out.now one.new.out two.new.out three.new.out a.at one.result two.result t (moved a.starts.now a.it)
          one.ensures.0 one.ensures.1 two.ensures.0 two.ensures.1 put,
    )
