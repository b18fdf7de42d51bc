use Prim.Native.Nat.{◌≤◌}
use mathlib.Core.Path.{◌∙◌}
use native.Mathlib.Omega.{arith}
use lib.ListN.{length, drop, length-drop}
use Rattle.format.specs.Contents.{contents_at}
use Rattle.format.proofs.ContentsLaws.{nodes_held}
use Rattle.states.proofs.PassLaws.{labels_roled}
use Rattle.states.proofs.TurnLaws.{finish}
use Rattle.states.proofs.with_room.Goals as goal

pub returns : goal.returns
returns g c =
    let a = c.args in
    let p = c.requires in
    let ns = (contents_at a.file.now a.head).nodes in
    let rs = drop 1 a.roles.now in
    let long : length ns ≤ length rs = omega (arith, nodes_held a.file.now a.head, length-drop 1 a.roles.now, p.0.nodes) in
    c.follow.ensures
    ∙ finish a.turns.now rs _ _ ns c.decide.ensures long (labels_roled ns 1 a.roles.now (λ i. omega (arith, c.type_inv.roles i))) p.5
