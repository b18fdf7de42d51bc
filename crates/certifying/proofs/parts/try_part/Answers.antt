use mathlib.Core.Path.{◌≡◌, sym, ◌∙◌}
use native.Mathlib.Omega.{arith}
use Rattle.certifying.proofs.PartLaws.{part_fails, part_passes, part_ends, part_ends_elsewhere}
use Rattle.certifying.proofs.parts.try_part.Goals as goal

pub returns-in-None : goal.returns-in-None
returns-in-None c =
    let a = c.args in
    let l = c.loop-j in
    let t = c.test_row-trial in
    (part_fails _ a.part.end l.j a.part.to l.on (omega arith) t.result t.ensures c.in-None.is ∙ sym l.invariant.4, omega (arith, c.requires.5, c.requires.7))

pub loop-j-preserved : goal.loop-j-preserved
loop-j-preserved c =
    let a = c.args in
    let l = c.loop-j in
    let t = c.test_row-trial in (
      omega (arith, l.invariant.0),
      omega (arith, l.invariant.1),
      omega (arith, l.invariant.2),
      omega (arith, l.invariant.3),
      l.invariant.4 ∙ part_passes _ a.part.end l.j a.part.to l.on (omega arith) t.result _ t.ensures c.in-Some.is,
    )

pub returns-then-on-part : goal.returns-then-on-part
returns-then-on-part c =
    let a = c.args in
    let l = c.loop-j in
    (part_ends _ a.part.end l.j a.part.to l.on (omega arith) c.if-on-part.true ∙ sym l.invariant.4, omega arith)

pub returns : goal.returns
returns c =
    let a = c.args in
    let l = c.loop-j in
    let last : a.part.to ≡ l.j = omega (arith, c.requires.6) in
    (last ∙ part_ends_elsewhere _ a.part.end l.j a.part.to l.on (omega arith) c.if-on-part.false ∙ sym l.invariant.4, omega (arith, c.requires.5, c.requires.7))
