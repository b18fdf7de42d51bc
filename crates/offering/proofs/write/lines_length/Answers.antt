use Prim.Native.Nat.{ℕ, ◌+◌}
use mathlib.Core.Path.{ap}
use lib.ListN.{length}
use Rattle.seated.specs.SeatedTables.{lines_in}
use Rattle.offering.proofs.WriteLaws.{line_length, lines_begin, lines_over}
use native.Mathlib.Omega.{arith}
use Rattle.offering.proofs.write.lines_length.Goals as goal

pub loop-r-init : goal.loop-r-init
loop-r-init c =
    let a = c.args in
    (omega arith, omega (arith, ap length (lines_begin (lines_in a.lines.now) a.roles)))

pub bounds-lines-r : goal.bounds-lines-r
bounds-lines-r c = let l = c.loop-r in omega (arith, c.requires.1.words)

pub overflow_add-n : goal.overflow_add-n
overflow_add-n c = let l = c.loop-r in omega (arith, c.requires.1.few l.r (omega arith))

pub overflow_add-n-in-loop-r : goal.overflow_add-n-in-loop-r
overflow_add-n-in-loop-r c = let l = c.loop-r in omega (arith, c.requires.1.few l.r (omega arith))

pub loop-r-preserved : goal.loop-r-preserved
loop-r-preserved c =
    let a = c.args in
    let l = c.loop-r in
    let few = c.requires.1.few l.r (omega arith) in
    let more = line_length a.lines.now c.requires.1 a.roles l.r (c.from.result + 1) c.requires.0 (omega arith) (ap (λ (x : ℕ). x + 1) c.from.ensures) in
    (omega (arith, few, c.from.ensures), omega (arith, more, l.invariant.1))

pub returns : goal.returns
returns c =
    let a = c.args in
    let l = c.loop-r in
    (omega (arith, l.invariant.1, ap length (lines_over (lines_in a.lines.now) l.r a.roles (omega arith))), omega arith)
