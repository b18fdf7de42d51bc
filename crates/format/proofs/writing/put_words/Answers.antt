use Prim.Native.Nat.{◌*◌, ◌-◌}
use mathlib.Core.Path.{ap, ◌∙◌}
use native.Mathlib.Omega.{arith}
use mathlib.Core.List.{List}
use Prim.Native.Nat.{ℕ, ◌+◌}
use lib.ListN.{set, get_or}
use Rattle.format.proofs.WriteLaws.{copy_turn, copied_words}
use Rattle.format.proofs.writing.put_words.Goals as goal

pub loop-i-preserved : goal.loop-i-preserved
loop-i-preserved c =
    let a = c.args in
    let l = c.loop-i in
    ap (λ (x : List ℕ). set x (2 * a.from + l.i) (get_or a.file.now (2 * a.from + l.i) 0)) l.invariant
    ∙ copy_turn a.file.now a.out.now (2 * a.from) (2 * a.from) l.i (omega (arith, c.requires.1 (omega arith))) (omega arith)

pub returns : goal.returns
returns c =
    let a = c.args in
    let l = c.loop-i in
    l.invariant ∙ copied_words a.file.now a.out.now a.from a.from (a.to - a.from) l.i (λ x. (c.type_inv.file x).fits) (omega arith)
    (λ h. omega (arith, c.requires.1 (omega (arith, h)))) (omega arith)
